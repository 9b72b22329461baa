use Rattle.std.proofs.Common.{◌⊎◌, ℕ, List, length, sym, ap, subst, arith}
use Rattle.bit_set.specs.Bits.{Has}
use Rattle.bit_set.proofs.Sets.{joined_only, joined_kept, joined_added}
use Rattle.bit_set.proofs.BitSet.add_all.Goals as goal

pub returns-clause-only : goal.returns-clause-only
returns-clause-only c = λ k has.
    subst (λ (words : List ℕ). Has words k ⊎ Has c.args.other.now k) c.self.view_is
    (joined_only c.self.inside.words.items c.args.other.now c.words.self-inside.words.items c.words.at c.words.invariant k has)

pub returns-clause-kept : goal.returns-clause-kept
returns-clause-kept c = λ k has.
    joined_kept c.self.inside.words.items c.args.other.now c.words.self-inside.words.items c.words.at c.words.invariant k
    (subst (λ (words : List ℕ). Has words k) (sym c.self.view_is) has)

pub returns-clause-added : goal.returns-clause-added
returns-clause-added c = λ room k has.
    let mine = ap length c.self.view_is in
    let its = ap length c.other.view_is in
    joined_added c.self.inside.words.items c.args.other.now c.words.self-inside.words.items c.words.at c.words.invariant (omega arith) k has
