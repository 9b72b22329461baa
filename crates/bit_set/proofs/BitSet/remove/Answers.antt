use Rattle.std.proofs.Common.{◌/◌, ◌%◌, ◌<◌, ◌∙◌, length, get_or, refl, sym, ap, subst, arith}
use Rattle.std.specs.Int.{bit_at}
use Rattle.bit_set.specs.Bits.{Has}
use Rattle.bit_set.specs.private.Words.{TakesBit}
use Rattle.bit_set.proofs.Sets.{Has-within, word_read, removed_taken, removed_kept, removed_only}
use Rattle.bit_set.proofs.BitSet.remove.Goals as goal
use Rattle.bit_set.proofs.BitSet.remove.Goals.{Else-not-has, After-without_bit}

there : (c : Else-not-has) → c.args.number / 64 < length c.self.inside.words.items
there c = let l = Has-within c.args.self.now c.args.number (c.if-not-has.ensures.0 refl) in let e = ap length c.self.view_is in omega arith

-- the word that was changed has one bit less
takes : (c : After-without_bit) (within : c.args.number / 64 < length c.self.inside.words.items)
    → TakesBit (get_or c.self.inside.words.items (c.args.number / 64) 0) (c.args.number % 64) c.without_bit.result
takes c within =
    let words = c.self.inside.words.items in
    let word = c.index.result.now in
    subst (λ word. TakesBit word (c.args.number % 64) c.without_bit.result) (word_read words words (c.args.number / 64) word within c.index.ensures refl)
    c.without_bit.ensures

pub index-requires : goal.index-requires
index-requires c = let l = there (goal.at.index-requires c).Else-not-has in omega arith

pub without_bit-requires-clause-bit : goal.without_bit-requires-clause-bit
without_bit-requires-clause-bit c =
    let words = c.self.inside.words.items in
    let within = there (goal.at.without_bit-requires-clause-bit c).Else-not-has in
    ap (λ word. bit_at word (c.args.number % 64)) (word_read words words (c.args.number / 64) c.index.result.now within c.index.ensures refl)
    ∙ subst (λ words. Has words c.args.number) (sym c.self.view_is) (c.if-not-has.ensures.0 refl)

pub returns-clause-taken : goal.returns-clause-taken
returns-clause-taken c =
    let number = c.args.number in
    let within = there (goal.at.returns-clause-taken c).Else-not-has in
    let less = takes (goal.at.returns-clause-taken c).After-without_bit within in
    removed_taken c.self.inside.words.items (number / 64) (number % 64) c.without_bit.result within less number refl refl

pub returns-clause-kept : goal.returns-clause-kept
returns-clause-kept c = λ k had other.
    let number = c.args.number in
    let within = there (goal.at.returns-clause-kept c).Else-not-has in
    let less = takes (goal.at.returns-clause-kept c).After-without_bit within in
    removed_kept c.self.inside.words.items (number / 64) (number % 64) c.without_bit.result within less k
    (λ q r. other (omega arith)) (subst (λ words. Has words k) (sym c.self.view_is) had)

pub returns-clause-only : goal.returns-clause-only
returns-clause-only c = λ k has.
    let number = c.args.number in
    let within = there (goal.at.returns-clause-only c).Else-not-has in
    let less = takes (goal.at.returns-clause-only c).After-without_bit within in
    subst (λ words. Has words k) c.self.view_is
    (removed_only c.self.inside.words.items (number / 64) (number % 64) c.without_bit.result within less k has)
