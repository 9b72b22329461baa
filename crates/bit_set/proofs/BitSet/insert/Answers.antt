use Rattle.std.proofs.Common.{◌/◌, ◌%◌, get_or, refl, sym, subst, inl, inr, arith}
use Rattle.bit_set.specs.Bits.{Has}
use Rattle.bit_set.specs.private.Words.{AddsBit}
use Rattle.bit_set.proofs.Sets.{word_read, inserted_only, inserted_kept, inserted_added}
use Rattle.bit_set.proofs.BitSet.insert.Goals as goal
use Rattle.bit_set.proofs.BitSet.insert.Goals.{After-with_bit}

-- the word that was changed has one bit more
adds : (c : After-with_bit) → AddsBit (get_or c.self.inside.words.items (c.args.number / 64) 0) (c.args.number % 64) c.with_bit.result
adds c =
    let words = c.self.inside.words.items in
    subst (λ word. AddsBit word (c.args.number % 64) c.with_bit.result)
    (word_read words words (c.args.number / 64) c.index.result.now (let l = c.if-at-len.true in omega arith) c.index.ensures refl) c.with_bit.ensures

pub returns-then-at-len-clause-only : goal.returns-then-at-len-clause-only
returns-then-at-len-clause-only c = λ k has.
    let number = c.args.number in
    let more = adds (goal.at.returns-then-at-len-clause-only c).After-with_bit in
    let l = c.if-at-len.true in
    elim (inserted_only c.self.inside.words.items (number / 64) (number % 64) c.with_bit.result (omega arith) (omega arith) more k has) [
      | inl had ↦ inl (subst (λ words. Has words k) c.self.view_is had)
      | inr own ↦ inr (omega arith)
    ]

pub returns-then-at-len-clause-kept : goal.returns-then-at-len-clause-kept
returns-then-at-len-clause-kept c = λ k had.
    let number = c.args.number in
    let more = adds (goal.at.returns-then-at-len-clause-kept c).After-with_bit in
    let l = c.if-at-len.true in
    inserted_kept c.self.inside.words.items (number / 64) (number % 64) c.with_bit.result (omega arith) (omega arith) more k
    (subst (λ words. Has words k) (sym c.self.view_is) had)

pub returns-then-at-len-clause-added : goal.returns-then-at-len-clause-added
returns-then-at-len-clause-added c = λ room.
    let number = c.args.number in
    let more = adds (goal.at.returns-then-at-len-clause-added c).After-with_bit in
    let l = c.if-at-len.true in
    inserted_added c.self.inside.words.items (number / 64) (number % 64) c.with_bit.result (omega arith) (omega arith) more number (omega arith)
