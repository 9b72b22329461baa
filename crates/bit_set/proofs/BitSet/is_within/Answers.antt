use Rattle.std.proofs.Common.{ℕ, get_or, sym, subst, true≢false, ◌∙◌, arith}
use Rattle.bit_set.specs.private.Words.{IsPart}
use Rattle.bit_set.proofs.Sets.{within_part, word_read}
use Rattle.bit_set.proofs.BitSet.is_within.Goals as goal

pub returns-then-not-is_part : goal.returns-then-not-is_part
returns-then-not-is_part c = (
  λ t. absurd (true≢false (sym t)),
  λ all.
      let at = c.words.at in
      let word = c.index.result.now in
      let is = word_read c.self.inside.words.items c.args.self.now at word (omega arith) c.index.ensures c.self.view_is in
      let part : IsPart word c.word.result = subst (λ (word : ℕ). IsPart word c.word.result) (sym is)
      (subst (IsPart (get_or c.args.self.now at 0)) (sym c.word.ensures) (within_part c.args.self.now c.args.other.now at all)) in
      sym c.if-not-is_part.true ∙ c.is_part.ensures.1 part,
)
