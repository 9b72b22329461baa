use Rattle.std.proofs.Common.{sym, subst}
use Rattle.word_automata.proofs.ForCallers.{find_target_at, find_target_gap}
use Rattle.image_preimage.specs.Gaps.{IsGap}
use Rattle.image_preimage.proofs.GapLemmas.{behind_edge, behind_letter}
use Rattle.image_preimage.proofs.gap.Gap.target.Goals as goal

pub returns-in-Ok-clause-value : goal.returns-in-Ok-clause-value
returns-in-Ok-clause-value c = sym (find_target_at c.args.edges.now c.requires.sorted c.args.letter c.in-Ok.at c.in-Ok.ensures.found)

pub returns-in-Ok-clause-gap : goal.returns-in-Ok-clause-gap
returns-in-Ok-clause-gap c =
    let edges = c.args.edges.now in
    subst (λ low. IsGap edges low c.set.new.self.high) (sym c.set.ensures.low)
    (subst (λ high. IsGap edges c.args.letter high) (sym c.set.ensures.high)
    (behind_edge edges c.args.letter c.letter_from.result c.in-Ok.at c.requires.sorted c.letter_from.ensures c.in-Ok.ensures.found))

pub returns-in-Err-clause-value : goal.returns-in-Err-clause-value
returns-in-Err-clause-value c = sym (find_target_gap c.args.edges.now c.args.letter c.in-Err.at c.in-Err.ensures.absent)

pub returns-in-Err-clause-gap : goal.returns-in-Err-clause-gap
returns-in-Err-clause-gap c =
    let edges = c.args.edges.now in
    subst (λ low. IsGap edges low c.set-in-Err.new.self.high) (sym c.set-in-Err.ensures.low)
    (subst (λ high. IsGap edges c.args.letter high) (sym c.set-in-Err.ensures.high)
    (behind_letter edges c.args.letter c.letter_from-in-Err.result c.in-Err.at c.letter_from-in-Err.ensures c.in-Err.ensures.absent))
