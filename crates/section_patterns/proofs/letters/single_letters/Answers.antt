use Rattle.std.proofs.Common.{◌∷◌, [], true, false, sym, ap, ◌∙◌}
use Rattle.std.specs.Option.{option_copied}
use Rattle.section_patterns.specs.private.Lists.{part_matches}
use Rattle.section_patterns.proofs.ListLemmas.{chosen_next}
use Rattle.section_patterns.proofs.letters.single_letters.Goals as goal
use Rattle.section_patterns.proofs.letters.single_letters.Goals.{then-matches_single+in_ok-push, else-matches_single}

pub letters-preserved : goal.letters-preserved
letters-preserved c = elim c.if-matches_single.branch [
  | then-matches_single+in_ok-push w ↦
      chosen_next c.args.offset (λ a. part_matches (option_copied c.args.pattern) (a ∷ [])) c.letters.letter true c.letters.letters.items
      c.if-matches_single.letters.items (sym w.if-matches_single.true ∙ c.matches_single.ensures) c.letters.invariant
      (ap (λ v. v.items) w.letters-is ∙ w.in_ok-push.ensures.items)
  | else-matches_single w ↦
      chosen_next c.args.offset (λ a. part_matches (option_copied c.args.pattern) (a ∷ [])) c.letters.letter false c.letters.letters.items
      c.if-matches_single.letters.items (sym w.if-matches_single.false ∙ c.matches_single.ensures) c.letters.invariant
      (ap (λ v. v.items) w.letters-is)
]
