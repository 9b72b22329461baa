use Rattle.std.proofs.Common.{◌≡◌, ◌∷◌, []}
use Rattle.std.specs.List.{filter, range_with_len}
use Rattle.std.specs.Option.{option_copied}
use Rattle.protocol_model.specs.Words.{raised}
use Rattle.section_patterns.specs.private.Lists.{part_matches}
use Rattle.section_patterns.proofs.letters.single_letters.Given as goal

abbrev pub invariant-letters : goal.invariant-letters
invariant-letters l =
    l.letters.items ≡ raised l.offset (filter (λ a. part_matches (option_copied l.pattern) (a ∷ [])) (range_with_len 0 l.letter))
