use Rattle.std.proofs.Common.{◌≡◌}
use Rattle.std.specs.Option.{option_copied}
use Rattle.configuration_words.proofs.DecodingLemmas.{IsDecoded}
use Rattle.configuration_words.proofs.decoding.decode.Given as goal

abbrev pub invariant-sections : goal.invariant-sections
invariant-sections l =
    (l.section-items ≡ l.system.sections)
    × IsDecoded l.system l.word l.section-index l.offset l.lists.items (option_copied l.rest)
