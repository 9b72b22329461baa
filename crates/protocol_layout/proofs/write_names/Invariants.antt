use Rattle.std.proofs.Common.{◌≡◌, ◌++◌, take}
use Rattle.std.specs.List.{flat_map}
use Rattle.protocol_layout.specs.Layout.{names_words}
use Rattle.protocol_syntax.specs.Spacing.{spaced}
use Rattle.protocol_layout.proofs.write_names.Given as goal

abbrev pub invariant-names : goal.invariant-names
invariant-names l = l.out.items ≡ l.fn.out.items ++ flat_map spaced (names_words (take l.name-index l.names))
