use Rattle.std.proofs.Common.{◌≡◌, map, take}
use Rattle.protocol_properties.specs.Sections.{name_of}
use Rattle.protocol_properties.proofs.sections.copy_as_names.Given as goal

abbrev pub invariant-texts : goal.invariant-texts
invariant-texts l = l.names.items ≡ map name_of (take l.text-index l.texts)
