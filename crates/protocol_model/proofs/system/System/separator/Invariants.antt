use Rattle.std.proofs.Common.{◌≡◌, take}
use Rattle.protocol_model.specs.System.{total_letters}
use Rattle.protocol_model.proofs.system.System.separator.Given as goal

abbrev pub invariant-sections : goal.invariant-sections
invariant-sections l = (l.section-items ≡ l.self.sections) × (l.total ≡ total_letters (take l.section-index l.section-items))
