use Rattle.std.proofs.Common.{refl}
use Rattle.protocol_model.proofs.ForCallers.{IsAllowed-read}
use Rattle.tests.proofs.systems.read_system.Goals as goal

pub resolve-requires : goal.resolve-requires
resolve-requires c = IsAllowed-read c.args.text.now c.in-Ok.protocol ((c.in-Ok.ensures.protocol c.in-Ok.protocol).1 refl)

pub returns-in-Ok-resolve : goal.returns-in-Ok-resolve
returns-in-Ok-resolve c = record {
  protocol = c.in-Ok.protocol;
  is_protocol = (c.in-Ok.ensures.protocol c.in-Ok.protocol).1 refl;
  no_fault = c.in-Ok-resolve.ensures.system.0;
  is_system = c.in-Ok-resolve.ensures.system.1;
}
