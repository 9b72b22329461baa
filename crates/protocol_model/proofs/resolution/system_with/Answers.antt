use Rattle.std.proofs.Common.{refl}
use Rattle.protocol_model.proofs.Validity.{system_valid}
use Rattle.protocol_model.proofs.resolution.system_with.Goals as goal

pub invariant_of-result : goal.invariant_of-result
invariant_of-result c =
    rw (c.in_ok-name.ensures, c.in_ok-sections.ensures, c.as_slice.ensures, c.requires.init, c.requires.rules, c.requires.bad)
    (system_valid c.args.protocol.now c.requires.allowed c.requires.clean)

pub returns-clause-system : goal.returns-clause-system
returns-clause-system c = (
  c.requires.clean,
  rw (c.in_ok-name.ensures, c.in_ok-sections.ensures, c.as_slice.ensures, c.requires.init, c.requires.rules, c.requires.bad) refl,
)
