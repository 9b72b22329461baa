use Rattle.std.proofs.Common.{◌≡◌, drop}
use Rattle.protocol_model.specs.Patterns.{lists_fit}
use Rattle.protocol_steps.proofs.configurations.lists_fit.Given as goal

-- whether the lists fit is decided by those that are left
abbrev pub invariant-sections : goal.invariant-sections
invariant-sections l = lists_fit l.sections l.lists ≡ lists_fit (drop l.k l.sections) (drop l.k l.lists)
