use Rattle.std.proofs.Common.{◌≡◌, ◌++◌, length, IsTrue}
use Rattle.std.specs.List.{flat_map, AllByRecursion}
use Rattle.protocol_model.specs.Patterns.{fits}
use Rattle.armc_commands.specs.Commands.Steps.{successor_line}
use Rattle.armc_commands.proofs.commands.steps.successors_text.Given as goal

abbrev pub invariant-lines : goal.invariant-lines
invariant-lines l = record {
  fit : AllByRecursion (λ pair. IsTrue (fits l.system pair.1)) l.rest;
  done : l.text.items ++ flat_map (successor_line l.system) l.rest ≡ flat_map (successor_line l.system) l.pairs;
}

abbrev pub decreases-lines : goal.decreases-lines
decreases-lines l = length l.rest
