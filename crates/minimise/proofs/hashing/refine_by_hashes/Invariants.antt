use Rattle.std.proofs.Common.{◌≡◌, length}
use Rattle.minimise.specs.private.Rounds.{AreToldApart}
use Rattle.minimise.proofs.hashing.refine_by_hashes.Given as goal

abbrev pub invariant-rounds : goal.invariant-rounds
invariant-rounds l = record {
  apart : AreToldApart l.automaton l.classes.items;
  count : length l.finer.items ≡ length l.automaton.states;
}
