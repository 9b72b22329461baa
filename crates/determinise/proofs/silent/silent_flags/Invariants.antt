use Rattle.std.proofs.Common.{◌≡◌, length}
use Rattle.determinise.specs.private.Subsets.{ArePlainWhereFalse}
use Rattle.determinise.proofs.silent.silent_flags.Given as goal

abbrev pub invariant-states : goal.invariant-states
invariant-states l = record {
  count : length l.flags.items ≡ l.state;
  plain : ArePlainWhereFalse l.automaton l.flags.items;
}
