use Rattle.std.proofs.Common.{◌-◌, length}
use Rattle.bit_subsets.specs.Subsets.{IsSubset}
use Rattle.determinise.specs.private.Subsets.{AreOrderedMoves}
use Rattle.determinise.proofs.Grouping.{IsGrouped}
use Rattle.determinise.proofs.subsets.SubsetsLanguageSystem.successors.Given as goal

abbrev pub invariant-runs : goal.invariant-runs
invariant-runs l = record {
  subset : IsSubset l.self.automaton.now l.state;
  ordered : AreOrderedMoves l.self.automaton.now l.state l.moves.items;
  grouped : IsGrouped l.self.automaton.now l.state subset l.moves.items ordered l.successors.items l.at;
}

abbrev pub decreases-runs : goal.decreases-runs
decreases-runs l = length l.moves.items - l.at
