use Rattle.std.proofs.Common.{◌-◌, ◌≤◌, length}
use Rattle.predicate_abstraction.specs.private.Pairs.{AddsPairs}
use Rattle.predicate_abstraction.proofs.Adding.{IsSourceBefore}
use Rattle.predicate_abstraction.proofs.shared_words.add_sources.Given as goal

abbrev pub invariant-edges : goal.invariant-edges
invariant-edges l = record {
  from : l.place ≤ l.at;
  adds : AddsPairs (IsSourceBefore l.row l.letter l.edges l.at) l.fn.shared l.shared;
}

abbrev pub decreases-edges : goal.decreases-edges
decreases-edges l = length l.edges - l.at
