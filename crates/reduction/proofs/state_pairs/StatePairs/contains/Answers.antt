use Rattle.reduction.proofs.PairEquality.{same_number_pairs}
use Rattle.reduction.proofs.state_pairs.StatePairs.contains.Goals as goal

pub find-requires : goal.find-requires
find-requires c = same_number_pairs
