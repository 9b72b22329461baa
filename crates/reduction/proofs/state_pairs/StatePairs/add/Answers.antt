use Rattle.reduction.proofs.PairEquality.{same_number_pairs}
use Rattle.reduction.proofs.state_pairs.StatePairs.add.Goals as goal

pub look_up-requires : goal.look_up-requires
look_up-requires c = same_number_pairs
