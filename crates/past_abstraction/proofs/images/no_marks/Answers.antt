use Rattle.std.proofs.Common.{arith}
use Rattle.past_abstraction.proofs.images.no_marks.Goals as goal

pub returns : goal.returns
returns c = record { none = c.in_ok-marks.ensures.none; room = (let r = c.in_ok-marks.ensures.room in let n = c.states.ensures.count in omega arith) }
