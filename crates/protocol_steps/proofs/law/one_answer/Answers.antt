use Rattle.protocol_steps.proofs.OrderedLists.{successors_once}
use Rattle.protocol_steps.proofs.OneRunAnswer.{run_answer_once}
use Rattle.protocol_steps.proofs.law.one_answer.Goals as goal

pub returns : goal.returns
returns c = record { successors = successors_once; run = run_answer_once }
