use Rattle.certificate_checker.proofs.OneAnswerLemmas.{answer_once}
use Rattle.certificate_checker.proofs.law.one_answer.Goals as goal

pub returns : goal.returns
returns c = answer_once c.one_answer.ensures.run
