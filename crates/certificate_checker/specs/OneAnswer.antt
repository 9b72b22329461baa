-- Law: a certificate has one answer.
use Rattle.std.specs.Prelude.{◌≡◌}
use Rattle.protocol_model.specs.System.{SystemData}
use Rattle.certificate.specs.declared.safe.Certificate.{Certificate}
use Rattle.certificate_checker.specs.declared.answer.Answer.{Answer}
use Rattle.certificate_checker.specs.Answers.{IsAnswer}

abbrev pub AnswerIsDetermined : Type 0
AnswerIsDetermined = (s : SystemData) (c : Certificate) (answer other : Answer) → IsAnswer s c answer → IsAnswer s c other → answer ≡ other
