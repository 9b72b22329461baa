-- The reply of `verify`, and what it promises.
use Rattle.std.specs.Prelude.{◌≡◌, ◌↔◌, ◌⊎◌, ℕ, List, ◌++◌, IsTrue, codes, decimal}
use Rattle.protocol_model.specs.System.{SystemData}
use Rattle.protocol_model.specs.Patterns.{fits}
use Rattle.protocol_model.specs.Runs.{IsBadRun}
use Rattle.configuration_words.specs.Texts.{configuration_text}
use Rattle.certificate.specs.Meaning.{IsCertificateOf}
use Rattle.certificate.specs.RunText.{rule_name}
use Rattle.certificate.specs.declared.safe.Certificate.{Certificate}
use Rattle.certificate.specs.declared.safe.Certificate.TheVariants as certificate
use Rattle.certificate_checker.specs.Proof.{Proves, IsSafe}
use Rattle.certificate_checker.specs.Answers.{IsAnswer}
use Rattle.certificate_checker.specs.declared.answer.Answer.{Answer}
use Rattle.certificate_checker.specs.declared.answer.Answer.TheVariants.{Valid, InitialMissing, BadHeld, Leaves, NotInitial, NotStep, NotBad}
use Rattle.command_replies.specs.declared.status.Status.{Status}
use Rattle.command_replies.specs.declared.status.Status.TheVariants as status
use Rattle.command_replies.specs.declared.reply.Reply.{Reply}
use Rattle.command_replies.specs.Line.{line}
use Rattle.command_replies.specs.Reply.{on_out, RefusesCertificate}

-- the certificate shows the system safe by an automaton that proves it, or not safe by a bad run
abbrev pub IsProofOf : SystemData → Certificate → Type 0
IsProofOf s (certificate.Automaton m) = Proves s m × IsSafe s
IsProofOf s (certificate.BadRun run) = IsBadRun s run

-- what is said of a certificate, by the first part of its judgement that fails
abbrev pub answer_text : SystemData → Answer → List ℕ
answer_text s Valid = codes "valid"
answer_text s (InitialMissing c) = codes "not valid: initial missing: " ++ configuration_text s c
answer_text s (BadHeld c) = codes "not valid: bad held: " ++ configuration_text s c
answer_text s (Leaves r c d) = codes "not valid: leaves by " ++ rule_name s r ++ codes ": " ++ configuration_text s c ++ codes " -> " ++ configuration_text s d
answer_text s NotInitial = codes "not valid: not initial"
answer_text s (NotStep k) = codes "not valid: not step: " ++ decimal k
answer_text s NotBad = codes "not valid: not bad"

-- the configurations that the answer shows fit the system
abbrev pub ShowsFitting : SystemData → Answer → Type 0
ShowsFitting s Valid = Unit {0}
ShowsFitting s (InitialMissing c) = IsTrue (fits s c)
ShowsFitting s (BadHeld c) = IsTrue (fits s c)
ShowsFitting s (Leaves r c d) = IsTrue (fits s c) × IsTrue (fits s d)
ShowsFitting s NotInitial = Unit {0}
ShowsFitting s (NotStep k) = Unit {0}
ShowsFitting s NotBad = Unit {0}

-- the status of an answer
abbrev pub answer_status : Answer → Status
answer_status Valid = status.Done
answer_status _ = status.NotValid

-- the answer of the judgement of the certificate that the text means is told
pub record Judges (s : SystemData) (text : List ℕ) (reply : Reply) : Type 0 where
  pub certificate : Certificate
  pub answer : Answer
  pub means : IsCertificateOf s text certificate
  pub is_answer : IsAnswer s certificate answer
  pub reply_is : reply ≡ on_out (answer_status answer) (line (answer_text s answer))

-- the reply for a system and the text of a certificate
abbrev pub IsVerifyReply : SystemData → List ℕ → Reply → Type 0
IsVerifyReply s text reply = RefusesCertificate s text reply ⊎ Judges s text reply

-- what a certificate that is called valid shows: the text means an automaton that proves the system, which is safe, or a bad run
pub record ShowsProof (s : SystemData) (text : List ℕ) : Type 0 where
  pub certificate : Certificate
  pub means : IsCertificateOf s text certificate
  pub is_proof : IsProofOf s certificate

-- the status is 0 exactly where the text shows a proof
abbrev pub VerifyPromise : SystemData → List ℕ → Reply → Type 0
VerifyPromise s text reply = (reply.status ≡ status.Done) ↔ ShowsProof s text
