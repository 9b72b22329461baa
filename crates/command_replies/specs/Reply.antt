-- Replies that do not depend on the command.
use Rattle.std.specs.Prelude.{◌≡◌, ℕ, List, [], ◌++◌, codes, Result, Ok, Err}
use Rattle.protocol_model.specs.System.{SystemData}
use Rattle.certificate.specs.declared.fault.CertFault.{CertFault}
use Rattle.certificate.specs.Faults.{HasFault}
use Rattle.command_words.specs.Words.{usage_text}
use Rattle.command_replies.specs.declared.status.Status.{Status}
use Rattle.command_replies.specs.declared.status.Status.TheVariants as status
use Rattle.command_replies.specs.declared.reply.Reply.{Reply}
use Rattle.command_replies.specs.declared.failure.Failure.{Failure}
use Rattle.command_replies.specs.declared.failure.Failure.TheVariants.{ReadFault, TooLong, Memory}
use Rattle.command_replies.specs.declared.refusal.Refusal.{Refusal}
use Rattle.command_replies.specs.Line.{line}
use Rattle.command_replies.specs.Refusal.{refusal_text, certificate_refusal_text}

-- a reply with one text, on standard output or on standard error
abbrev pub on_out : Status → List ℕ → Reply
on_out status text = record { status = status; out = text; err = [] }

abbrev pub on_err : Status → List ℕ → Reply
on_err status text = record { status = status; out = []; err = text }

-- the reply to words that mean no command
abbrev pub usage : Reply
usage = on_err status.Usage (line usage_text)

-- the reply with this status to a text of this kind with this first fault
abbrev pub refusal_reply : List ℕ → Status → Refusal → Reply
refusal_reply kind refused refusal = on_err refused (line (refusal_text kind refusal))

-- the first fault of the text of a certificate is told
pub record RefusesCertificate (s : SystemData) (text : List ℕ) (reply : Reply) : Type 0 where
  pub fault : CertFault
  pub is_first : HasFault s text fault
  pub reply_is : reply ≡ on_err status.CertificateRefused (line (certificate_refusal_text fault))

-- what is replied where a call failed
abbrev pub failure_reply : Failure → Reply
failure_reply (ReadFault name) = on_err status.ReadFault (line (codes "armc: read fault: " ++ name))
failure_reply (TooLong name) = on_err status.ReadFault (line (codes "armc: too long: " ++ name))
failure_reply Memory = on_err status.Memory (line (codes "armc: out of memory"))

-- the status and the texts of an answer
abbrev pub reply_of : Result Reply Failure → Reply
reply_of (Ok reply) = reply
reply_of (Err failure) = failure_reply failure
