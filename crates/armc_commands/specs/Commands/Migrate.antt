-- The reply of `migrate`, and what it promises.
use Rattle.std.specs.Prelude.{◌≡◌, ◌⊎◌, ℕ, List}
use Rattle.protocol_model.specs.System.{SystemData}
use Rattle.certificate.specs.Meaning.{IsCertificateOf}
use Rattle.certificate_writing.specs.IndexedWriting.{indexed_text}
use Rattle.certificate.specs.RunText.{unsafe_text}
use Rattle.certificate.specs.declared.safe.Certificate.{Certificate}
use Rattle.certificate.specs.declared.safe.Certificate.TheVariants.{Automaton, BadRun}
use Rattle.command_replies.specs.declared.status.Status.TheVariants as status
use Rattle.command_replies.specs.declared.reply.Reply.{Reply}
use Rattle.command_replies.specs.Reply.{on_out, RefusesCertificate}

-- the text that is printed of a certificate: version 2 of that of an automaton, and the only one of a run
abbrev pub migrated_text : SystemData → Certificate → List ℕ
migrated_text s (Automaton m) = indexed_text s m
migrated_text s (BadRun run) = unsafe_text s run

-- one text and the other mean the same automaton, or the same run
pub record MeanTheSame (s : SystemData) (text other : List ℕ) : Type 0 where
  pub certificate : Certificate
  pub means : IsCertificateOf s text certificate
  pub means_too : IsCertificateOf s other certificate

-- the certificate that the text means is printed in a text that means it too
pub record Migrates (s : SystemData) (text : List ℕ) (reply : Reply) : Type 0 where
  pub same : MeanTheSame s text reply.out
  pub reply_is : reply ≡ on_out status.Done (migrated_text s same.certificate)

-- the reply for a system and the text of a certificate
abbrev pub IsMigrateReply : SystemData → List ℕ → Reply → Type 0
IsMigrateReply s text reply = RefusesCertificate s text reply ⊎ Migrates s text reply

-- at status 0 the printed text means what the text means that was read
abbrev pub MigratePromise : SystemData → List ℕ → Reply → Type 0
MigratePromise s text reply = reply.status ≡ status.Done → MeanTheSame s text reply.out
