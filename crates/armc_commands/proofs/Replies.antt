-- What was read of a text and told of it is the reply.
use Rattle.std.proofs.Common.{◌≡◌, ◌≢◌, ◌&&◌, ℕ, Bool, true, false, List, Result, Ok, Err, IfOk, OnOk, IsTrue, refl, inr}
use Rattle.protocol_model.specs.System.{SystemData}
use Rattle.protocol_model.specs.Patterns.{fits}
use Rattle.configuration_words.specs.declared.fault.ConfigFault.{ConfigFault}
use Rattle.configuration_words.specs.declared.fault.ConfigFault.TheVariants as configuration
use Rattle.configuration_words.specs.ConfigurationText.{IsFirstFault}
use Rattle.certificate.specs.declared.fault.CertFault.{CertFault}
use Rattle.certificate.specs.declared.fault.CertFault.TheVariants as certificate_fault
use Rattle.certificate.specs.Faults.{HasFault}
use Rattle.certificate.specs.declared.safe.Certificate.{Certificate}
use Rattle.certificate.specs.declared.safe.Certificate.TheVariants as certificate
use Rattle.certificate.specs.Meaning.{IsCertificateOf}
use Rattle.certificate_checker.specs.Answers.{IsAnswer, HasLetters}
use Rattle.certificate_checker.specs.declared.answer.Answer.{Answer}
use Rattle.certificate_checker.specs.declared.answer.Answer.TheVariants.{Valid, InitialMissing, BadHeld, Leaves, NotInitial, NotStep, NotBad}
use Rattle.command_replies.specs.declared.status.Status.TheVariants as status
use Rattle.command_replies.specs.declared.reply.Reply.{Reply}
use Rattle.command_replies.specs.Line.{line}
use Rattle.command_replies.specs.Reply.{on_err, RefusesCertificate}
use Rattle.command_replies.specs.Refusal.{configuration_refusal_text, certificate_refusal_text}
use Rattle.armc_commands.specs.Commands.Steps.{IsStepsReply}
use Rattle.armc_commands.specs.Commands.Verify.{ShowsFitting}

first_true : (a b : Bool) → IsTrue (a && b) → IsTrue a
first_true true b h = refl
first_true false b h = absurd (cc h)

-- the configurations that an answer shows fit
pub IsAnswer-fits : (s : SystemData) (c : Certificate) (answer : Answer) → IsAnswer s c answer → ShowsFitting s answer
IsAnswer-fits s (certificate.Automaton m) (InitialMissing d) is = first_true (fits s d) _ is.0.0
IsAnswer-fits s (certificate.Automaton m) (BadHeld d) is = first_true (fits s d) _ is.1.0.0
IsAnswer-fits s (certificate.Automaton m) (Leaves r d e) is = (is.2.before.0.1.fits_before, is.2.before.0.1.fits_after)
IsAnswer-fits s (certificate.BadRun run) (InitialMissing d) is = absurd is
IsAnswer-fits s (certificate.BadRun run) (BadHeld d) is = absurd is
IsAnswer-fits s (certificate.BadRun run) (Leaves r d e) is = absurd is
IsAnswer-fits s c Valid is = tt
IsAnswer-fits s c NotInitial is = tt
IsAnswer-fits s c (NotStep k) is = tt
IsAnswer-fits s c NotBad is = tt

-- what a text means has the letters of the system
pub HasLetters-meant : (s : SystemData) (text : List ℕ) (c : Certificate) → IsCertificateOf s text c → HasLetters s c
HasLetters-meant s text (certificate.Automaton m) is = is.automaton.letters_are
HasLetters-meant s text (certificate.BadRun run) is = tt

-- the first fault of a configuration is told
pub steps_refused : {E : Type 0} (s : SystemData) (text : List ℕ) (fault : ConfigFault) (r : Result Reply E)
    → IfOk r (λ reply. reply ≡ on_err status.CertificateRefused (line (configuration_refusal_text fault))) → OnOk r (fault ≢ configuration.Memory)
    → (fault ≢ configuration.Memory → IsFirstFault s text fault) → IfOk r (IsStepsReply s text)
steps_refused s text fault (Ok reply) is other first = inr (record { fault = fault; is_first = first other; reply_is = is })
steps_refused s text fault (Err e) is other first = tt

-- the first fault of a certificate is told
pub certificate_refused : {E : Type 0} (P : Reply → Type 0) (s : SystemData) (text : List ℕ) → ((reply : Reply) → RefusesCertificate s text reply → P reply)
    → (fault : CertFault) (r : Result Reply E)
    → IfOk r (λ reply. reply ≡ on_err status.CertificateRefused (line (certificate_refusal_text fault))) → OnOk r (fault ≢ certificate_fault.Memory)
    → (fault ≢ certificate_fault.Memory → HasFault s text fault) → IfOk r P
certificate_refused P s text replies fault (Ok reply) is other first = replies reply (record { fault = fault; is_first = first other; reply_is = is })
certificate_refused P s text replies fault (Err e) is other first = tt
