-- Each command has one reply for what it read.
use Rattle.std.proofs.Common.{◌≡◌, ◌⊎◌, inl, inr, ℕ, List, None, sym, ap, subst, ◌∙◌}
use Rattle.protocol_syntax.specs.declared.protocol.Protocol.{Protocol}
use Rattle.protocol_syntax.specs.Grammar.{IsProtocol}
use Rattle.protocol_model.specs.System.{SystemData, IsValid}
use Rattle.protocol_model.specs.Allowed.{IsAllowed}
use Rattle.protocol_model.specs.Faults.{first_fault}
use Rattle.protocol_model.specs.Numbering.{system_of}
use Rattle.protocol_steps.specs.OneAnswer.{SuccessorsAreDetermined}
use Rattle.protocol_steps.specs.Successors.{AreSuccessors}
use Rattle.configuration_words.specs.OneReading as configuration
use Rattle.certificate.specs.OneReading as certificate
use Rattle.certificate_checker.specs.OneAnswer.{AnswerIsDetermined}
use Rattle.certificate_checker.specs.Answers.{IsAnswer}
use Rattle.command_words.specs.Words.{Command, verify, migrate, steps, show, searching, checking_all, generate}
use Rattle.command_replies.specs.declared.status.Status.TheVariants as status
use Rattle.command_replies.specs.declared.reply.Reply.{Reply}
use Rattle.command_replies.specs.Line.{line}
use Rattle.command_replies.specs.Reply.{on_out, on_err, RefusesCertificate}
use Rattle.command_replies.specs.Refusal.{configuration_refusal_text, certificate_refusal_text}
use Rattle.command_replies.specs.Reading.{IsFaultless}
use Rattle.armc_commands.specs.Commands.{CommandReply}
use Rattle.armc_commands.specs.declared.search_reply.Telling.{Telling}
use Rattle.armc_commands.specs.declared.search_reply.Telling.TheVariants.{Summary}
use Rattle.armc_commands.specs.SearchReply.{Part, only_part, IsSearchReply}
use Rattle.armc_commands.specs.Commands.CheckAll.{IsCheckAllReply}
use Rattle.armc_commands.specs.Commands.Generate.{default_search}
use Rattle.armc_commands.specs.Commands.Migrate.{IsMigrateReply, Migrates, migrated_text}
use Rattle.armc_commands.specs.Commands.Queries.{telling_of}
use Rattle.armc_commands.specs.Commands.Searches.{search_for}
use Rattle.armc_commands.specs.Commands.Steps.{IsStepsReply, ListsSuccessors, RefusesConfiguration, successors_text}
use Rattle.armc_commands.specs.Commands.Verify.{IsVerifyReply, Judges, answer_status, answer_text}

-- of two kinds of reply that exclude each other there is one, where there is one of each kind
pub either-once : (A B : Reply → Type 0) (r q : Reply) → (A r → A q → r ≡ q) → (B r → B q → r ≡ q) → ((x y : Reply) → A x → B y → ⊥)
    → A r ⊎ B r → A q ⊎ B q → r ≡ q
either-once A B r q one other apart h k = elim h [
  | inl a ↦ elim k [ inl a' ↦ one a a' | inr b ↦ absurd (apart r q a b) ]
  | inr b ↦ elim k [ inl a ↦ absurd (apart q r a b) | inr b' ↦ other b b' ]
]

-- `steps`
module _ (configuration_once : configuration.ConfigurationIsDetermined) (fault_once : configuration.FaultIsDetermined)
    (either : configuration.FaultExcludesConfiguration) (successors_once : SuccessorsAreDetermined) (s : SystemData) (valid : IsValid s) (text : List ℕ) where
  lists_once : (r q : Reply) → ListsSuccessors s text r → ListsSuccessors s text q → r ≡ q
  lists_once r q h k =
      let same = configuration_once s valid text h.configuration k.configuration h.means k.means in
      let pairs = successors_once s k.configuration h.pairs k.pairs (subst (λ c. AreSuccessors s c h.pairs) same h.are_successors) k.are_successors in
      h.reply_is ∙ ap (λ x. on_out status.Done (successors_text s x)) pairs ∙ sym k.reply_is

  refuses_configuration_once : (r q : Reply) → RefusesConfiguration s text r → RefusesConfiguration s text q → r ≡ q
  refuses_configuration_once r q h k =
      h.reply_is
      ∙ ap (λ fault. on_err status.CertificateRefused (line (configuration_refusal_text fault))) (fault_once s text h.fault k.fault h.is_first k.is_first)
      ∙ sym k.reply_is

  pub steps_once : (r q : Reply) → IsStepsReply s text r → IsStepsReply s text q → r ≡ q
  steps_once r q =
      either-once (ListsSuccessors s text) (RefusesConfiguration s text) r q (lists_once r q) (refuses_configuration_once r q)
      (λ x y lists refuses. either s text refuses.fault lists.configuration refuses.is_first lists.means)

-- `verify` and `migrate`
module _ (meaning : certificate.MeaningIsDetermined) (fault_once : certificate.FaultIsDetermined) (either : certificate.FaultExcludesMeaning)
    (s : SystemData) (valid : IsValid s) (text : List ℕ) where
  judges_once : AnswerIsDetermined → (r q : Reply) → Judges s text r → Judges s text q → r ≡ q
  judges_once answer_once r q h k =
      let same = meaning s valid text h.certificate k.certificate h.means k.means in
      let answers = answer_once s k.certificate h.answer k.answer (subst (λ c. IsAnswer s c h.answer) same h.is_answer) k.is_answer in
      h.reply_is ∙ ap (λ a. on_out (answer_status a) (line (answer_text s a))) answers ∙ sym k.reply_is

  refuses_certificate_once : (r q : Reply) → RefusesCertificate s text r → RefusesCertificate s text q → r ≡ q
  refuses_certificate_once r q h k =
      h.reply_is
      ∙ ap (λ fault. on_err status.CertificateRefused (line (certificate_refusal_text fault))) (fault_once s valid text h.fault k.fault h.is_first k.is_first)
      ∙ sym k.reply_is

  pub verify_once : AnswerIsDetermined → (r q : Reply) → IsVerifyReply s text r → IsVerifyReply s text q → r ≡ q
  verify_once answer_once r q =
      either-once (RefusesCertificate s text) (Judges s text) r q (refuses_certificate_once r q) (judges_once answer_once r q)
      (λ x y refuses judges. either s valid text refuses.fault judges.certificate refuses.is_first judges.means)

  migrates_once : (r q : Reply) → Migrates s text r → Migrates s text q → r ≡ q
  migrates_once r q h k =
      let same = meaning s valid text h.same.certificate k.same.certificate h.same.means k.same.means in
      h.reply_is ∙ ap (λ c. on_out status.Done (migrated_text s c)) same ∙ sym k.reply_is

  pub migrate_once : (r q : Reply) → IsMigrateReply s text r → IsMigrateReply s text q → r ≡ q
  migrate_once r q =
      either-once (RefusesCertificate s text) (Migrates s text) r q (refuses_certificate_once r q) (migrates_once r q)
      (λ x y refuses migrates. either s valid text refuses.fault migrates.same.certificate refuses.is_first migrates.same.means)

-- each command
module _ (allowed : (text : List ℕ) (p : Protocol) → IsProtocol text p → IsAllowed p)
    (valid : (p : Protocol) → IsAllowed p → first_fault p ≡ None → IsValid (system_of p))
    (verify_reply_once : (s : SystemData) → IsValid s → (text : List ℕ) (r q : Reply) → IsVerifyReply s text r → IsVerifyReply s text q → r ≡ q)
    (migrate_reply_once : (s : SystemData) → IsValid s → (text : List ℕ) (r q : Reply) → IsMigrateReply s text r → IsMigrateReply s text q → r ≡ q)
    (steps_reply_once : (s : SystemData) → IsValid s → (text : List ℕ) (r q : Reply) → IsStepsReply s text r → IsStepsReply s text q → r ≡ q)
    (check_all_reply_once : (s : SystemData) (budget : ℕ) (text : List ℕ) (r q : Reply) → IsCheckAllReply s budget text r → IsCheckAllReply s budget text q → r ≡ q)
    (search_once : (told : Telling) (parts : List Part) (r q : Reply) → IsSearchReply told parts r → IsSearchReply told parts q → r ≡ q) where
  system_is_valid : (source : List ℕ) (p : Protocol) → IsFaultless source p → IsValid (system_of p)
  system_is_valid source p says = valid p (allowed source p says.is_protocol) says.no_fault

  pub command_once : (command : Command) (source : List ℕ) (p : Protocol) (text : List ℕ) (r q : Reply) → IsFaultless source p
      → CommandReply command p text r → CommandReply command p text q → r ≡ q
  command_once (verify file certificate) source p text r q says h k = verify_reply_once (system_of p) (system_is_valid source p says) text r q h k
  command_once (migrate file certificate) source p text r q says h k = migrate_reply_once (system_of p) (system_is_valid source p says) text r q h k
  command_once (steps file configuration) source p text r q says h k = steps_reply_once (system_of p) (system_is_valid source p says) text r q h k
  command_once (show file) source p text r q says h k = h ∙ sym k
  command_once (searching file query limits) source p text r q says h k =
      search_once (telling_of query) (only_part (system_of p) (search_for query limits.budget)) r q h k
  command_once (checking_all file properties limits) source p text r q says h k = check_all_reply_once (system_of p) limits.budget text r q h k
  command_once (generate number workers) source p text r q says h k = search_once (Summary number) (only_part (system_of p) default_search) r q h k
