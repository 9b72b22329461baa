-- An answer to a search that decides stays for every larger budget.
use Rattle.std.proofs.Common.{◌≡◌, ◌≢◌, ◌⊎◌, ◌∙◌, ℕ, List, Result, Ok, Err, inl, inr, refl, sym, subst}
use Rattle.protocol_syntax.specs.OneReading.{ProtocolIsDetermined, FaultIsDetermined, FaultExcludesProtocol}
use Rattle.protocol_syntax.specs.OneReading.{PropertiesAreDetermined, PropertiesFaultIsDetermined, FaultExcludesProperties}
use Rattle.protocol_model.specs.Numbering.{system_of}
use Rattle.protocol_search.specs.SearchLaws.{LargerBudgetKeepsVerdict, LargerBudgetKeepsText}
use Rattle.command_words.specs.Words.{searching, checking_all}
use Rattle.command_replies.specs.declared.status.Status.TheVariants as status
use Rattle.command_replies.specs.declared.reply.Reply.{Reply}
use Rattle.command_replies.specs.declared.failure.Failure.{Failure}
use Rattle.command_replies.specs.declared.failure.Failure.TheVariants.{Memory}
use Rattle.command_replies.specs.Reply.{reply_of}
use Rattle.armc_commands.specs.Origin.{Told}
use Rattle.armc_commands.specs.ReplyLaws.{limited_to, SameAnswer, KeepsParts, LargerBudgetKeepsReply, LargerBudgetKeepsParts}
use Rattle.armc_commands.proofs.CheckAllLemmas.{check-all-kept}
use Rattle.armc_commands.proofs.OneReplyLemmas.{outcomes_alike}
use Rattle.armc_commands.proofs.QueryLemmas.{query-stays}

not-unknown : (reply : Reply) → (reply.status ≡ status.Done) ⊎ (reply.status ≡ status.Unsafe) → reply.status ≢ status.Unknown
not-unknown reply h unknown = elim h [ inl done ↦ let e = sym done ∙ unknown in cc e | inr unsafe ↦ let e = sym unsafe ∙ unknown in cc e ]

not-memory : (outcome : Result Reply Failure) → ((reply_of outcome).status ≡ status.Done) ⊎ ((reply_of outcome).status ≡ status.Unsafe)
    → outcome ≢ Err Memory
not-memory outcome h memory =
    elim (subst (λ (o : Result Reply Failure). ((reply_of o).status ≡ status.Done) ⊎ ((reply_of o).status ≡ status.Unsafe)) memory h) [
      | inl done ↦ cc done
      | inr unsafe ↦ cc unsafe
    ]

module _ (protocol_once : ProtocolIsDetermined) (fault_once : FaultIsDetermined) (fault_or_protocol : FaultExcludesProtocol)
    (keeps : LargerBudgetKeepsVerdict) (keeps-text : LargerBudgetKeepsText) where
  pub larger-keeps-reply : (words : List (List ℕ)) (told : Told) → LargerBudgetKeepsReply words told
  larger-keeps-reply words told others outcome other ask tells h decides k n =
      outcomes_alike protocol_once fault_once fault_or_protocol words told tells (searching ask.file ask.query ask.limits) ask.asked
      (searching ask.file ask.query (limited_to ask.larger ask.limits)) refl refl
      (λ one two. (reply_of one).status ≢ status.Unknown → SameAnswer (reply_of one) (reply_of two)) (λ _ _. record { status = refl; out = refl })
      (λ source p text r q says by_first by_second decided.
      query-stays keeps keeps-text ask.query (system_of p) ask.limits.budget ask.larger r q ask.more by_first decided by_second)
      others ask.asked_too outcome other h k (not-memory outcome decides) n (not-unknown (reply_of outcome) decides)

  pub larger-keeps-parts : PropertiesAreDetermined → PropertiesFaultIsDetermined → FaultExcludesProperties
      → (words : List (List ℕ)) (told : Told) → LargerBudgetKeepsParts words told
  larger-keeps-parts properties-once properties-fault-once either words told others r q ask tells h k =
      outcomes_alike protocol_once fault_once fault_or_protocol words told tells (checking_all ask.file ask.properties ask.limits) ask.asked
      (checking_all ask.file ask.properties (limited_to ask.larger ask.limits)) refl refl
      (λ one two. (reply_of one ≡ reply_of two) ⊎ KeepsParts (reply_of one) (reply_of two)) (λ _. inl refl)
      (λ source p text one two says by_first by_second.
      check-all-kept properties-once properties-fault-once either keeps keeps-text (system_of p) ask.limits.budget ask.larger ask.more text one two by_first by_second)
      others ask.asked_too (Ok r) (Ok q) h k (λ e. cc e) (λ e. cc e)
