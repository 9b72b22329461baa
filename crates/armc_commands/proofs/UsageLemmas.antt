-- Only words that mean no command are answered by the usage.
use Rattle.std.proofs.Common.{◌≡◌, ℕ, List, inl, inr, None, Result, Ok, Err, sym, ap, ◌∙◌}
use Rattle.armc_io.specs.Library.{LibraryState}
use Rattle.armc_io.specs.Sink.{SinkState}
use Rattle.protocol_syntax.specs.declared.protocol.Protocol.{Protocol}
use Rattle.certificate_checker.specs.declared.answer.Answer.{Answer}
use Rattle.certificate_checker.specs.declared.answer.Answer.TheVariants.{Valid}
use Rattle.protocol_model.specs.Numbering.{system_of}
use Rattle.command_words.specs.Words.{Command, verify, migrate, steps, show, searching, checking_all, generate, command_of}
use Rattle.command_replies.specs.declared.status.Status.{Status}
use Rattle.command_replies.specs.declared.status.Status.TheVariants as status
use Rattle.command_replies.specs.declared.reply.Reply.{Reply}
use Rattle.command_replies.specs.declared.failure.Failure.{Failure}
use Rattle.command_replies.specs.declared.failure.Failure.TheVariants.{ReadFault, TooLong, Memory}
use Rattle.armc_commands.specs.declared.search_reply.Telling.{Telling}
use Rattle.armc_commands.specs.declared.search_reply.Telling.TheVariants.{Certificate, Summary}
use Rattle.armc_commands.specs.SearchReply.{IsSearchReply, Part, only_part}
use Rattle.armc_commands.specs.Commands.{CommandReply}
use Rattle.armc_commands.specs.Commands.CheckAll.{property_parts}
use Rattle.armc_commands.specs.Commands.Generate.{default_search}
use Rattle.armc_commands.specs.Commands.Queries.{telling_of}
use Rattle.armc_commands.specs.Commands.Searches.{search_for}
use Rattle.armc_commands.specs.Commands.Verify.{answer_status}
use Rattle.armc_commands.specs.Outcome.{IsOutcome, IsReply}
use Rattle.command_replies.specs.Reply.{reply_of}
use Rattle.armc_commands.specs.Answer.{Answers}
use Rattle.armc_commands.proofs.SearchLemmas.{not-of-search}

not_of_answer : (a : Answer) → answer_status a ≡ status.Usage → ⊥
not_of_answer Valid e = cc e
not_of_answer _ e = cc e

-- the status of a reply that is this one
status_in : (reply other : Reply) → reply ≡ other → reply.status ≡ status.Usage → other.status ≡ status.Usage
status_in reply other same e = sym (ap (λ (r : Reply). r.status) same) ∙ e

of_search : (told : Telling) (parts : List Part) (reply : Reply) → IsSearchReply told parts reply → reply.status ≡ status.Usage → ⊥
of_search = not-of-search status.Usage (λ e. cc e) (λ e. cc e) (λ e. cc e)

not_of_command : (command : Command) (p : Protocol) (text : List ℕ) (reply : Reply) → CommandReply command p text reply → reply.status ≡ status.Usage → ⊥
not_of_command (verify file certificate) p text reply h e = elim h [
  | inl refuses ↦ let f = status_in reply _ refuses.reply_is e in cc f
  | inr judges ↦ not_of_answer judges.answer (status_in reply _ judges.reply_is e)
]
not_of_command (migrate file certificate) p text reply h e = elim h [
  | inl refuses ↦ let f = status_in reply _ refuses.reply_is e in cc f
  | inr migrates ↦ let f = status_in reply _ migrates.reply_is e in cc f
]
not_of_command (steps file configuration) p text reply h e = elim h [
  | inl lists ↦ let f = status_in reply _ lists.reply_is e in cc f
  | inr refuses ↦ let f = status_in reply _ refuses.reply_is e in cc f
]
not_of_command (show file) p text reply h e = let f = status_in reply _ h e in cc f
not_of_command (searching file query limits) p text reply h e =
    of_search (telling_of query) (only_part (system_of p) (search_for query limits.budget)) reply h e
not_of_command (checking_all file properties limits) p text reply h e = elim h [
  | inl refuses ↦ let f = status_in reply _ refuses.reply_is e in cc f
  | inr checks ↦ of_search (Certificate None) (property_parts limits.budget checks.said) reply checks.replies e
]
not_of_command (generate number workers) p text reply h e = of_search (Summary number) (only_part (system_of p) default_search) reply h e

module _ (words : List (List ℕ)) (l l' : LibraryState) (o o' e e' : SinkState) (result : Status) where
  none_asked : (reply : Reply) → IsReply words l.told reply → reply.status ≡ status.Usage → command_of words ≡ None
  none_asked reply is u = elim is [
    | inl none ↦ none.0
    | inr to_command ↦ elim to_command.replies [
      | inl refused ↦ absurd (let f = status_in reply _ refused.reply_is u in cc f)
      | inr out ↦ absurd (not_of_command to_command.command out.protocol out.text reply out.replies u)
    ]
  ]

  of_outcome : (outcome : Result Reply Failure) → IsOutcome words l l' outcome → (reply_of outcome).status ≡ status.Usage → command_of words ≡ None
  of_outcome (Ok reply) is u = none_asked reply is u
  of_outcome (Err (ReadFault name)) is u = absurd (cc u)
  of_outcome (Err (TooLong name)) is u = absurd (cc u)
  of_outcome (Err Memory) is u = absurd (cc u)

  pub usage_only : Answers words l l' o o' e e' result → result ≡ status.Usage → command_of words ≡ None
  usage_only answer u = elim answer.delivered [
    | inl whole ↦ of_outcome answer.outcome answer.is_outcome (sym whole.status_is ∙ u)
    | inr failed ↦ elim failed [
      | inl at_out ↦ absurd (let f = sym at_out.status_is ∙ u in cc f)
      | inr at_err ↦ absurd (let f = sym at_err.status_is ∙ u in cc f)
    ]
  ]
