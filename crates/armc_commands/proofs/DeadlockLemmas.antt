-- What the reply of a search for deadlocks promises.
use Rattle.std.proofs.Common.{◌∙◌, ℕ, None, sym, subst}
use Rattle.protocol_model.specs.System.{SystemData}
use Rattle.refinement.specs.declared.verdict.Verdict.{Verdict}
use Rattle.protocol_search.specs.Deadlocks.{DeadlockTextShows}
use Rattle.command_words.specs.declared.Query.TheVariants.{Deadlock}
use Rattle.command_replies.specs.declared.reply.Reply.{Reply}
use Rattle.armc_commands.specs.declared.search_reply.Telling.{Telling}
use Rattle.armc_commands.specs.declared.search_reply.Telling.TheVariants.{Certificate}
use Rattle.armc_commands.specs.SearchReply.{only_part, IsSearchReply}
use Rattle.armc_commands.specs.SearchPromise.{PartPromise, IsStatusOfHistory}
use Rattle.armc_commands.specs.Commands.Deadlock.{DeadlockPromise, ShowsDeadlockFree, ShowsDeadlock}
use Rattle.armc_commands.specs.Commands.Searches.{search_for}
use Rattle.armc_commands.proofs.SearchLemmas.{SearchesKeep, one-answer, part-of, where-safe, where-unsafe}

pub deadlock_promised : SearchesKeep → (s : SystemData) (budget : ℕ) (reply : Reply) → IsSearchReply (Certificate None) (only_part s (search_for Deadlock budget)) reply
    → DeadlockPromise s budget reply
deadlock_promised keep s budget reply h =
    let told : Telling = Certificate None in
    let search = search_for Deadlock budget in
    let promise = keep told (only_part s search) reply h in
    let one = one-answer (PartPromise told) told (part-of s search) reply promise.answers promise.promised promise.reply_is in
    let v = one.answer.verdict in
    let P : Verdict → Type 0 = λ v. DeadlockTextShows s v one.answer.text in
    record {
      searched = promise;
      by_history = subst (IsStatusOfHistory s search) (sym one.status_is) one.holds.by_history;
      free = λ e. subst (ShowsDeadlockFree s) (sym one.out_is)
          (where-safe P (ShowsDeadlockFree s one.answer.text) (λ proof log h. (proof, h.0, h.1, h.2)) v one.holds.text_shows (sym one.status_is ∙ e));
      found = λ e. subst (ShowsDeadlock s) (sym one.out_is)
          (where-unsafe P (ShowsDeadlock s one.answer.text) (λ words log h. h) v one.holds.text_shows (sym one.status_is ∙ e));
      unknown = λ sum spent. one.out_is ∙ one.holds.unknown sum spent;
    }
