-- What the reply of a search backward promises.
use Rattle.std.proofs.Common.{◌≡◌, ◌∙◌, ℕ, List, [], ◌∷◌, None, refl, sym, subst}
use Rattle.word_automata.specs.Automaton.{Automaton}
use Rattle.protocol_model.specs.System.{SystemData}
use Rattle.protocol_model.specs.Words.{word_of}
use Rattle.safety_problem.specs.Reversal.{reversed}
use Rattle.search_history.specs.declared.log.Log.{Log}
use Rattle.protocol_problem.specs.SystemTask.{task_of}
use Rattle.predicate_abstraction.specs.Predicates.{predicates}
use Rattle.refinement.specs.Verdicts.{IsInvariant, IsSound, IsVerdict}
use Rattle.refinement.specs.declared.verdict.Verdict.{Verdict}
use Rattle.refinement.specs.declared.verdict.Verdict.TheVariants.{Safe, Unsafe, Unknown}
use Rattle.backward_search.specs.BackwardVerdicts.{IsToldBackward}
use Rattle.certificate.specs.SafeText.{MeansAutomaton}
use Rattle.protocol_search.specs.Analyses.{IsCertificateText}
use Rattle.protocol_search.specs.Methods.{by_predicates}
use Rattle.protocol_search.specs.Verdicts.{IsVerdictOf}
use Rattle.protocol_search.proofs.ForCallers.{found-sound}
use Rattle.command_words.specs.declared.Query.TheVariants.{Back}
use Rattle.command_replies.specs.declared.reply.Reply.{Reply}
use Rattle.armc_commands.specs.declared.search_reply.Telling.{Telling}
use Rattle.armc_commands.specs.declared.search_reply.Telling.TheVariants.{Certificate}
use Rattle.armc_commands.specs.SearchReply.{only_part, IsAnswerTo, IsSearchReply}
use Rattle.armc_commands.specs.Commands.Back.{BackPromise, ProvesBackward, ShowsComplement}
use Rattle.armc_commands.specs.Commands.Searches.{search_for}
use Rattle.armc_commands.proofs.SearchLemmas.{SearchesKeep, certificate-promised, one-answer, part-of, where-safe}

-- an invariant of the reversed problem proves the system backward
proves-backward : (s : SystemData) (m : Automaton) → IsInvariant (reversed (task_of s)) m → ProvesBackward s m
proves-backward s m h = record {
  bad = λ c bad. h.initial (word_of s c) (c, bad, refl);
  closed = λ r c d held step. h.closed (word_of s c)
      (word_of s d, held, record { rule = r; old = c; new = d; word_before = refl; word_after = refl; step = step });
  no_initial = λ c initial held. h.misses (word_of s c) held (c, initial, refl);
}

same-proof : (m n : Automaton) (log log' : Log) → Safe m log ≡ Safe n log' → m ≡ n
same-proof m n log log' h = cc h

module _ (s : SystemData) (budget : ℕ) (text : List ℕ) where
  of-found : (v : Verdict) (h : IsVerdictOf s (search_for Back budget) v) (proof : Automaton) (log : Log) → MeansAutomaton s text proof → (found : Verdict)
      → IsVerdict (reversed (task_of s)) by_predicates (predicates (h.bad ∷ [])) budget found → IsSound (reversed (task_of s)) budget found
      → IsToldBackward found (Safe proof log) → ShowsComplement s budget text
  of-found v h proof log means (Safe m log') is sound (c, complement, told) = record {
    initial = h.bad;
    is_initial = h.is_bad;
    found = m;
    log = log';
    is_found = is;
    proves = proves-backward s m sound.invariant;
    complement = c;
    is_complement = complement;
    means = subst (λ a. MeansAutomaton s text a) (same-proof proof c log log' told) means;
  }
  of-found v h proof log means (Unsafe words log') is sound told = absurd (cc told)
  of-found v h proof log means (Unknown log') is sound told = absurd (cc told)

pub back-promised : SearchesKeep → (s : SystemData) (budget : ℕ) (reply : Reply) → IsSearchReply (Certificate None) (only_part s (search_for Back budget)) reply → BackPromise s budget reply
back-promised keep s budget reply h =
    let told : Telling = Certificate None in
    let search = search_for Back budget in
    let one = one-answer (IsAnswerTo told) told (part-of s search) reply h.answers h.are_answers h.reply_is in
    record {
      certificate = certificate-promised keep s search None (λ v text shows. shows) (λ log. refl) reply h;
      complements = λ e. subst (ShowsComplement s budget) (sym one.out_is)
          (where-safe (λ v. IsVerdictOf s search v × IsCertificateText s v one.answer.text) (ShowsComplement s budget one.answer.text)
          (λ proof log h. of-found s budget one.answer.text (Safe proof log) h.0 proof log h.1.1 h.0.is_verdict.found h.0.is_verdict.is_found
          (found-sound s budget (Safe proof log) h.0) h.0.is_verdict.told) one.answer.verdict (one.holds.is_verdict, one.holds.is_told) (sym one.status_is ∙ e));
    }
