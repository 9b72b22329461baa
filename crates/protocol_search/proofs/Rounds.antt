-- What holds of the history of the search for a system, and of the verdict that comes from it.
use Rattle.std.proofs.Common.{◌≡◌, ◌≢◌, ◌≤◌, ◌+◌, ◌∙◌, ℕ, List, [], ◌∷◌, Option, None, Some, length, map, arith, refl, sym, ap, ap₂, subst}
use Rattle.std.specs.List.{last_or, AllByRecursion}
use Rattle.std.proofs.lemmas.List.{length-map}
use Rattle.std.proofs.lemmas.Option.{same_Some}
use Rattle.word_automata.specs.Automaton.{Automaton}
use Rattle.protocol_model.specs.System.{SystemData}
use Rattle.safety_problem.specs.Task.{Task}
use Rattle.safety_problem.specs.Reversal.{reversed}
use Rattle.abstraction.specs.Merging.{Key}
use Rattle.protocol_problem.specs.SystemTask.{task_of}
use Rattle.predicate_abstraction.specs.Predicates.{predicates}
use Rattle.predicate_abstraction.specs.PredicateLaws.{related-excludes, related-equivalence as predicates-equivalence}
use Rattle.predicate_abstraction.specs.Signatures as by_predicate
use Rattle.predicate_abstraction.proofs.ForCallers.{related_by_signature as related_by_predicates}
use Rattle.future_abstraction.specs.FutureLaws.{related-equivalence as lengths-equivalence}
use Rattle.future_abstraction.specs.Signatures as by_length
use Rattle.future_abstraction.proofs.ForCallers.{related_by_signature as related_by_lengths}
use Rattle.past_abstraction.specs.PastLaws.{related-equivalence as pasts-equivalence}
use Rattle.search_history.specs.Counting.{size}
use Rattle.search_history.specs.Histories.{RefinableAbstraction, SearchRound, History, ends, goes_on, last_level, log_of, log_of_round}
use Rattle.fixpoint.specs.Laws.{AreGrowing}
use Rattle.fixpoint.proofs.ForCallers.{growing}
use Rattle.refinement.specs.declared.verdict.Verdict.{Verdict}
use Rattle.refinement.specs.Bounds.{HoldOfRounds}
use Rattle.refinement.specs.Exclusion.{AreRefutedOnce}
use Rattle.refinement.specs.Laws.{LeadsToBad}
use Rattle.refinement.specs.Verdicts.{IsSound}
use Rattle.search_history.specs.declared.log.LogEnd.TheVariants.{Closed}
use Rattle.refinement.proofs.ForCallers.{history-bounded, refuted_once, rounds_bounded, automaton-unique, history-unique, verdict-is-sound}
use Rattle.protocol_search.specs.Analyses.{task_for, searched, searched_task, proof_limit, IsVerdictBy}
use Rattle.protocol_search.specs.Methods.{by_predicates, by_lengths, by_pasts, predicate_search, search_method, first_key, IsByPredicates}
use Rattle.protocol_search.specs.OneVerdict.{HistoryIsDetermined, VerdictIsDetermined}
use Rattle.protocol_search.specs.SearchLaws.{VerdictsAreSound, VerdictsShow, TextsShow}
use Rattle.protocol_search.specs.SystemHistories.{IsWithin, HasIndicesUpTo, IsBoundedByKey, VerdictsHaveHistories, VerdictsAreOfHistories, SearchRefutesOnce}
use Rattle.protocol_search.specs.SystemHistories.{SearchIsBoundedByKeys, SearchIsBoundedByRuns, LogsAreBoundedByRuns}
use Rattle.protocol_search.specs.Verdicts.{IsVerdictFor, IsVerdictOf}
use Rattle.protocol_search.specs.declared.search.Analysis.{Analysis}
use Rattle.protocol_search.specs.declared.search.Analysis.TheVariants.{Backward}
use Rattle.protocol_search.specs.declared.first.FirstAbstraction.{FirstAbstraction}
use Rattle.protocol_search.specs.declared.first.FirstAbstraction.TheVariants.{TargetPredicates, NoPredicates, Lengths, Pasts}
use Rattle.protocol_search.proofs.ByAnalysis.{by-once, by-rounds, by-sound, shown, text-shows, counterexample_leads}

-- each state is related to itself
own-related : (first : FirstAbstraction) (key : Key) (a : Automaton) (p : ℕ) → (search_method first).related key a p p
own-related TargetPredicates key a p = (predicates-equivalence key a).reflexive p
own-related NoPredicates key a p = (predicates-equivalence key a).reflexive p
own-related (Lengths bound) key a p = (lengths-equivalence key a).reflexive p
own-related (Pasts bound) key a p = (pasts-equivalence key a).reflexive p

-- there is one
pub history-once : HistoryIsDetermined
history-once s search rounds rounds' sum sum' h k =
    let bad = automaton-unique _ (searched_task search.analysis s).is_bad h.bad k.bad h.is_bad k.is_bad in
    let moved = subst (λ b. History (searched_task search.analysis s) (search_method search.first) search.budget (first_key search.first b) 0 rounds sum) bad h.history in
    history-unique (searched_task search.analysis s) search.budget (search_method search.first) moved k.history

for_once : (analysis : Analysis) (t : Task) (first : FirstAbstraction) (budget : ℕ) (v w : Verdict) → IsVerdictFor analysis t first budget v
    → IsVerdictFor analysis t first budget w → v ≡ w
for_once analysis t first budget v w h k =
    let bad = automaton-unique (searched analysis t).letters (searched analysis t).is_bad h.bad k.bad h.is_bad k.is_bad in
    let moved = subst (λ b. IsVerdictBy analysis t (search_method first) (first_key first b) budget v) bad h.is_verdict in
    by-once analysis t (search_method first) (first_key first k.bad) budget v w moved k.is_verdict

pub verdict-once : VerdictIsDetermined
verdict-once s search v w h k = for_once search.analysis (task_for search.analysis s) search.first search.budget v w h k

-- a verdict
pub verdict-from : VerdictsHaveHistories
verdict-from s search v h =
    let from = by-rounds search.analysis (task_for search.analysis s) (search_method search.first) (first_key search.first h.bad) search.budget v h.is_verdict in
    record {
      sum = from.sum;
      ended = record {
        rounds = from.rounds;
        history = record { bad = h.bad; is_bad = h.is_bad; history = from.history };
        last_round = from.last_round;
        is_last = from.is_last;
        ends = from.ends;
      };
      log_is = from.log_is;
    }

-- histories of the same rounds end alike
ends-alike : (rounds : List SearchRound) (a b : SearchRound) → last_or None rounds ≡ Some a → last_or None rounds ≡ Some b → b.end ≡ a.end
ends-alike rounds a b h k = ap (λ (r : SearchRound). r.end) (same_Some b a (sym k ∙ h))

pub verdict-of-histories : VerdictsAreOfHistories
verdict-of-histories s search v h end sum other =
    let from = verdict-from s search v h in
    let mine = from.ended in
    let same = history-once s search mine.rounds other.rounds from.sum sum mine.history other.history in
    let last = subst (λ rounds. last_or None rounds ≡ Some mine.last_round) same.0 mine.is_last in (
      sym mine.ends ∙ ends-alike other.rounds other.last_round mine.last_round other.is_last last ∙ other.ends,
      from.log_is ∙ ap₂ (log_of search.budget) same.0 same.1,
    )

pub verdict-sound : VerdictsAreSound
verdict-sound s search v h =
    by-sound search.analysis s (search_method search.first) (own-related search.first) (first_key search.first h.bad) search.budget v h.is_verdict

-- and of a search backward so is the verdict on the reversed problem
pub found-sound : (s : SystemData) (budget : ℕ) (v : Verdict) (h : IsVerdictOf s (predicate_search Backward budget) v)
    → IsSound (reversed (task_of s)) budget h.is_verdict.found
found-sound s budget v h =
    verdict-is-sound (reversed (task_of s)) by_predicates (own-related TargetPredicates) budget (predicates (h.bad ∷ [])) h.is_verdict.found h.is_verdict.is_found

pub verdict-shows : VerdictsShow
verdict-shows s search v h = shown search.analysis s (proof_limit search.analysis search.budget) v (verdict-sound s search v h)

pub verdict-text-shows : TextsShow
verdict-text-shows s search v text h told =
    text-shows search.analysis s (proof_limit search.analysis search.budget) v text (verdict-sound s search v h) told

-- the merged automata of each round grow, whatever relates states
rounds-grow : (t : Task) (method : RefinableAbstraction) (own : (key : Key) (a : Automaton) (p : ℕ) → method.related key a p p) (budget : ℕ) {key : Key} {s z : ℕ}
    → {rounds : List SearchRound} → History t method budget key s rounds z → HoldOfRounds method (λ key round. AreGrowing round.m × Unit {0}) key rounds
rounds-grow t method own budget (ends {key = key} h not_refuted) =
    ((growing t (method.related key) (own key) budget h.forward.forward, tt), λ x last. tt)
rounds-grow t method own budget (goes_on {key = key} {x = set} {rounds = rounds} h refuted last rest) = (
  (growing t (method.related key) (own key) budget h.forward.forward, tt),
  λ x is. subst (λ a. HoldOfRounds method (λ k round. AreGrowing round.m × Unit {0}) (method.next key a) rounds) (same_Some set x (sym last ∙ is))
      (rounds-grow t method own budget rest),
)

-- by predicates no language is refuted twice
module _ (t : Task) (budget : ℕ) {key : Key} {s z : ℕ} {rounds : List SearchRound} where
  refuted-by : (first : FirstAbstraction) → IsByPredicates first → History t (search_method first) budget key s rounds z → AreRefutedOnce rounds
  refuted-by TargetPredicates by h = refuted_once t by_predicates related-excludes budget h
  refuted-by NoPredicates by h = refuted_once t by_predicates related-excludes budget h
  refuted-by (Lengths bound) by h = absurd by
  refuted-by (Pasts bound) by h = absurd by

  -- the merged automata of each round grow, and signatures of states bound them by its key
  bounded-by : (first : FirstAbstraction) → History t (search_method first) budget key s rounds z
      → HoldOfRounds (search_method first) (IsBoundedByKey t.letters first) key rounds
  bounded-by TargetPredicates h =
      rounds_bounded t by_predicates (own-related TargetPredicates) by_predicate.tests by_predicate.signature
      (λ k. related_by_predicates k t.letters) budget h
  bounded-by NoPredicates h =
      rounds_bounded t by_predicates (own-related NoPredicates) by_predicate.tests by_predicate.signature
      (λ k. related_by_predicates k t.letters) budget h
  bounded-by (Lengths bound) h =
      rounds_bounded t by_lengths (own-related (Lengths bound)) (λ k. by_length.tests k t.letters) by_length.future_signature
      (λ k. related_by_lengths k t.letters) budget h
  bounded-by (Pasts bound) h = rounds-grow t by_pasts (own-related (Pasts bound)) budget h

pub refutes_once : SearchRefutesOnce
refutes_once s search rounds sum by h = refuted-by (searched_task search.analysis s) search.budget search.first by h.history

pub bounded-by-keys : SearchIsBoundedByKeys
bounded-by-keys s search rounds sum h = bounded-by (searched_task search.analysis s) search.budget search.first h.history

-- a counterexample bounds each round
bounded-for : (t : Task) (first : FirstAbstraction) (budget n : ℕ) (w : List ℕ) → t.is_initial w → LeadsToBad t n w → {key : Key} {s z : ℕ}
    → {rounds : List SearchRound} → History t (search_method first) budget key s rounds z → AllByRecursion (IsWithin n) rounds
bounded-for t first budget n w begins leads h = history-bounded t (search_method first) (own-related first) budget n w begins leads h

pub bounded-by-runs : SearchIsBoundedByRuns
bounded-by-runs s search run counter rounds sum h =
    let leads = counterexample_leads search.analysis s run counter in
    bounded-for (searched_task search.analysis s) search.first search.budget (length run.steps) leads.0 leads.1 leads.2 h.history

level-within : (n : ℕ) (ns xs : List Automaton) → length ns ≤ n + 1 → last_level ns xs ≤ n
level-within n ns [] h = omega (arith, h)
level-within n ns (x ∷ xs) h = omega (arith, h)

logs-within : (n : ℕ) (rounds : List SearchRound) → AllByRecursion (IsWithin n) rounds → AllByRecursion (HasIndicesUpTo n) (map log_of_round rounds)
logs-within n [] h = tt
logs-within n (round ∷ rounds) h = (
  record {
    listed = subst (λ k. k ≤ n + 1) (sym (length-map round.n size)) h.0.0;
    level = level-within n round.n round.x h.0.0;
  },
  logs-within n rounds h.1,
)

not-closed : (n : ℕ) (o : Option SearchRound) (last : SearchRound) (rounds : List SearchRound) → AllByRecursion (IsWithin n) rounds
    → last_or o rounds ≡ Some last → last_or o [] ≡ None → last.end ≢ Closed
not-closed n o last [] h is none = absurd (let e : None ≡ Some last = sym none ∙ is in cc e)
not-closed n o last (round ∷ []) h is none = subst (λ (r : SearchRound). r.end ≢ Closed) (same_Some round last is) h.0.1
not-closed n o last (round ∷ next ∷ rounds) h is none = not-closed n None last (next ∷ rounds) h.1 is refl

pub logs-bounded : LogsAreBoundedByRuns
logs-bounded s search run counter v h =
    let found = verdict-from s search v h in
    let ended = found.ended in
    let within = bounded-by-runs s search run counter ended.rounds found.sum ended.history in (
      λ closed. not-closed (length run.steps) None ended.last_round ended.rounds within ended.is_last refl (ended.ends ∙ closed),
      subst (λ rounds. AllByRecursion (HasIndicesUpTo (length run.steps)) rounds) (sym (ap (λ l. l.rounds) found.log_is))
          (logs-within (length run.steps) ended.rounds within),
    )
