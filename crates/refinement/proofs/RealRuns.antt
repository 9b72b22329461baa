-- A round that ends real gives a run from an initial to a bad word.
use Rattle.std.proofs.Common.{◌≡◌, ℕ, List, [], ◌∷◌, length, refl, subst}
use Rattle.word_automata.specs.Automaton.{Automaton}
use Rattle.safety_problem.specs.Task.{Task}
use Rattle.search_history.specs.Rounds.{Relation, Forward, spent_before_merging, stops, goes_on, IsRound}
use Rattle.search_history.specs.Replays.{IsReplay, IsLeastRun}
use Rattle.search_history.specs.Histories.{SearchRound, IsSearchRound, IsReplayed}
use Rattle.search_history.specs.declared.round.RoundEnd.{RoundEnd}
use Rattle.search_history.specs.declared.round.RoundEnd.TheVariants.{Closed, MeetsBad, Spent}
use Rattle.search_history.specs.declared.log.LogEnd.TheVariants as log_end
use Rattle.trace_replay.specs.Runs.{IsBadChain}
use Rattle.trace_replay.proofs.ForCallers.{real_run_is_bad_chain}
use Rattle.refinement.proofs.RoundLemmas.{round-pairs}

module _ (t : Task) (R : Relation) (budget : ℕ) where
  -- the forward automata begin with the first
  forward-first : {n : Automaton} {s z : ℕ} {ns ms : List Automaton} {end : RoundEnd} → Forward t R budget n s ns ms end z → (rest : List Automaton) × (ns ≡ n ∷ rest)
  forward-first (spent_before_merging e h) = ([], refl)
  forward-first (stops e h merged f end) = ([], refl)
  forward-first (goes_on {ns = ns} e h merged f on next rest) = (ns, refl)

  replayed-real : (s y z : ℕ) (round : SearchRound) (end : RoundEnd) → IsRound t R budget s round.n round.m end y → IsReplayed t budget y round end z → round.end ≡ log_end.Real
      → (words : List (List ℕ)) → IsLeastRun t round.n round.x words → IsBadChain t words
  replayed-real s y z round Closed forward replayed is words run = let closed = replayed.1 in cc
  replayed-real s y z round Spent forward replayed is words run = let spent = replayed.1 in cc
  replayed-real s y z round MeetsBad forward replayed is words run =
      let first = forward-first forward.forward in
      let pairs = round-pairs t R budget s y round.n round.m MeetsBad forward (λ spent. cc) in
      let replay = subst (λ end. IsReplay t budget y round.n round.m round.x end z) is replayed in
      real_run_is_bad_chain t budget y z forward.first first.0 round.m round.x words forward.is_first
      (subst (λ l. length l ≡ length round.m) first.1 pairs.0) (subst (λ l. IsReplay t budget y l round.m round.x log_end.Real z) first.1 replay)
      (subst (λ l. IsLeastRun t l round.x words) first.1 run)

  pub round-run : (s z : ℕ) (round : SearchRound) → IsSearchRound t R budget s round z → round.end ≡ log_end.Real
      → (words : List (List ℕ)) → IsLeastRun t round.n round.x words → IsBadChain t words
  round-run s z round h is words run = replayed-real s h.z z round h.forward_end h.forward h.replayed is words run
