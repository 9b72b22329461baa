-- A larger budget keeps a history that is decided, and a run bounds the rounds.
use Rattle.std.proofs.Common.{◌≡◌, ◌≢◌, ◌≤◌, ◌+◌, ℕ, zero, suc, List, [], ◌∷◌, Option, Some, IsTrue, length, arith, refl, sym, subst, reverse, inr}
use Rattle.std.specs.List.{last_or, AllByRecursion}
use Rattle.word_automata.specs.Automaton.{Automaton, accepts}
use Rattle.safety_problem.specs.Task.{Task}
use Rattle.abstraction.specs.Merging.{Key}
use Rattle.search_history.specs.Rounds.{Relation, Forward, spent_before_merging, stops, goes_on, IsRound, IsEndAt, GoesOnFrom}
use Rattle.search_history.specs.Replays.{Backward, Level, levels, IsReplayFrom, IsReplayEndAt}
use Rattle.search_history.specs.Replays.{stops as ends_back, goes_on as goes_back}
use Rattle.search_history.specs.Histories.{RefinableAbstraction, SearchRound, IsSearchRound, IsReplayed, History, ends}
use Rattle.search_history.specs.Histories.{goes_on as goes_round}
use Rattle.search_history.specs.declared.round.RoundEnd.{RoundEnd}
use Rattle.search_history.specs.declared.round.RoundEnd.TheVariants.{Closed, MeetsBad, Spent}
use Rattle.search_history.specs.declared.log.LogEnd.{LogEnd}
use Rattle.search_history.specs.declared.log.LogEnd.TheVariants as log_end
use Rattle.fixpoint.proofs.ForCallers.{merged_keeps}
use Rattle.refinement.specs.Laws.{LeadsToBad}
use Rattle.refinement.proofs.RoundLemmas.{closed-proof, closed-round}

module _ (t : Task) (budget larger : ℕ) (more : budget ≤ larger) where
  end-larger : (m : Automaton) (z : ℕ) (e : RoundEnd) → e ≢ Spent → IsEndAt t budget m z e → IsEndAt t larger m z e
  end-larger m z Closed is h = ((let below = h.0 in omega (arith, below, more)), h.1, h.2)
  end-larger m z MeetsBad is h = ((let below = h.0 in omega (arith, below, more)), h.1)
  end-larger m z Spent is h = absurd (is refl)

  on-larger : (m : Automaton) (z : ℕ) → GoesOnFrom t budget m z → GoesOnFrom t larger m z
  on-larger m z h = record { below = (let below = h.below in omega (arith, below, more)); misses = h.misses; left = h.left }

  forward-larger : (R : Relation) {n : Automaton} {s z : ℕ} {ns ms : List Automaton} {e : RoundEnd} → e ≢ Spent
      → Forward t R budget n s ns ms e z → Forward t R larger n s ns ms e z
  forward-larger R is (spent_before_merging a h) = absurd (is refl)
  forward-larger R is (stops {m = m} {sum = z} {end = e} a h merged f end) = stops a (omega (arith, h, more)) merged f (end-larger m z e is end)
  forward-larger R is (goes_on {m = m} {z = z} a h merged f on next rest) =
      goes_on a (omega (arith, h, more)) merged f (on-larger m z on) next (forward-larger R is rest)

  back-end-larger : (x n : Automaton) (z : ℕ) (below : List Level) (e : LogEnd) → e ≢ log_end.Spent
      → IsReplayEndAt t budget x n z below e → IsReplayEndAt t larger x n z below e
  back-end-larger x n z below log_end.Closed is h = h
  back-end-larger x n z below log_end.Refuted is h = ((let under = h.0 in omega (arith, under, more)), h.1)
  back-end-larger x n z below log_end.Real is h = ((let under = h.0 in omega (arith, under, more)), h.1, h.2)
  back-end-larger x n z below log_end.Spent is h = absurd (is refl)

  backward-larger : {levels : List Level} {x : Automaton} {s z : ℕ} {xs : List Automaton} {e : LogEnd} → e ≢ log_end.Spent
      → Backward t budget levels x s xs e z → Backward t larger levels x s xs e z
  backward-larger is (ends_back {level} {below} {x} {sum = z} {end = e} a end) = ends_back a (back-end-larger x level.n z below e is end)
  backward-larger is (goes_back a on next rest) =
      goes_back a (record { below = (let under = on.below in omega (arith, under, more)); meets = on.meets }) next (backward-larger is rest)

  replay-larger : (levels : List Level) (s z : ℕ) (xs : List Automaton) (e : LogEnd) → e ≢ log_end.Spent
      → IsReplayFrom t budget s levels xs e z → IsReplayFrom t larger s levels xs e z
  replay-larger [] s z xs e is h = h
  replay-larger (level ∷ below) s z xs e is h = (h.0, h.1, backward-larger is h.2)

  round-larger : (R : Relation) (s z : ℕ) (ns ms : List Automaton) (e : RoundEnd) → e ≢ Spent → IsRound t R budget s ns ms e z → IsRound t R larger s ns ms e z
  round-larger R s z ns ms e is h = record { first = h.first; is_first = h.is_first; forward = forward-larger R is h.forward }

  by-forward-end : (R : Relation) (s y z : ℕ) (round : SearchRound) (e : RoundEnd) → round.end ≢ log_end.Spent
      → IsRound t R budget s round.n round.m e y → IsReplayed t budget y round e z → IsSearchRound t R larger s round z
  by-forward-end R s y z round Closed is forward h =
      record { forward_end = Closed; z = y; forward = round-larger R s y round.n round.m Closed (λ same. cc same) forward; replayed = h }
  by-forward-end R s y z round Spent is forward h = absurd (is h.1)
  by-forward-end R s y z round MeetsBad is forward h = record {
    forward_end = MeetsBad;
    z = y;
    forward = round-larger R s y round.n round.m MeetsBad (λ same. cc same) forward;
    replayed = replay-larger (reverse (levels round.n round.m)) y z round.x round.end is h;
  }

  search-round-larger : (R : Relation) (s z : ℕ) (round : SearchRound) → round.end ≢ log_end.Spent → IsSearchRound t R budget s round z → IsSearchRound t R larger s round z
  search-round-larger R s z round is h = by-forward-end R s h.z z round h.forward_end is h.forward h.replayed

  pub history-larger : (method : RefinableAbstraction) (o : Option SearchRound) (last : SearchRound) {key : Key} {s z : ℕ} {rounds : List SearchRound} → last.end ≢ log_end.Spent
      → last_or o rounds ≡ Some last → History t method budget key s rounds z → History t method larger key s rounds z
  history-larger method o last is at (ends {key} {s} {sum = z} {round} h not_refuted) =
      let same : round ≡ last = some-same round last at in
      ends (search-round-larger (method.related key) s z round (subst (λ r. r.end ≢ log_end.Spent) (sym same) is) h) not_refuted
    where
      some-same : (a b : SearchRound) → Some a ≡ Some b → a ≡ b
      some-same a b h = cc h
  history-larger method o last is at (goes_round {key} {s} {z = y} {round = round} h refuted set rest) =
      goes_round (search-round-larger (method.related key) s y round (λ spent. cc (refuted, spent)) h) refuted set (history-larger method (Some round) last is at rest)

module _ (t : Task) (R : Relation) (own : (a : Automaton) (p : ℕ) → R a p p) (budget : ℕ) where
  -- where n steps lead from an accepted word to a bad one, at most n + 1 automata follow before merging
  forward-bounded : (n : ℕ) (w : List ℕ) {first : Automaton} {s z : ℕ} {ns ms : List Automaton} {e : RoundEnd} → IsTrue (accepts first w) → LeadsToBad t n w
      → Forward t R budget first s ns ms e z → length ns ≤ n + 1
  forward-bounded n w in_first bad (spent_before_merging a h) = omega arith
  forward-bounded n w in_first bad (stops a h merged f end) = omega arith
  forward-bounded zero w in_first bad (goes_on {n = first} a h merged f on next rest) =
      absurd (on.misses w ((merged.language w).1 (merged_keeps (R first) first (own first) 0 w in_first)) bad)
  forward-bounded (suc n) w in_first bad (goes_on {n = first} a h merged f on next rest) =
      let kept = (merged.language w).1 (merged_keeps (R first) first (own first) 0 w in_first) in
      let later = forward-bounded n bad.0 ((next.language bad.0).1 (inr (w, kept, bad.1))) bad.2 rest in
      omega (arith, later)

  -- and the round does not end closed
  closed-keeps : (m : Automaton) → ((v : List ℕ) → IsTrue (accepts m v) → t.is_bad v → ⊥)
      → ((v : List ℕ) → ((u : List ℕ) × IsTrue (accepts m u) × t.steps u v) → IsTrue (accepts m v))
      → (n : ℕ) (w : List ℕ) → IsTrue (accepts m w) → LeadsToBad t n w → ⊥
  closed-keeps m misses closed zero w held bad = misses w held bad
  closed-keeps m misses closed (suc n) w held bad = closed-keeps m misses closed n bad.0 (closed bad.0 (w, held, bad.1)) bad.2

  round-bounded : (n : ℕ) (w : List ℕ) → t.is_initial w → LeadsToBad t n w → (s z : ℕ) (round : SearchRound) → IsSearchRound t R budget s round z
      → (length round.n ≤ n + 1) × (round.end ≢ log_end.Closed)
  round-bounded n w initial bad s z round h = (
    forward-bounded n w ((h.forward.is_first.language w).1 initial) bad h.forward.forward,
    λ is. let forward = closed-round t R budget s z round h is in
        let (m, at, canonical, letters, few, misses, closed, holds) = closed-proof t R budget own forward.forward refl in
        closed-keeps m misses closed n w (holds w ((forward.is_first.language w).1 initial)) bad,
  )

module _ (t : Task) (method : RefinableAbstraction) (own : (key : Key) (a : Automaton) (p : ℕ) → method.related key a p p) (budget : ℕ) where
  pub history-bounded : (n : ℕ) (w : List ℕ) → t.is_initial w → LeadsToBad t n w → {key : Key} {s z : ℕ} {rounds : List SearchRound}
      → History t method budget key s rounds z → AllByRecursion (λ round. (length round.n ≤ n + 1) × (round.end ≢ log_end.Closed)) rounds
  history-bounded n w initial bad (ends {key} {s} {sum = z} {round} h last) = (round-bounded t (method.related key) (own key) budget n w initial bad s z round h, tt)
  history-bounded n w initial bad (goes_round {key} {s} {z = y} {round = round} h refuted set rest) =
      (round-bounded t (method.related key) (own key) budget n w initial bad s y round h, history-bounded n w initial bad rest)
