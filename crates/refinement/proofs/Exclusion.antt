-- Refuted sets stay out of later rounds, where the abstraction keeps them out.
use Rattle.std.proofs.Common.{◌≡◌, ℕ, List, [], ◌∷◌, ◌++◌, Option, None, Some, IsTrue, refl, sym, ap, subst, ◌∙◌, inl, inr}
use mathlib.Core.List.{reverse_aux}
use Rattle.std.specs.List.{last_or, AllByRecursion}
use Rattle.std.proofs.lemmas.Option.{same_Some}
use Rattle.word_automata.specs.Automaton.{Automaton, accepts}
use Rattle.minimise.specs.Canonical.{IsCanonical, SameLanguage}
use Rattle.safety_problem.specs.Task.{Task, IsAutomatonOf}
use Rattle.abstraction.specs.Merging.{Key, IsMerged}
use Rattle.abstraction.specs.Excluding.{Misses, MergedMisses, refined_by, Excludes}
use Rattle.search_history.specs.Rounds.{Relation, Forward, spent_before_merging, stops, goes_on, IsReachedBy, IsRound, IsEndAt, MeetsBadWords}
use Rattle.search_history.specs.Replays.{Backward, Level, level_of, levels, IsReplayFrom, IsReplayEndAt, AreDisjoint}
use Rattle.search_history.specs.Replays.{stops as ends_back, goes_on as goes_back}
use Rattle.search_history.specs.Histories.{RefinableAbstraction, SearchRound, IsSearchRound, IsReplayed, History, ends}
use Rattle.search_history.specs.Histories.{goes_on as goes_round}
use Rattle.search_history.specs.declared.round.RoundEnd.{RoundEnd}
use Rattle.search_history.specs.declared.round.RoundEnd.TheVariants.{Closed, MeetsBad, Spent}
use Rattle.search_history.specs.declared.log.LogEnd.{LogEnd}
use Rattle.search_history.specs.declared.log.LogEnd.TheVariants as log_end
use Rattle.refinement.specs.Exclusion.{StaysOut, IsNotRefutedAgain, AreRefutedOnce}

refined_by-last : (next : Key → Automaton → Key) (key : Key) (xs : List Automaton) (y : Automaton)
    → refined_by next key (xs ++ y ∷ []) ≡ next (refined_by next key xs) y
refined_by-last next key [] y = refl
refined_by-last next key (x ∷ xs) y = refined_by-last next (next key x) xs y

-- the automaton's words are reached from the first of these levels, if there is one
abbrev IsReachedFrom : Task → List Level → Automaton → Type 0
IsReachedFrom t [] n = Unit {0}
IsReachedFrom t (level ∷ below) n = (w : List ℕ) → IsTrue (accepts n w) → IsReachedBy t level.m w

-- each level, the highest first, has the property, and its words are reached from the level below
abbrev Descend : Task → (Level → Type 0) → List Level → Type 0
Descend t P [] = Unit {0}
Descend t P (level ∷ below) = P level × IsReachedFrom t below level.n × Descend t P below

-- the set that a round refutes is canonical
last_canonical : (t : Task) (budget : ℕ) (o : Option Automaton) (set : Automaton)
    {ls : List Level} {x : Automaton} {s z : ℕ} {xs : List Automaton} {end : LogEnd}
    → IsCanonical x → Backward t budget ls x s xs end z → last_or o xs ≡ Some set → IsCanonical set
last_canonical t budget o set {x = x} own (ends_back e end) last = subst IsCanonical (same_Some x set last) own
last_canonical t budget o set {x = x} own (goes_back e on next rest) last = last_canonical t budget (Some x) set next.canonical rest last

replay_canonical : (t : Task) (budget : ℕ) (set : Automaton) (ls : List Level) (s z : ℕ) (xs : List Automaton) (end : LogEnd)
    → IsReplayFrom t budget s ls xs end z
    → last_or None xs ≡ Some set → IsCanonical set
replay_canonical t budget set [] s z xs end h last = absurd h
replay_canonical t budget set (level ∷ below) s z xs end h last = last_canonical t budget None set h.1.canonical h.2 last

refuted_canonical : (t : Task) (R : Relation) (budget s z : ℕ) (round : SearchRound) (set : Automaton)
    → IsSearchRound t R budget s round z → round.end ≡ log_end.Refuted
    → last_or None round.x ≡ Some set → IsCanonical set
refuted_canonical t R budget s z round set h refuted last = by h.forward_end h.replayed
  where
    by : (end : RoundEnd) → IsReplayed t budget h.z round end z → IsCanonical set
    by Closed replayed = cc (refuted, replayed.1)
    by Spent replayed = cc (refuted, replayed.1)
    by MeetsBad replayed = replay_canonical t budget set (reverse_aux (levels round.n round.m) []) h.z z round.x round.end replayed last

module _ (t : Task) (R : Relation) (budget : ℕ) (x : Automaton) (keeps_out : (a : Automaton) → IsCanonical a → Misses a x → MergedMisses (R a) a x) where
  abbrev MissesAlike : Level → Type 0
  MissesAlike level = Misses level.n x → Misses level.m x

  misses_merged : (n m : Automaton) → IsCanonical n → IsAutomatonOf t.letters (IsMerged (R n) n) m → MissesAlike (level_of n m)
  misses_merged n m canonical merged misses w in_m in_x = keeps_out n canonical misses w ((merged.language w).0 in_m) in_x

  -- the levels of a round keep the set out
  forward_keeps_out : {n : Automaton} {s z : ℕ} {ns ms : List Automaton} {end : RoundEnd} → IsCanonical n → Forward t R budget n s ns ms end z
      → AllByRecursion MissesAlike (levels ns ms)
  forward_keeps_out canonical (spent_before_merging e h) = tt
  forward_keeps_out canonical (stops {n = n} {m = m} e h merged f end) = (misses_merged n m canonical merged, tt)
  forward_keeps_out canonical (goes_on {n = n} {m = m} e h merged f on reached rest) =
      (misses_merged n m canonical merged, forward_keeps_out reached.canonical rest)

  forward_descends : {n : Automaton} {s z : ℕ} {ns ms : List Automaton} {end : RoundEnd} → IsCanonical n → Forward t R budget n s ns ms end z
      → (below : List Level) → IsReachedFrom t below n → Descend t MissesAlike below → Descend t MissesAlike (reverse_aux (levels ns ms) below)
  forward_descends canonical (spent_before_merging e h) below linked lower = lower
  forward_descends canonical (stops {n = n} {m = m} e h merged f end) below linked lower = (misses_merged n m canonical merged, linked, lower)
  forward_descends canonical (goes_on {n = n} {m = m} e h merged f on reached rest) below linked lower =
      forward_descends reached.canonical rest (level_of n m ∷ below) (λ w. (reached.language w).0) (misses_merged n m canonical merged, linked, lower)

  -- the set that a replay refutes has a word that the merged automaton of its level accepts, and misses the other automaton of the level
  abbrev IsRefutedAtLevel : Automaton → Type 0
  IsRefutedAtLevel y = (level : Level) × MissesAlike level × AreDisjoint y level.n × (w : List ℕ) × IsTrue (accepts y w) × IsTrue (accepts level.m w)

  -- the set at the first of these levels has a word, and its words are those of the merged automaton there
  abbrev BeginsAt : List Level → Automaton → Type 0
  BeginsAt [] y = ⊥
  BeginsAt (level ∷ below) y = (w : List ℕ) × IsTrue (accepts y w) × IsTrue (accepts level.m w)

  refuted_at_level : (o : Option Automaton) (y : Automaton) {ls : List Level} {first : Automaton} {s z : ℕ} {xs : List Automaton} {end : LogEnd}
      → Backward t budget ls first s xs end z → end ≡ log_end.Refuted → Descend t MissesAlike ls → BeginsAt ls first
      → last_or o xs ≡ Some y → IsRefutedAtLevel y
  refuted_at_level o y (ends_back {level = level} {below = below} {x = first} {sum = z} {end = end} e at) is down begins last =
      let disjoint = (subst (IsReplayEndAt t budget first level.n z below) is at).1 in
      subst IsRefutedAtLevel (same_Some first y last) (level, down.0, disjoint, begins.0, begins.1, begins.2)
  refuted_at_level o y (goes_back {level = level} {lower = lower} {x = first} {next = next} e on traced rest) is down begins last =
      let (w, both) = on.meets in
      let begins_below = elim (down.1 w both.1) as (λ h. BeginsAt (lower ∷ []) next) [
        | inl here ↦ (w, (traced.language w).1 (here, inl both), here)
        | inr from ↦ (from.0, (traced.language from.0).1 (from.1, inr (w, both, from.2)), from.1)
      ] in
      refuted_at_level (Some first) y rest is down.2 begins_below last

  -- the highest of these levels has a bad word
  abbrev MeetsBadAtTop : List Level → Type 0
  MeetsBadAtTop [] = ⊥
  MeetsBadAtTop (level ∷ below) = MeetsBadWords t level.m

  forward_meets : {n : Automaton} {s z : ℕ} {ns ms : List Automaton} {end : RoundEnd} → Forward t R budget n s ns ms end z → end ≡ MeetsBad
      → (below : List Level) → MeetsBadAtTop (reverse_aux (levels ns ms) below)
  forward_meets (spent_before_merging e h) is below = cc is
  forward_meets (stops {m = m} {sum = z} e h merged f end) is below = (subst (IsEndAt t budget m z) is end).1
  forward_meets (goes_on {n = n} {m = m} e h merged f on reached rest) is below = forward_meets rest is (level_of n m ∷ below)

  replay_at_level : (y : Automaton) (ls : List Level) (s z : ℕ) (xs : List Automaton) (end : LogEnd)
      → IsReplayFrom t budget s ls xs end z → end ≡ log_end.Refuted
      → Descend t MissesAlike ls → MeetsBadAtTop ls → last_or None xs ≡ Some y → IsRefutedAtLevel y
  replay_at_level y [] s z xs end replay is down meets last = absurd meets
  replay_at_level y (level ∷ below) s z xs end (first, suspected, back) is down meets last =
      refuted_at_level None y back is down (meets.0, (suspected.language meets.0).1 (meets.1, meets.2), meets.1) last

  -- a set of the same language was not kept out
  not_same : (y : Automaton) → IsRefutedAtLevel y → SameLanguage x y → ⊥
  not_same y (level, misses, disjoint, w, in_y, in_merged) same =
      misses (λ v in_forward in_x. disjoint v (sym (same v) ∙ in_x, in_forward)) w in_merged (same w ∙ in_y)

  by_end : (s y z : ℕ) (round : SearchRound) (end : RoundEnd)
      → IsRound t R budget s round.n round.m end y → IsReplayed t budget y round end z → IsNotRefutedAgain x round
  by_end s y z round Closed forward replayed set refuted same = cc (refuted.0, replayed.1)
  by_end s y z round Spent forward replayed set refuted same = cc (refuted.0, replayed.1)
  by_end s y z round MeetsBad forward replayed set refuted same =
      let down = forward_descends forward.is_first.canonical forward.forward [] tt tt in
      let meets = forward_meets forward.forward refl [] in
      not_same set (replay_at_level set (reverse_aux (levels round.n round.m) []) y z round.x round.end replayed refuted.0 down meets refuted.1) same

  round_keeps_out : (s z : ℕ) (round : SearchRound) → IsSearchRound t R budget s round z → StaysOut x round × IsNotRefutedAgain x round
  round_keeps_out s z round h = (forward_keeps_out h.forward.is_first.canonical h.forward.forward, by_end s h.z z round h.forward_end h.forward h.replayed)

module _ (t : Task) (method : RefinableAbstraction) (excludes : Excludes method.related method.next) (budget : ℕ) where
  kept_out : (key : Key) (x : Automaton) → IsCanonical x → (later : List Automaton) (now : Key) → now ≡ refined_by method.next (method.next key x) later
      → (a : Automaton) → IsCanonical a → Misses a x → MergedMisses (method.related now a) a x
  kept_out key x canonical later now is a canonical_a misses =
      subst (λ k. MergedMisses (method.related k a) a x) (sym is) (excludes key x later a misses)

  -- the set stays out of every round whose key comes after it
  later_keep_out : (key : Key) (x : Automaton) → IsCanonical x → (later : List Automaton) {now : Key} {s z : ℕ} {rounds : List SearchRound}
      → now ≡ refined_by method.next (method.next key x) later → History t method budget now s rounds z
      → AllByRecursion (λ round. StaysOut x round × IsNotRefutedAgain x round) rounds
  later_keep_out key x canonical later is (ends {key = now} {s = s} {sum = z} {round = round} h not_refuted) =
      (round_keeps_out t (method.related now) budget x (kept_out key x canonical later now is) s z round h, tt)
  later_keep_out key x canonical later is (goes_round {key = now} {s = s} {z = y} {round = round} {x = set} h refuted last rest) = (
    round_keeps_out t (method.related now) budget x (kept_out key x canonical later now is) s y round h,
    later_keep_out key x canonical (later ++ set ∷ [])
        (ap (λ k. method.next k set) is ∙ sym (refined_by-last method.next (method.next key x) later set)) rest,
  )

  pub refuted_once : {key : Key} {s z : ℕ} {rounds : List SearchRound} → History t method budget key s rounds z → AreRefutedOnce rounds
  refuted_once (ends h not_refuted) = (λ x refuted. tt, tt)
  refuted_once (goes_round {key = key} {s = s} {z = y} {round = round} {x = set} {rounds = rounds} h refuted last rest) = (
    λ x is.
        let same : set ≡ x = same_Some set x (sym last ∙ is.1) in
        subst (λ a. AllByRecursion (λ later. StaysOut a later × IsNotRefutedAgain a later) rounds) same
        (later_keep_out key set (refuted_canonical t (method.related key) budget s y round set h refuted last) [] refl rest),
    refuted_once rest,
  )
