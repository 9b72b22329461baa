-- Two rounds, two replays and two histories with the same beginning are equal: each automaton is determined by its words, and each end
-- by what the last automaton accepts.
use Rattle.std.proofs.Common.{◌≡◌, ◌+◌, ◌∙◌, ℕ, Bool, true, false, List, [], ◌∷◌, None, Some, IsTrue, arith, refl, sym, subst, ap, reverse, true≢false}
use Rattle.std.specs.List.{last_or}
use Rattle.word_automata.specs.Automaton.{Automaton, accepts}
use Rattle.minimise.proofs.ForCallers.{is_unique}
use Rattle.safety_problem.specs.Task.{Task, IsAutomatonOf}
use Rattle.abstraction.specs.Merging.{Key, IsMerged}
use Rattle.search_history.specs.Counting.{size}
use Rattle.search_history.specs.Rounds.{Relation, Forward, spent_before_merging, stops, goes_on, IsRound, IsEndAt, GoesOnFrom, IsReachedBy}
use Rattle.search_history.specs.Replays.{Backward, Level, levels, IsReplayFrom, IsReplayEndAt, GoesBackFrom, IsSuspected, IsTracedBack}
use Rattle.search_history.specs.Replays.{stops as ends_back, goes_on as goes_back}
use Rattle.search_history.specs.Histories.{RefinableAbstraction, SearchRound, IsSearchRound, IsReplayed, History, ends}
use Rattle.search_history.specs.Histories.{goes_on as goes_round}
use Rattle.search_history.specs.declared.round.RoundEnd.{RoundEnd}
use Rattle.search_history.specs.declared.round.RoundEnd.TheVariants.{Closed, MeetsBad, Spent}
use Rattle.search_history.specs.declared.log.LogEnd.{LogEnd}
use Rattle.search_history.specs.declared.log.LogEnd.TheVariants as log_end

-- tests that hold together are equal
same_test : (a b : Bool) → (IsTrue a → IsTrue b) → (IsTrue b → IsTrue a) → a ≡ b
same_test true true to from = refl
same_test false false to from = refl
same_test true false to from = sym (to refl)
same_test false true to from = from refl

-- an automaton is determined by the words with a property
pub automaton-unique : (letters : ℕ) (property : List ℕ → Type 0) (m n : Automaton) → IsAutomatonOf letters property m → IsAutomatonOf letters property n → m ≡ n
automaton-unique letters property m n is_m is_n = is_unique m n is_m.canonical is_n.canonical (is_m.same_letters ∙ sym is_n.same_letters)
    (λ w. same_test (accepts m w) (accepts n w) (λ h. (is_n.language w).1 ((is_m.language w).0 h)) (λ h. (is_m.language w).1 ((is_n.language w).0 h)))

-- no word that is accepted is refused
not-both : (m : Automaton) (w : List ℕ) → IsTrue (accepts m w) → accepts m w ≡ false → ⊥
not-both m w yes-it-is no-it-is = true≢false (sym yes-it-is ∙ no-it-is)

-- the end of a round is determined by its last merged automaton
end-unique : (t : Task) (budget : ℕ) (m : Automaton) (z : ℕ) (e f : RoundEnd) → IsEndAt t budget m z e → IsEndAt t budget m z f → e ≡ f
end-unique t budget m z Closed Closed h k = refl
end-unique t budget m z MeetsBad MeetsBad h k = refl
end-unique t budget m z Spent Spent h k = refl
end-unique t budget m z Closed MeetsBad h k = absurd (h.1 k.1.0 k.1.1 k.1.2)
end-unique t budget m z MeetsBad Closed h k = absurd (k.1 h.1.0 h.1.1 h.1.2)
end-unique t budget m z Closed Spent h k = let below = h.0 in absurd (omega (arith, below, k))
end-unique t budget m z Spent Closed h k = let below = k.0 in absurd (omega (arith, below, h))
end-unique t budget m z MeetsBad Spent h k = let below = h.0 in absurd (omega (arith, below, k))
end-unique t budget m z Spent MeetsBad h k = let below = k.0 in absurd (omega (arith, below, h))

-- a round that goes on does not end
not-ended : (t : Task) (budget : ℕ) (m : Automaton) (z : ℕ) (e : RoundEnd) → IsEndAt t budget m z e → GoesOnFrom t budget m z → ⊥
not-ended t budget m z Closed h on = not-both m on.left.0 (h.2 on.left.0 on.left.1) on.left.2
not-ended t budget m z MeetsBad h on = on.misses h.1.0 h.1.1 h.1.2
not-ended t budget m z Spent h on = let below = on.below in omega (arith, below, h)

-- the same forward automata, end and sum
abbrev SameForward : List Automaton → List Automaton → RoundEnd → ℕ → List Automaton → List Automaton → RoundEnd → ℕ → Type 0
SameForward ns ms e z ns' ms' e' z' = (ns ≡ ns') × (ms ≡ ms') × (e ≡ e') × (z ≡ z')

module _ (t : Task) (R : Relation) (budget : ℕ) where
  merged-unique : (n m m' : Automaton) → IsAutomatonOf t.letters (IsMerged (R n) n) m → IsAutomatonOf t.letters (IsMerged (R n) n) m' → m ≡ m'
  merged-unique n m m' = automaton-unique t.letters (IsMerged (R n) n) m m'

  pub forward-unique : {n : Automaton} {s z z' : ℕ} {ns ms ns' ms' : List Automaton} {e e' : RoundEnd}
      → Forward t R budget n s ns ms e z → Forward t R budget n s ns' ms' e' z' → SameForward ns ms e z ns' ms' e' z'
  forward-unique (spent_before_merging a h) (spent_before_merging b k) = (refl, refl, refl, a ∙ sym b)
  forward-unique (spent_before_merging a h) (stops b k merged f end) = absurd (omega (arith, a, b, h, k))
  forward-unique (spent_before_merging a h) (goes_on b k merged f on next rest) = absurd (omega (arith, a, b, h, k))
  forward-unique (stops a h merged f end) (spent_before_merging b k) = absurd (omega (arith, a, b, h, k))
  forward-unique (goes_on a h merged f on next rest) (spent_before_merging b k) = absurd (omega (arith, a, b, h, k))
  forward-unique (stops {n} {m} {y = y} {sum = z} {end} a h merged f is_end) (stops {m = m'} {y = y'} {sum = z'} {end = end'} b k merged' f' is_end') =
      let same = merged-unique n m m' merged merged' in
      let sums : z ≡ z' = f ∙ ap (λ x. y + size x) same ∙ ap (λ x. x + size m') (a ∙ sym b) ∙ sym f' in
      let there = subst (λ x. IsEndAt t budget x z' end) same (subst (λ x. IsEndAt t budget m x end) sums is_end) in
      ((λ i. n ∷ []), (λ i. same i ∷ []), end-unique t budget m' z' end end' there is_end', sums)
  forward-unique (stops {n} {m} {y = y} {sum = z} {end} a h merged f is_end) (goes_on {m = m'} {y = y'} {z = z'} b k merged' f' on next rest) =
      let same = merged-unique n m m' merged merged' in
      let sums : z ≡ z' = f ∙ ap (λ x. y + size x) same ∙ ap (λ x. x + size m') (a ∙ sym b) ∙ sym f' in
      absurd (not-ended t budget m' z' end (subst (λ x. IsEndAt t budget x z' end) same (subst (λ x. IsEndAt t budget m x end) sums is_end)) on)
  forward-unique (goes_on {n} {m} {y = y} {z = z} a h merged f on next rest) (stops {m = m'} {y = y'} {sum = z'} {end = end'} b k merged' f' is_end') =
      let same = merged-unique n m m' merged merged' in
      let sums : z ≡ z' = f ∙ ap (λ x. y + size x) same ∙ ap (λ x. x + size m') (a ∙ sym b) ∙ sym f' in
      absurd (not-ended t budget m' z' end' is_end' (subst (λ x. GoesOnFrom t budget x z') same (subst (GoesOnFrom t budget m) sums on)))
  forward-unique (goes_on {n} {m} {next} {y = y} {z = z} {ns = ns} {ms} a h merged f on is_next rest)
      (goes_on {m = m'} {next = next'} {y = y'} {z = z'} {sum = sum'} {ns = ns'} {ms = ms'} {end = end'} b k merged' f' on' is_next' rest') =
      let same = merged-unique n m m' merged merged' in
      let sums : z ≡ z' = f ∙ ap (λ x. y + size x) same ∙ ap (λ x. x + size m') (a ∙ sym b) ∙ sym f' in
      let reached = subst (λ x. IsAutomatonOf t.letters (IsReachedBy t x) next) same is_next in
      let after = automaton-unique t.letters (IsReachedBy t m') next next' reached is_next' in
      let aligned = subst (λ x. Forward t R budget x z ns' ms' end' sum') (sym after) (subst (λ x. Forward t R budget next' x ns' ms' end' sum') (sym sums) rest') in
      let later = forward-unique rest aligned in
      ((λ i. n ∷ later.0 i), (λ i. same i ∷ later.1 i), later.2, later.3)

  pub round-unique : (s z z' : ℕ) (ns ms ns' ms' : List Automaton) (e e' : RoundEnd)
      → IsRound t R budget s ns ms e z → IsRound t R budget s ns' ms' e' z' → SameForward ns ms e z ns' ms' e' z'
  round-unique s z z' ns ms ns' ms' e e' h k =
      let first = automaton-unique t.letters t.is_initial h.first k.first h.is_first k.is_first in
      forward-unique h.forward (subst (λ n. Forward t R budget n s ns' ms' e' z') (sym first) k.forward)

-- the end of a replay is determined by its last set
module _ (t : Task) (budget : ℕ) where
  replay-end-unique : (x n : Automaton) (z : ℕ) (below : List Level) (e f : LogEnd)
      → IsReplayEndAt t budget x n z below e → IsReplayEndAt t budget x n z below f → e ≡ f
  replay-end-unique x n z below log_end.Closed f h k = absurd h
  replay-end-unique x n z below log_end.Refuted log_end.Closed h k = absurd k
  replay-end-unique x n z below log_end.Real log_end.Closed h k = absurd k
  replay-end-unique x n z below log_end.Spent log_end.Closed h k = absurd k
  replay-end-unique x n z below log_end.Refuted log_end.Refuted h k = refl
  replay-end-unique x n z below log_end.Real log_end.Real h k = refl
  replay-end-unique x n z below log_end.Spent log_end.Spent h k = refl
  replay-end-unique x n z below log_end.Refuted log_end.Real h k = absurd (h.1 k.1.0 k.1.1)
  replay-end-unique x n z below log_end.Real log_end.Refuted h k = absurd (k.1 h.1.0 h.1.1)
  replay-end-unique x n z below log_end.Refuted log_end.Spent h k = let under = h.0 in absurd (omega (arith, under, k))
  replay-end-unique x n z below log_end.Spent log_end.Refuted h k = let under = k.0 in absurd (omega (arith, under, h))
  replay-end-unique x n z below log_end.Real log_end.Spent h k = let under = h.0 in absurd (omega (arith, under, k))
  replay-end-unique x n z below log_end.Spent log_end.Real h k = let under = k.0 in absurd (omega (arith, under, h))

  -- a replay that goes on does not end
  not-at-end : (x n : Automaton) (z : ℕ) (lower : Level) (below : List Level) (e : LogEnd)
      → IsReplayEndAt t budget x n z (lower ∷ below) e → GoesBackFrom budget x n z → ⊥
  not-at-end x n z lower below log_end.Closed h on = h
  not-at-end x n z lower below log_end.Refuted h on = h.1 on.meets.0 on.meets.1
  not-at-end x n z lower below log_end.Real h on = cc h.2
  not-at-end x n z lower below log_end.Spent h on = let under = on.below in omega (arith, under, h)

  abbrev SameBackward : List Automaton → LogEnd → ℕ → List Automaton → LogEnd → ℕ → Type 0
  SameBackward xs e z xs' e' z' = (xs ≡ xs') × (e ≡ e') × (z ≡ z')

  pub backward-unique : {levels : List Level} {x : Automaton} {s z z' : ℕ} {xs xs' : List Automaton} {e e' : LogEnd}
      → Backward t budget levels x s xs e z → Backward t budget levels x s xs' e' z' → SameBackward xs e z xs' e' z'
  backward-unique (ends_back {level} {below} {x} {sum = z} {end = e} a is_end) (ends_back {sum = z'} {end = e'} b is_end') =
      let sums = a ∙ sym b in
      ((λ i. x ∷ []), replay-end-unique x level.n z' below e e' (subst (λ y. IsReplayEndAt t budget x level.n y below e) sums is_end) is_end', sums)
  backward-unique (ends_back {level} {x = x} {sum = z} {end = e} a is_end) (goes_back {lower = lower} {below = below} {z = z'} b on is_next rest) =
      absurd (not-at-end x level.n z lower below e is_end (subst (GoesBackFrom budget x level.n) (b ∙ sym a) on))
  backward-unique (goes_back {level} {lower} {below} {x} {z = z} a on is_next rest) (ends_back {sum = z'} {end = e'} b is_end') =
      absurd (not-at-end x level.n z' lower below e' is_end' (subst (GoesBackFrom budget x level.n) (a ∙ sym b) on))
  backward-unique (goes_back {level} {lower} {below} {x} {next} {z = z} a on is_next rest) (goes_back {next = next'} {z = z'} {sum = sum'} {xs = xs'} {end = e'} b on' is_next' rest') =
      let after = automaton-unique t.letters (IsTracedBack t lower.m x level.n) next next' is_next is_next' in
      let aligned = subst (λ y. Backward t budget (lower ∷ below) y z xs' e' sum') (sym after)
      (subst (λ y. Backward t budget (lower ∷ below) next' y xs' e' sum') (b ∙ sym a) rest') in
      let later = backward-unique rest aligned in
      ((λ i. x ∷ later.0 i), later.1, later.2)

  pub replay-unique : (levels : List Level) (s z z' : ℕ) (xs xs' : List Automaton) (e e' : LogEnd)
      → IsReplayFrom t budget s levels xs e z → IsReplayFrom t budget s levels xs' e' z' → SameBackward xs e z xs' e' z'
  replay-unique [] s z z' xs xs' e e' h k = absurd h
  replay-unique (level ∷ below) s z z' xs xs' e e' h k =
      let first = automaton-unique t.letters (IsSuspected t level.m) h.0 k.0 h.1 k.1 in
      backward-unique h.2 (subst (λ x. Backward t budget (level ∷ below) x s xs' e' z') (sym first) k.2)

-- whole rounds
abbrev SameRound : SearchRound → ℕ → SearchRound → ℕ → Type 0
SameRound r z r' z' = (r ≡ r') × (z ≡ z')

module _ (t : Task) (budget : ℕ) where
  replayed-unique : (y z z' : ℕ) (ns ms xs xs' : List Automaton) (e e' : LogEnd) (end : RoundEnd)
      → IsReplayed t budget y (record { n = ns; m = ms; x = xs; end = e }) end z
      → IsReplayed t budget y (record { n = ns; m = ms; x = xs'; end = e' }) end z' → SameBackward t budget xs e z xs' e' z'
  replayed-unique y z z' ns ms xs xs' e e' Closed h k = (h.0 ∙ sym k.0, h.1 ∙ sym k.1, h.2 ∙ sym k.2)
  replayed-unique y z z' ns ms xs xs' e e' Spent h k = (h.0 ∙ sym k.0, h.1 ∙ sym k.1, h.2 ∙ sym k.2)
  replayed-unique y z z' ns ms xs xs' e e' MeetsBad h k = replay-unique t budget (reverse (levels ns ms)) y z z' xs xs' e e' h k

  pub search-round-unique : (R : Relation) (s z z' : ℕ) (r r' : SearchRound)
      → IsSearchRound t R budget s r z → IsSearchRound t R budget s r' z' → SameRound r z r' z'
  search-round-unique R s z z' r r' h k =
      let forward = round-unique t R budget s h.z k.z r.n r.m r'.n r'.m h.forward_end k.forward_end h.forward k.forward in
      let ends_same = subst (λ e. IsReplayed t budget h.z (record { n = r'.n; m = r'.m; x = r.x; end = r.end }) e z) forward.2
      (subst (λ ms. IsReplayed t budget h.z (record { n = r'.n; m = ms; x = r.x; end = r.end }) h.forward_end z) forward.1
      (subst (λ ns. IsReplayed t budget h.z (record { n = ns; m = r.m; x = r.x; end = r.end }) h.forward_end z) forward.0 h.replayed)) in
      let aligned = subst (λ y. IsReplayed t budget y (record { n = r'.n; m = r'.m; x = r.x; end = r.end }) k.forward_end z) forward.3 ends_same in
      let back = replayed-unique k.z z z' r'.n r'.m r.x r'.x r.end r'.end k.forward_end aligned k.replayed in
      ((λ i. record { n = forward.0 i; m = forward.1 i; x = back.0 i; end = back.1 i }), back.2)

  -- whole histories
  pub history-unique : (method : RefinableAbstraction) {key : Key} {s z z' : ℕ} {rounds rounds' : List SearchRound}
      → History t method budget key s rounds z → History t method budget key s rounds' z' → (rounds ≡ rounds') × (z ≡ z')
  history-unique method (ends {key} {s} {sum = z} {round} h last) (ends {sum = z'} {round = round'} k last') =
      let same = search-round-unique (method.related key) s z z' round round' h k in ((λ i. same.0 i ∷ []), same.1)
  history-unique method (ends {key} {s} {sum = z} {round} h last) (goes_round {z = y'} {round = round'} k refuted at rest) =
      let same = search-round-unique (method.related key) s z y' round round' h k in absurd (last (ap (λ r. r.end) same.0 ∙ refuted))
  history-unique method (goes_round {key} {s} {z = y} {round = round} h refuted at rest) (ends {sum = z'} {round = round'} k last') =
      let same = search-round-unique (method.related key) s y z' round round' h k in absurd (last' (ap (λ r. r.end) (sym same.0) ∙ refuted))
  history-unique method (goes_round {key} {s} {z = y} {round = round} {x} h refuted at rest) (goes_round {z = y'} {sum = sum'} {round = round'} {x = x'} {rounds = rounds'} k refuted' at' rest') =
      let same = search-round-unique (method.related key) s y y' round round' h k in
      let sets : x ≡ x' = some-same x x' (sym at ∙ ap (λ r. last_or None r.x) same.0 ∙ at') in
      let aligned = subst (λ a. History t method budget (method.next key a) y rounds' sum') (sym sets)
      (subst (λ a. History t method budget (method.next key x') a rounds' sum') (sym same.1) rest') in
      let later = history-unique method rest aligned in
      ((λ i. same.0 i ∷ later.0 i), later.1)
    where
      some-same : (a b : Automaton) → Some a ≡ Some b → a ≡ b
      some-same a b h = cc h
