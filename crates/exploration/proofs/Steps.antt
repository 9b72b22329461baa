-- The steps of the breadth-first construction: its beginning, one more successor, and the next state.
use Rattle.std.proofs.Common.{◌≡◌, ◌<◌, ◌⊎◌, ℕ, suc, zero, Bool, true, false, not, List, [], ◌∷◌, ◌++◌, Option, None, Some, length, refl, sym, ap, subst, ◌∙◌, inl, inr, arith, slice_get, IsTrue, ◌↔◌, if◌then◌else◌, All, length-append}
use Rattle.std.proofs.lemmas.Bool.{cases_eq, cases_order, true≢false}
use Rattle.std.proofs.lemmas.List.{append_assoc, append-nil}
use Rattle.std.proofs.lemmas.Option.{slice_get_within}
use Rattle.std.proofs.Math.Seq.{get_or-append_seam}
use Rattle.std.specs.List.{list_any}
use Rattle.indexmap.specs.IndexSet.{insert_key}
use Rattle.word_automata.specs.Path.{Node, edges_of, is_accepting}
use Rattle.word_automata.specs.Automaton.{Automaton, target, find_target}
use Rattle.word_automata.specs.Building.{AddsEdge, IsEdgeInRange, with_state, empty_automaton}
use Rattle.exploration.specs.DeterministicSystem.{look_up}
use Rattle.exploration.specs.Residuals.{StartsWith, AreResiduals}
use Rattle.exploration.specs.private.Worklist.{IsEarlier, FirstEdges, IsPlaceOf, Explored, Expands, Numbers}
use Rattle.exploration.proofs.Explored.{AddsTarget, adds_target, FirstEdges-kept, FirstEdges-added}
use Rattle.exploration.proofs.Lists.{slice_get-append, slice_get-append_below, slice_get-push, slice_get-push_cases, slice_get-some, list_any_at, look_up-above, look_up-below, look_up-push_same, look_up-push_other, HasIncreasingLetters-front}

-- a state without edges at the end
edges_of-push : (states : List (Node ℕ)) (b : Bool) (q : ℕ) → edges_of (states ++ record { accepting = b; edges = [] } ∷ []) q ≡ edges_of states q
edges_of-push [] b zero = refl
edges_of-push [] b (suc q) = refl
edges_of-push (x ∷ states) b zero = refl
edges_of-push (x ∷ states) b (suc q) = edges_of-push states b q

is_accepting-push_below : (states : List (Node ℕ)) (b : Bool) (q : ℕ) → q < length states → is_accepting (states ++ record { accepting = b; edges = [] } ∷ []) q ≡ is_accepting states q
is_accepting-push_below [] b q l = absurd (omega arith)
is_accepting-push_below (x ∷ states) b zero l = refl
is_accepting-push_below (x ∷ states) b (suc q) l = is_accepting-push_below states b q (omega arith)

is_accepting-push_last : (states : List (Node ℕ)) (b : Bool) (q : ℕ) → q ≡ length states → is_accepting (states ++ record { accepting = b; edges = [] } ∷ []) q ≡ b
is_accepting-push_last [] b zero l = refl
is_accepting-push_last [] b (suc q) l = cc
is_accepting-push_last (x ∷ states) b zero l = cc
is_accepting-push_last (x ∷ states) b (suc q) l = is_accepting-push_last states b q (omega arith)

target-with_state : (m : Automaton) (b : Bool) (q a : ℕ) → target (with_state m b) q a ≡ target m q a
target-with_state m b q a = ap (λ edges. find_target edges a) (edges_of-push m.states b q)

adds_target-added : (m n : Automaton) (b : Bool) (from letter to : ℕ) → AddsEdge (with_state m b) n from letter to → target m from letter ≡ None → AddsTarget (target m) (target n) from letter to
adds_target-added m n b from letter to adds none =
    let a = adds_target (with_state m b) n from letter to adds (target-with_state m b from letter ∙ none) in
    record { was = none; here = a.here; other = λ q x ne. a.other q x ne ∙ target-with_state m b q x }

module _ {S : Type 0} where
  IsPlaceOf-grows : (found more : List S) (o : Option ℕ) (p : Option S) → IsPlaceOf found o p → IsPlaceOf (found ++ more) o p
  IsPlaceOf-grows found more None None h = tt
  IsPlaceOf-grows found more None (Some s) h = h
  IsPlaceOf-grows found more (Some i) None h = h
  IsPlaceOf-grows found more (Some i) (Some s) h = slice_get-append found more i s h

  pub IsPlaceOf-some : (found : List S) (o : Option ℕ) (i : ℕ) (p : Option S) → o ≡ Some i → IsPlaceOf found o p → (s : S) × (p ≡ Some s) × (slice_get found i ≡ Some s)
  IsPlaceOf-some found None i p e h = cc
  IsPlaceOf-some found (Some j) i None e h = absurd h
  IsPlaceOf-some found (Some j) i (Some s) e h = let same : j ≡ i = cc in (s, refl, subst (λ k. slice_get found k ≡ Some s) same h)

  IsPlaceOf-none : (found : List S) (o : Option ℕ) → o ≡ None → IsPlaceOf found o None
  IsPlaceOf-none found None e = tt
  IsPlaceOf-none found (Some i) e = cc

  IsPlaceOf-from_none : (found : List S) (o : Option ℕ) → IsPlaceOf found o None → o ≡ None
  IsPlaceOf-from_none found None h = refl
  IsPlaceOf-from_none found (Some i) h = absurd h

  -- what inserting a state into the set of states found says
  pub inserted_kept : (eq : S → S → Bool) → ((x y : S) → eq x y ≡ true → x ≡ y) → (old new : List S) (s : S) (i : ℕ)
      → false ≡ not (list_any (eq s) old) → new ≡ insert_key eq old s → (k : S) × (slice_get new i ≡ Some k) × (eq s k ≡ true) → (new ≡ old) × (slice_get old i ≡ Some s)
  inserted_kept eq same old new s i fresh is stored = by (list_any (eq s) old) refl fresh
    where
      by : (b : Bool) → list_any (eq s) old ≡ b → false ≡ not b → (new ≡ old) × (slice_get old i ≡ Some s)
      by false e f = absurd (true≢false (sym f))
      by true e f =
          let kept : new ≡ old = is ∙ ap (λ b. if b then old else old ++ s ∷ []) e in
          (kept, subst (λ ks. slice_get ks i ≡ Some s) kept (stored.1 ∙ ap Some (sym (same s stored.0 stored.2))))

  pub inserted_new : (eq : S → S → Bool) → ((x : S) → eq x x ≡ true) → (old new : List S) (s : S) (i : ℕ)
      → true ≡ not (list_any (eq s) old) → new ≡ insert_key eq old s → (k : S) × (slice_get new i ≡ Some k) × (eq s k ≡ true)
      → (new ≡ old ++ s ∷ []) × (i ≡ length old) × ((q : ℕ) → slice_get old q ≡ Some s → ⊥)
  inserted_new eq self old new s i fresh is stored = by (list_any (eq s) old) refl fresh
    where
      by : (b : Bool) → list_any (eq s) old ≡ b → true ≡ not b → (new ≡ old ++ s ∷ []) × (i ≡ length old) × ((q : ℕ) → slice_get old q ≡ Some s → ⊥)
      by true e f = absurd (true≢false f)
      by false e f =
          let added : new ≡ old ++ s ∷ [] = is ∙ ap (λ b. if b then old else old ++ s ∷ []) e in (
            added,
            elim (slice_get-push_cases old s stored.0 i (subst (λ ks. slice_get ks i ≡ Some stored.0) added stored.1)) [
              | inl there ↦ absurd (true≢false (sym (list_any_at (eq s) old i stored.0 there stored.2) ∙ e))
              | inr last ↦ last.0
            ],
            λ q there. true≢false (sym (list_any_at (eq s) old q s there (self s)) ∙ e),
          )

module _ {S : Type 0} (letters : ℕ) (accepted : List ℕ → Type 0) (language : S → List ℕ → Type 0) (P : S → Type 0) where
  -- before any state
  pub begun_without : StartsWith {S = S} accepted language None → Explored letters accepted language P [] (empty_automaton letters) 0 []
  begun_without none = record {
    count = refl;
    same_letters = refl;
    begun = none;
    states = λ q s h. cc;
    distinct = λ p q s h k. cc;
    accepting = λ q s h. cc;
    done = λ q s l h. absurd (omega arith);
    current = λ a. tt;
    later = λ q a l. refl;
    firsts = record {
      first = λ q. (0, 0);
      edge = λ q h l. absurd (omega arith);
      earlier = λ q h l. absurd (omega arith);
      least = λ q r b h l e. absurd (omega arith);
      ordered = λ q r h k l. absurd (omega arith);
    };
  }

  -- with the start state alone
  pub begun_with : (s : S) (flag : Bool) → StartsWith accepted language (Some s) → P s → (IsTrue flag ↔ language s [])
      → Explored letters accepted language P (s ∷ []) (with_state (empty_automaton letters) flag) 0 []
  begun_with s flag start valid flag_is = record {
    count = refl;
    same_letters = refl;
    begun = start;
    states = states;
    distinct = distinct;
    accepting = accepting;
    done = λ q x l h. absurd (omega arith);
    current = λ a. tt;
    later = later;
    firsts = record {
      first = λ q. (0, 0);
      edge = λ q h l. absurd (omega arith);
      earlier = λ q h l. absurd (omega arith);
      least = λ q r b h l e. absurd (omega arith);
      ordered = λ q r h k l. absurd (omega arith);
    };
  }
    where
      states : (q : ℕ) (x : S) → slice_get (s ∷ []) q ≡ Some x → P x
      states zero x h = let e : s ≡ x = cc in subst P e valid
      states (suc q) x h = cc

      distinct : (p q : ℕ) (x : S) → slice_get (s ∷ []) p ≡ Some x → slice_get (s ∷ []) q ≡ Some x → p ≡ q
      distinct zero zero x h k = refl
      distinct zero (suc q) x h k = cc
      distinct (suc p) q x h k = cc

      accepting : (q : ℕ) (x : S) → slice_get (s ∷ []) q ≡ Some x → IsTrue (is_accepting {L = ℕ} (record { accepting = flag; edges = [] } ∷ []) q) ↔ language x []
      accepting zero x h = let e : s ≡ x = cc in subst (λ y. IsTrue flag ↔ language y []) e flag_is
      accepting (suc q) x h = cc

      later : (q a : ℕ) → 0 < q → find_target (edges_of {L = ℕ} (record { accepting = flag; edges = [] } ∷ []) q) a ≡ None
      later zero a l = absurd (omega arith)
      later (suc q) a l = refl

  module _ (found : List S) (m : Automaton) (next : ℕ) (pairs : List (ℕ × S)) (e : Explored letters accepted language P found m next pairs) (there : next < length found) where
    -- the edges so far come before an edge of the state next under a letter above those of the pairs
    latest : (letter : ℕ) → All (λ pair. pair.0 < letter) pairs → (r b q : ℕ) → target m r b ≡ Some q → IsEarlier (r, b) next letter
    latest letter below r b q h =
        elim (cases_order r next) [
          | inl same ↦ let s = IsPlaceOf-some found (target m next b) q (look_up pairs b) (subst (λ x. target m x b ≡ Some q) same h) (e.current b) in
              inr (same, look_up-below pairs letter b s.0 below s.1)
          | inr (inl less) ↦ inl less
          | inr (inr more) ↦ let none = e.later r b more in cc
        ]

    -- an edge leads to a state that was found
    target-below : (r b q : ℕ) → target m r b ≡ Some q → q < length found
    target-below r b q h =
        elim (cases_order r next) [
          | inl same ↦ let s = IsPlaceOf-some found (target m next b) q (look_up pairs b) (subst (λ x. target m x b ≡ Some q) same h) (e.current b) in
              slice_get_within found q s.0 s.2
          | inr (inl less) ↦ earlier less
          | inr (inr more) ↦ let none = e.later r b more in cc
        ]
      where
        earlier : r < next → q < length found
        earlier less =
            let x = slice_get-some found r (omega arith) in
            let all = e.done r x.0 less x.1 in
            let s = IsPlaceOf-some found (target m r b) q (look_up all.0 b) h (all.2 b) in
            slice_get_within found q s.0 s.2

    -- the state after the state next
    pub advanced : (s : S) → slice_get found next ≡ Some s → AreResiduals letters language P s pairs → Explored letters accepted language P found m (suc next) []
    advanced s at all = record {
      count = e.count;
      same_letters = e.same_letters;
      begun = e.begun;
      states = e.states;
      distinct = e.distinct;
      accepting = e.accepting;
      done = done;
      current = λ a. IsPlaceOf-none found (target m (suc next) a) (e.later (suc next) a (omega arith));
      later = λ q a l. e.later q a (omega arith);
      firsts = e.firsts;
    }
      where
        done : (q : ℕ) (x : S) → q < suc next → slice_get found q ≡ Some x
            → (edges : List (ℕ × S)) × AreResiduals letters language P x edges × ((a : ℕ) → IsPlaceOf found (target m q a) (look_up edges a))
        done q x l h =
            elim (cases_order q next) [
              | inl same ↦ let i : s ≡ x = (let j = subst (λ k. slice_get found k ≡ Some x) same h in cc) in
                  (pairs, subst (λ y. AreResiduals letters language P y pairs) i all, λ a. subst (λ k. IsPlaceOf found (target m k a) (look_up pairs a)) (sym same) (e.current a))
              | inr (inl less) ↦ e.done q x less h
              | inr (inr more) ↦ absurd (omega arith)
            ]

    module _ (letter : ℕ) (s : S) (below : All (λ pair. pair.0 < letter) pairs) where
      -- the state next has no edge under the letter yet
      pub none_yet : target m next letter ≡ None
      none_yet = IsPlaceOf-from_none found (target m next letter) (subst (IsPlaceOf found (target m next letter)) (look_up-above pairs letter below) (e.current letter))

      -- one more edge, to the place of the state in the list of those that were found
      current-more : (more : List S) (to : ℕ → ℕ → Option ℕ) (place : ℕ) → AddsTarget (target m) to next letter place → slice_get (found ++ more) place ≡ Some s
          → (a : ℕ) → IsPlaceOf (found ++ more) (to next a) (look_up (pairs ++ (letter, s) ∷ []) a)
      current-more more to place adds at a =
          elim (cases_eq letter a) [
            | inl same ↦ subst (λ x. IsPlaceOf (found ++ more) (to next x) (look_up (pairs ++ (letter, s) ∷ []) x)) same
                (subst (λ o. IsPlaceOf (found ++ more) o (look_up (pairs ++ (letter, s) ∷ []) letter)) (sym adds.here)
                (subst (IsPlaceOf (found ++ more) (Some place)) (sym (look_up-push_same pairs (letter, s) (look_up-above pairs letter below))) at))
            | inr ne ↦ subst (λ o. IsPlaceOf (found ++ more) o (look_up (pairs ++ (letter, s) ∷ []) a)) (sym (adds.other next a (λ both. ne (sym both.1))))
                (subst (IsPlaceOf (found ++ more) (target m next a)) (sym (look_up-push_other pairs (letter, s) a ne)) (IsPlaceOf-grows found more (target m next a) (look_up pairs a) (e.current a)))
          ]

      done-more : (more : List S) (to : ℕ → ℕ → Option ℕ) (place : ℕ) → AddsTarget (target m) to next letter place
          → (q : ℕ) (x : S) → q < next → slice_get found q ≡ Some x
          → (edges : List (ℕ × S)) × AreResiduals letters language P x edges × ((a : ℕ) → IsPlaceOf (found ++ more) (to q a) (look_up edges a))
      done-more more to place adds q x l h =
          let all = e.done q x l h in (
            all.0,
            all.1,
            λ a. subst (λ o. IsPlaceOf (found ++ more) o (look_up all.0 a)) (sym (adds.other q a (λ both. absurd (let i = both.0 in omega arith))))
                (IsPlaceOf-grows found more (target m q a) (look_up all.0 a) (all.2 a)),
          )

      later-more : (to : ℕ → ℕ → Option ℕ) (place : ℕ) → AddsTarget (target m) to next letter place → (q a : ℕ) → next < q → to q a ≡ None
      later-more to place adds q a l = adds.other q a (λ both. absurd (let i = both.0 in omega arith)) ∙ e.later q a l

      -- an edge to a state that was found before
      pub kept : (n : Automaton) (place : ℕ) → slice_get found place ≡ Some s → AddsEdge m n next letter place → Explored letters accepted language P found n next (pairs ++ (letter, s) ∷ [])
      kept n place at adds =
          let more = adds_target m n next letter place adds none_yet in
          let whole = append-nil found in
          record {
            count = adds.same_size ∙ e.count;
            same_letters = adds.same_letters ∙ e.same_letters;
            begun = e.begun;
            states = e.states;
            distinct = e.distinct;
            accepting = λ q x h. subst (λ b. IsTrue b ↔ language x []) (sym (adds.same_acceptance q)) (e.accepting q x h);
            done = λ q x l h. subst (λ ks. (edges : List (ℕ × S)) × AreResiduals letters language P x edges × ((a : ℕ) → IsPlaceOf ks (target n q a) (look_up edges a))) whole
                (done-more [] (target n) place more q x l h);
            current = λ a. subst (λ ks. IsPlaceOf ks (target n next a) (look_up (pairs ++ (letter, s) ∷ []) a)) whole
                (current-more [] (target n) place more (slice_get-append found [] place s at) a);
            later = later-more (target n) place more;
            firsts = FirstEdges-kept (target m) (target n) next letter place more (length found) e.firsts (latest letter below);
          }

      -- an edge to a new state at the end
      pub added : (n : Automaton) (flag : Bool) → P s → (IsTrue flag ↔ language s []) → ((q : ℕ) → slice_get found q ≡ Some s → ⊥) → AddsEdge (with_state m flag) n next letter (length found)
          → Explored letters accepted language P (found ++ s ∷ []) n next (pairs ++ (letter, s) ∷ [])
      added n flag valid flag_is absent adds =
          let more = adds_target-added m n flag next letter (length found) adds none_yet in
          record {
            count = adds.same_size ∙ (let x = e.count in let y = length-append m.states (record { accepting = flag; edges = [] } ∷ []) in let z = length-append found (s ∷ []) in omega arith);
            same_letters = adds.same_letters ∙ e.same_letters;
            begun = subst (StartsWith accepted language) (sym (slice_get-append_below found (s ∷ []) 0 (omega arith))) e.begun;
            states = λ q x h. states q x (slice_get-push_cases found s x q h);
            distinct = λ p q x h k. distinct p q x (slice_get-push_cases found s x p h) (slice_get-push_cases found s x q k);
            accepting = λ q x h. subst (λ b. IsTrue b ↔ language x []) (sym (adds.same_acceptance q)) (accepting q x (slice_get-push_cases found s x q h));
            done = λ q x l h. done-more (s ∷ []) (target n) (length found) more q x l (sym (slice_get-append_below found (s ∷ []) q (omega arith)) ∙ h);
            current = current-more (s ∷ []) (target n) (length found) more (slice_get-push found s);
            later = later-more (target n) (length found) more;
            firsts = subst (FirstEdges (target n)) (let z = length-append found (s ∷ []) in omega arith)
                (FirstEdges-added (target m) (target n) next letter (length found) more (length found) e.firsts (latest letter below) target-below refl there);
          }
        where
          states : (q : ℕ) (x : S) → (slice_get found q ≡ Some x) ⊎ ((q ≡ length found) × (s ≡ x)) → P x
          states q x (inl h) = e.states q x h
          states q x (inr h) = subst P h.1 valid

          distinct : (p q : ℕ) (x : S) → (slice_get found p ≡ Some x) ⊎ ((p ≡ length found) × (s ≡ x)) → (slice_get found q ≡ Some x) ⊎ ((q ≡ length found) × (s ≡ x)) → p ≡ q
          distinct p q x (inl h) (inl k) = e.distinct p q x h k
          distinct p q x (inl h) (inr k) = absurd (absent p (h ∙ ap Some (sym k.1)))
          distinct p q x (inr h) (inl k) = absurd (absent q (k ∙ ap Some (sym h.1)))
          distinct p q x (inr h) (inr k) = h.0 ∙ sym k.0

          accepting : (q : ℕ) (x : S) → (slice_get found q ≡ Some x) ⊎ ((q ≡ length found) × (s ≡ x))
              → IsTrue (is_accepting (m.states ++ record { accepting = flag; edges = [] } ∷ []) q) ↔ language x []
          accepting q x (inl h) =
              subst (λ b. IsTrue b ↔ language x []) (sym (is_accepting-push_below m.states flag q (let l = slice_get_within found q x h in let c = e.count in omega arith))) (e.accepting q x h)
          accepting q x (inr h) =
              subst (λ b. IsTrue b ↔ language x []) (sym (is_accepting-push_last m.states flag q (h.0 ∙ sym e.count))) (subst (λ y. IsTrue flag ↔ language y []) h.1 flag_is)

      -- what numbering a successor and adding its edge gives
      pub numbered : (new : List S) (after n : Automaton) (number : ℕ) → P s → Numbers language found new m after s number → AddsEdge after n next letter number
          → Explored letters accepted language P new n next (pairs ++ (letter, s) ∷ [])
      numbered new after n number valid (inl k) adds =
          subst (λ ks. Explored letters accepted language P ks n next (pairs ++ (letter, s) ∷ [])) (sym k.same_found)
          (kept n number k.at (subst (λ x. AddsEdge x n next letter number) k.same_automaton adds))
      numbered new after n number valid (inr k) adds =
          subst (λ ks. Explored letters accepted language P ks n next (pairs ++ (letter, s) ∷ [])) (sym k.found)
          (added n k.flag valid k.flag_is k.absent (subst (AddsEdge (with_state m k.flag) n next letter) k.number_is (subst (λ x. AddsEdge x n next letter number) k.automaton adds)))

module _ {S : Type 0} (letters : ℕ) (accepted : List ℕ → Type 0) (language : S → List ℕ → Type 0) (P : S → Type 0) where
  -- the start state is numbered first
  pub begun_numbered : (old new : List S) (before after : Automaton) (s : S) (number : ℕ) → old ≡ [] → before ≡ empty_automaton letters
      → StartsWith accepted language (Some s) → P s → Numbers language old new before after s number → Explored letters accepted language P new after 0 []
  begun_numbered old new before after s number none empty start valid (inl k) =
      absurd (let at = subst (λ ks. slice_get ks number ≡ Some s) none k.at in cc)
  begun_numbered old new before after s number none empty start valid (inr k) =
      let found : new ≡ s ∷ [] = k.found ∙ ap (λ ks. ks ++ s ∷ []) none in
      let built : after ≡ with_state (empty_automaton letters) k.flag = k.automaton ∙ ap (λ m. with_state m k.flag) empty in
      subst (λ ks. Explored letters accepted language P ks after 0 []) (sym found)
      (subst (λ m. Explored letters accepted language P (s ∷ []) m 0 []) (sym built) (begun_with letters accepted language P s k.flag start valid k.flag_is))

  -- the next successor has the property of the states
  pub next_valid : (found : List S) (m : Automaton) (next : ℕ) (pairs rest : List (ℕ × S)) (letter : ℕ) (s : S)
      → Expands letters accepted language P found m next pairs ((letter, s) ∷ rest) → P s
  next_valid found m next pairs rest letter s e =
      subst (λ (pair : ℕ × S). P pair.1) (get_or-append_seam pairs (letter, s) rest (letter, s))
      (e.residuals.states (length pairs) (letter, s) (let l = length-append pairs ((letter, s) ∷ rest) in omega arith))

  module _ (found : List S) (m : Automaton) (next : ℕ) (pairs rest : List (ℕ × S)) (letter : ℕ) (s : S) (e : Expands letters accepted language P found m next pairs ((letter, s) ∷ rest))
      (new : List S) (after : Automaton) (number : ℕ) (numbers : Numbers language found new m after s number) where
    there : next < length found
    there = slice_get_within found next e.state e.at

    below : All (λ pair. pair.0 < letter) pairs
    below = HasIncreasingLetters-front pairs (letter, s) rest e.residuals.increasing

    -- after the successor is numbered, there is no edge to it yet
    pub none_after : target after next letter ≡ None
    none_after = by numbers
      where
        none : target m next letter ≡ None
        none = none_yet letters accepted language P found m next pairs e.explored there letter s below

        by : Numbers language found new m after s number → target after next letter ≡ None
        by (inl k) = subst (λ x. target x next letter ≡ None) (sym k.same_automaton) none
        by (inr k) = subst (λ x. target x next letter ≡ None) (sym k.automaton) (target-with_state m k.flag next letter ∙ none)

    -- nor is there any edge from a later state
    pub none_later : (q a : ℕ) → next < q → target after q a ≡ None
    none_later q a later = by numbers
      where
        by : Numbers language found new m after s number → target after q a ≡ None
        by (inl k) = subst (λ x. target x q a ≡ None) (sym k.same_automaton) (e.explored.later q a later)
        by (inr k) = subst (λ x. target x q a ≡ None) (sym k.automaton) (target-with_state m k.flag q a ∙ e.explored.later q a later)

    -- and the edge may be added
    pub edge_in_range : IsEdgeInRange after next letter number
    edge_in_range = by numbers
      where
        count : length m.states ≡ length found
        count = e.explored.count

        in_alphabet : letter < m.letters
        in_alphabet = subst (λ k. letter < k) (sym e.explored.same_letters) (subst (λ (pair : ℕ × S). pair.0 < letters) (get_or-append_seam pairs (letter, s) rest (letter, s))
            (e.residuals.letters_in_range (length pairs) (letter, s) (let l = length-append pairs ((letter, s) ∷ rest) in omega arith)))

        by : Numbers language found new m after s number → IsEdgeInRange after next letter number
        by (inl k) = subst (λ x. IsEdgeInRange x next letter number) (sym k.same_automaton)
            (record { from_state = (let l = there in omega arith); in_alphabet = in_alphabet; to_state = (let l = slice_get_within found number s k.at in let c = count in omega arith) })
        by (inr k) = subst (λ x. IsEdgeInRange x next letter number) (sym k.automaton)
            (let l = length-append m.states (record { accepting = k.flag; edges = [] } ∷ []) in let y = there in let c = count in let i = k.number_is in
            record { from_state = omega arith; in_alphabet = in_alphabet; to_state = omega arith })

    -- one more successor is done
    pub expanded : (n : Automaton) → AddsEdge after n next letter number → Expands letters accepted language P new n next (pairs ++ (letter, s) ∷ []) rest
    expanded n adds = record {
      state = e.state;
      at = by numbers;
      explored = numbered letters accepted language P found m next pairs e.explored there letter s below new after n number
          (next_valid found m next pairs rest letter s e) numbers adds;
      residuals = subst (AreResiduals letters language P e.state) (sym (append_assoc pairs ((letter, s) ∷ []) rest)) e.residuals;
    }
      where
        by : Numbers language found new m after s number → slice_get new next ≡ Some e.state
        by (inl k) = subst (λ ks. slice_get ks next ≡ Some e.state) (sym k.same_found) e.at
        by (inr k) = subst (λ ks. slice_get ks next ≡ Some e.state) (sym k.found) (slice_get-append found (s ∷ []) next e.state e.at)

  -- all successors are done
  pub expanded_all : (found : List S) (m : Automaton) (next : ℕ) (pairs : List (ℕ × S))
      → Expands letters accepted language P found m next pairs [] → Explored letters accepted language P found m (suc next) []
  expanded_all found m next pairs e =
      advanced letters accepted language P found m next pairs e.explored (slice_get_within found next e.state e.at) e.state e.at
      (subst (AreResiduals letters language P e.state) (append-nil pairs) e.residuals)
