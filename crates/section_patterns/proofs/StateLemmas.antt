-- States that are added in front of others.
use Rattle.std.proofs.Common.{◌≡◌, ◌==◌, ◌<◌, ◌≤◌, ◌+◌, ◌↔◌, ℕ, Bool, true, false, List, [], ◌∷◌, ◌++◌, Option, None, Some, map, length, slice_get, get_or, Contains, All, IsTrue, if◌then◌else◌, inl, inr, refl, sym, ap, subst, ◌∙◌, arith, eq-eqb, ne_eqb, append_assoc}
use Rattle.std.proofs.lemmas.List.{append-nil, map_push, length_push}
use Rattle.std.proofs.lemmas.List.Elements.{All-cons, All-tail}
use Rattle.std.proofs.lemmas.Bool.{false≢true}
use Rattle.std.proofs.lemmas.Option.{slice_get-get_or}
use Rattle.sequence.proofs.ForCallers.{slice_get-append_left, slice_get-push_last}
use Rattle.word_automata.specs.Path.{Node, edges_of, is_accepting, IsPath, spelled, spelled_one}
use Rattle.word_automata.specs.Nondeterministic.{NondeterministicAutomaton, IsInRange, AddsMove, with_nondeterministic_state}
use Rattle.word_automata.proofs.ForCallers.{move_within, Contains-cases, Contains-here, Contains-there, Contains-none, Contains-map}
use Rattle.word_automata.proofs.ForCallers.{Contains-map_cases}
use Rattle.section_patterns.specs.private.Languages.{AcceptsFrom, BeginsWithLetter, BeginsWithLetters, IsAdded, AddsLetterEdges}

-- the edges on letters, one after the other
pub letter_edges_none : (n : NondeterministicAutomaton) (from to : ℕ) → AddsLetterEdges n n from [] to
letter_edges_none n from to = record {
  same_letters = refl;
  same_starts = refl;
  same_size = refl;
  same_acceptance = λ q. refl;
  edges = λ q. elim (q == from) as (λ b. edges_of n.states q ≡ (if b then edges_of n.states q ++ [] else edges_of n.states q))
      [ true ↦ sym (append-nil (edges_of n.states q)) | false ↦ refl ];
}

pub letter_edges_more : (old mid new : NondeterministicAutomaton) (from : ℕ) (letters : List ℕ) (a to : ℕ) → AddsLetterEdges old mid from letters to
    → AddsMove mid new from (Some a) to → AddsLetterEdges old new from (letters ++ a ∷ []) to
letter_edges_more old mid new from letters a to before adds = record {
  same_letters = adds.same_letters ∙ before.same_letters;
  same_starts = adds.same_starts ∙ before.same_starts;
  same_size = adds.same_size ∙ before.same_size;
  same_acceptance = λ q. adds.same_acceptance q ∙ before.same_acceptance q;
  edges = λ q. by (q == from) (edges_of old.states q) (edges_of mid.states q) (edges_of new.states q) (adds.edges q) (before.edges q);
}
  where
    by : (b : Bool) (x y z : List (Option ℕ × ℕ)) → z ≡ (if b then y ++ (Some a, to) ∷ [] else y)
        → y ≡ (if b then x ++ map (λ c. (Some c, to)) letters else x)
        → z ≡ (if b then x ++ map (λ c. (Some c, to)) (letters ++ a ∷ []) else x)
    by true x y z e h =
        e ∙ ap (λ edges. edges ++ (Some a, to) ∷ []) h ∙ append_assoc x (map (λ c. (Some c, to)) letters) ((Some a, to) ∷ [])
        ∙ ap (λ edges. x ++ edges) (sym (map_push (λ c. (Some c, to)) letters a))
    by false x y z e h = e ∙ h

-- new has the states of old, with their edges, and perhaps more states
pub record Extends (old new : NondeterministicAutomaton) : Type 0 where
  pub same_letters : new.letters ≡ old.letters
  pub same_starts : new.starts ≡ old.starts
  pub more : length old.states ≤ length new.states
  pub same_acceptance : (q : ℕ) → q < length old.states → is_accepting new.states q ≡ is_accepting old.states q
  pub same_edges : (q : ℕ) → q < length old.states → edges_of new.states q ≡ edges_of old.states q

module _ (old new : NondeterministicAutomaton) (extends : Extends old new) (range : IsInRange old) where
  paths_in : (moves : List (Option ℕ × ℕ)) (q end : ℕ) → q < length old.states → IsPath new.states q moves end
      → IsPath old.states q moves end × (end < length old.states)
  paths_in [] q end within path = (path, omega (arith, path))
  paths_in (move ∷ moves) q end within path =
      let there : Contains (edges_of old.states q) move = subst (λ edges. Contains edges move) (extends.same_edges q within) path.0 in
      let rest = paths_in moves move.1 end (move_within old range q move.1 move.0 there) path.1 in
      ((there, rest.0), rest.1)

  paths_out : (moves : List (Option ℕ × ℕ)) (q end : ℕ) → q < length old.states → IsPath old.states q moves end
      → IsPath new.states q moves end × (end < length old.states)
  paths_out [] q end within path = (path, omega (arith, path))
  paths_out (move ∷ moves) q end within path =
      let there : Contains (edges_of new.states q) move = subst (λ edges. Contains edges move) (sym (extends.same_edges q within)) path.0 in
      let rest = paths_out moves move.1 end (move_within old range q move.1 move.0 path.0) path.1 in
      ((there, rest.0), rest.1)

  -- the states of old accept what they did
  pub same_accepted : (q : ℕ) → q < length old.states → (w : List ℕ) → AcceptsFrom new q w ↔ AcceptsFrom old q w
  same_accepted q within w = (
    λ r.
        let inside = paths_in r.moves q r.end within r.path in
        record {
          moves = r.moves;
          end = r.end;
          path = inside.0;
          accepting = sym (extends.same_acceptance r.end inside.1) ∙ r.accepting;
          spells = r.spells;
        },
    λ r.
        let outside = paths_out r.moves q r.end within r.path in
        record {
          moves = r.moves;
          end = r.end;
          path = outside.0;
          accepting = extends.same_acceptance r.end outside.1 ∙ r.accepting;
          spells = r.spells;
        },
  )

  -- a path from a state that does not accept begins with a move
  module _ (state next : ℕ) (letters : List ℕ) (within : next < length old.states) (is_state : state < length new.states)
      (refuses : is_accepting new.states state ≡ false) where
    first_move : {A : Type 0} (end : ℕ) → state ≡ end → IsTrue (is_accepting new.states end) → A
    first_move end e h = absurd (false≢true (sym refuses ∙ ap (is_accepting new.states) e ∙ h))

    added : (language : List ℕ → Type 0) → ((w : List ℕ) → AcceptsFrom new state w ↔ language w) → IsAdded old new state language
    added language accepts = record {
      same_letters = extends.same_letters;
      same_starts = extends.same_starts;
      more = extends.more;
      is_state = is_state;
      kept = same_accepted;
      accepts = accepts;
    }

    -- from the state that is next
    from_next : (moves : List (Option ℕ × ℕ)) (end : ℕ) → IsPath new.states next moves end → IsTrue (is_accepting new.states end)
        → AcceptsFrom old next (spelled (λ l. l) moves)
    from_next moves end path accepting =
        (same_accepted next within (spelled (λ l. l) moves)).0 (record { moves = moves; end = end; path = path; accepting = accepting; spells = refl })

    module _ (edges : edges_of new.states state ≡ map (λ a. (Some a, next)) letters) where
      steps_in : (moves : List (Option ℕ × ℕ)) (end : ℕ) → IsPath new.states state moves end → IsTrue (is_accepting new.states end)
          → BeginsWithLetter letters (AcceptsFrom old next) (spelled (λ l. l) moves)
      steps_in [] end path accepting = first_move end path accepting
      steps_in (move ∷ moves) end path accepting =
          let found = Contains-map_cases (λ a. (Some a, next)) letters move (subst (λ edges. Contains edges move) edges path.0) in
          record {
            letter = found.0;
            rest = spelled (λ l. l) moves;
            is_letter = found.1;
            joined = ap (λ (m : Option ℕ × ℕ). spelled_one m.0 ++ spelled (λ l. l) moves) (sym found.2);
            accepted = from_next moves end (subst (λ (m : Option ℕ × ℕ). IsPath new.states m.1 moves end) (sym found.2) path.1) accepting;
          }

      steps_out : (w : List ℕ) → BeginsWithLetter letters (AcceptsFrom old next) w → AcceptsFrom new state w
      steps_out w b =
          let r = (same_accepted next within b.rest).1 b.accepted in
          record {
            moves = (Some b.letter, next) ∷ r.moves;
            end = r.end;
            path = (subst (λ edges. Contains edges (Some b.letter, next)) (sym edges) (Contains-map (λ a. (Some a, next)) letters b.letter b.is_letter), r.path);
            accepting = r.accepting;
            spells = ap (λ rest. b.letter ∷ rest) r.spells ∙ sym b.joined;
          }

      pub step_added : IsAdded old new state (BeginsWithLetter letters (AcceptsFrom old next))
      step_added = added (BeginsWithLetter letters (AcceptsFrom old next)) (λ w. (
        λ r. subst (BeginsWithLetter letters (AcceptsFrom old next)) r.spells (steps_in r.moves r.end r.path r.accepting),
        steps_out w,
      ))

    module _ (edges : edges_of new.states state ≡ (None, next) ∷ map (λ a. (Some a, state)) letters) where
      loops_in : (moves : List (Option ℕ × ℕ)) (end : ℕ) → IsPath new.states state moves end → IsTrue (is_accepting new.states end)
          → BeginsWithLetters letters (AcceptsFrom old next) (spelled (λ l. l) moves)
      loops_in [] end path accepting = first_move end path accepting
      loops_in (move ∷ moves) end path accepting =
          elim (Contains-cases (None, next) (map (λ a. (Some a, state)) letters) move (subst (λ edges. Contains edges move) edges path.0)) [
            | inl leaves ↦ record {
              front = [];
              rest = spelled (λ l. l) moves;
              are_letters = λ k d h. absurd (omega arith);
              joined = ap (λ (m : Option ℕ × ℕ). spelled_one m.0 ++ spelled (λ l. l) moves) (sym leaves);
              accepted = from_next moves end (subst (λ (m : Option ℕ × ℕ). IsPath new.states m.1 moves end) (sym leaves) path.1) accepting;
            }
            | inr stays ↦
                let found = Contains-map_cases (λ a. (Some a, state)) letters move stays in
                let later = loops_in moves end (subst (λ (m : Option ℕ × ℕ). IsPath new.states m.1 moves end) (sym found.2) path.1) accepting in
                record {
                  front = found.0 ∷ later.front;
                  rest = later.rest;
                  are_letters = All-cons (λ x. Contains letters x) found.0 later.front found.1 later.are_letters;
                  joined = ap (λ (m : Option ℕ × ℕ). spelled_one m.0 ++ spelled (λ l. l) moves) (sym found.2) ∙ ap (λ w. found.0 ∷ w) later.joined;
                  accepted = later.accepted;
                }
          ]

      loops_out : (front rest : List ℕ) → All (λ a. Contains letters a) front → AcceptsFrom old next rest → AcceptsFrom new state (front ++ rest)
      loops_out [] rest all accepted =
          let r = (same_accepted next within rest).1 accepted in
          record {
            moves = (None, next) ∷ r.moves;
            end = r.end;
            path = (subst (λ edges. Contains edges (None, next)) (sym edges) (Contains-here (map (λ a. (Some a, state)) letters) (None, next)), r.path);
            accepting = r.accepting;
            spells = r.spells;
          }
      loops_out (a ∷ front) rest all accepted =
          let r = loops_out front rest (All-tail (λ x. Contains letters x) a front all) accepted in
          let there = Contains-map (λ x. (Some x, state)) letters a (all 0 a (omega arith)) in
          record {
            moves = (Some a, state) ∷ r.moves;
            end = r.end;
            path = (
              subst (λ edges. Contains edges (Some a, state)) (sym edges)
                  (Contains-there (None, next) (map (λ x. (Some x, state)) letters) (Some a, state) there),
              r.path,
            );
            accepting = r.accepting;
            spells = ap (λ w. a ∷ w) r.spells;
          }

      pub loop_added : IsAdded old new state (BeginsWithLetters letters (AcceptsFrom old next))
      loop_added = added (BeginsWithLetters letters (AcceptsFrom old next)) (λ w. (
        λ r. subst (BeginsWithLetters letters (AcceptsFrom old next)) r.spells (loops_in r.moves r.end r.path r.accepting),
        λ b. subst (AcceptsFrom new state) (sym b.joined) (loops_out b.front b.rest b.are_letters b.accepted),
      ))

-- a state that is added at the end, and the states before it
place_before : {X : Type 0} (xs : List X) (x : X) (k : ℕ) → k < length xs → slice_get (xs ++ x ∷ []) k ≡ slice_get xs k
place_before xs x k h =
    let there = slice_get-get_or xs k x h in slice_get-append_left xs (x ∷ []) k (get_or xs k x) there ∙ sym there

-- new is old with one state more, which has no edges
record Grows (old new : NondeterministicAutomaton) (state : ℕ) (accepting : Bool) : Type 0 where
  extends : Extends old new
  size : length new.states ≡ length old.states + 1
  accepts : is_accepting new.states state ≡ accepting
  no_edges : edges_of new.states state ≡ []

grows : (old new : NondeterministicAutomaton) (state : ℕ) (accepting : Bool) → state ≡ length old.states
    → new ≡ with_nondeterministic_state old accepting → Grows old new state accepting
grows old new state accepting is grown =
    let bare : Node (Option ℕ) = record { accepting = accepting; edges = [] } in
    let last = slice_get-push_last old.states bare in
    subst (λ n. Grows old n state accepting) (sym grown)
    (subst (λ q. Grows old (with_nondeterministic_state old accepting) q accepting) (sym is) (record {
      extends = record {
        same_letters = refl;
        same_starts = refl;
        more = omega (arith, length_push old.states bare);
        same_acceptance = λ q h. ap (λ o. elim o as (λ v. Bool) [ None ↦ false | Some node ↦ node.accepting ]) (place_before old.states bare q h);
        same_edges = λ q h. ap (λ o. elim o as (λ v. List (Option ℕ × ℕ)) [ None ↦ [] | Some node ↦ node.edges ]) (place_before old.states bare q h);
      };
      size = length_push old.states bare;
      accepts = ap (λ o. elim o as (λ v. Bool) [ None ↦ false | Some node ↦ node.accepting ]) last;
      no_edges = ap (λ o. elim o as (λ v. List (Option ℕ × ℕ)) [ None ↦ [] | Some node ↦ node.edges ]) last;
    }))

module _ (old mid new : NondeterministicAutomaton) (state next : ℕ) (letters : List ℕ) (range : IsInRange old) (within : next < length old.states)
    (is : state ≡ length old.states) (grown : mid ≡ with_nondeterministic_state old false) where
  other : (q : ℕ) → q < length old.states → (q == state) ≡ false
  other q h = ne_eqb q state (λ e. omega arith)

  here : (state == state) ≡ true
  here = eq-eqb state state refl

  first : Grows old mid state false
  first = grows old mid state false is grown

  -- a new state with an edge on each of the letters
  pub step_after : AddsLetterEdges mid new state letters next → IsAdded old new state (BeginsWithLetter letters (AcceptsFrom old next))
  step_after adds =
      let extends : Extends old new = record {
        same_letters = adds.same_letters ∙ first.extends.same_letters;
        same_starts = adds.same_starts ∙ first.extends.same_starts;
        more = omega (arith, adds.same_size, first.size);
        same_acceptance = λ q h. adds.same_acceptance q ∙ first.extends.same_acceptance q h;
        same_edges = λ q h. adds.edges q
            ∙ ap (λ b. if b then edges_of mid.states q ++ map (λ a. (Some a, next)) letters else edges_of mid.states q) (other q h) ∙ first.extends.same_edges q h;
      } in
      let edges : edges_of new.states state ≡ map (λ a. (Some a, next)) letters =
      adds.edges state
      ∙ ap (λ b. if b then edges_of mid.states state ++ map (λ a. (Some a, next)) letters else edges_of mid.states state) here
      ∙ ap (λ edges. edges ++ map (λ a. (Some a, next)) letters) first.no_edges in
      step_added old new extends range state next letters within (omega (arith, adds.same_size, first.size))
      (adds.same_acceptance state ∙ first.accepts) edges

  -- a new state with an edge to the next one and, on each of the letters, to itself
  pub loop_after : (late : NondeterministicAutomaton) → AddsMove mid late state None next → AddsLetterEdges late new state letters state
      → IsAdded old new state (BeginsWithLetters letters (AcceptsFrom old next))
  loop_after late moves adds =
      let extends : Extends old new = record {
        same_letters = adds.same_letters ∙ moves.same_letters ∙ first.extends.same_letters;
        same_starts = adds.same_starts ∙ moves.same_starts ∙ first.extends.same_starts;
        more = omega (arith, adds.same_size, moves.same_size, first.size);
        same_acceptance = λ q h. adds.same_acceptance q ∙ moves.same_acceptance q ∙ first.extends.same_acceptance q h;
        same_edges = λ q h. adds.edges q
            ∙ ap (λ b. if b then edges_of late.states q ++ map (λ a. (Some a, state)) letters else edges_of late.states q) (other q h)
            ∙ moves.edges q
            ∙ ap (λ b. if b then edges_of mid.states q ++ (None, next) ∷ [] else edges_of mid.states q) (other q h)
            ∙ first.extends.same_edges q h;
      } in
      let edges : edges_of new.states state ≡ (None, next) ∷ map (λ a. (Some a, state)) letters =
      adds.edges state
      ∙ ap (λ b. if b then edges_of late.states state ++ map (λ a. (Some a, state)) letters else edges_of late.states state) here
      ∙ ap (λ edges. edges ++ map (λ a. (Some a, state)) letters)
      (moves.edges state ∙ ap (λ b. if b then edges_of mid.states state ++ (None, next) ∷ [] else edges_of mid.states state) here
      ∙ ap (λ edges. edges ++ (None, next) ∷ []) first.no_edges) in
      loop_added old new extends range state next letters within (omega (arith, adds.same_size, moves.same_size, first.size))
      (adds.same_acceptance state ∙ moves.same_acceptance state ∙ first.accepts) edges

-- a new state that accepts, without an edge
pub end_after : (old new : NondeterministicAutomaton) (state : ℕ) → IsInRange old → state ≡ length old.states
    → new ≡ with_nondeterministic_state old true → IsAdded old new state (λ w. w ≡ [])
end_after old new state range is grown = record {
  same_letters = last.extends.same_letters;
  same_starts = last.extends.same_starts;
  more = last.extends.more;
  is_state = omega (arith, last.size);
  kept = same_accepted old new last.extends range;
  accepts = λ w. (
    λ r. sym (by r.moves r.end r.path ∙ r.spells),
    λ e. record { moves = []; end = state; path = refl; accepting = last.accepts; spells = sym e },
  );
}
  where
    last : Grows old new state true
    last = grows old new state true is grown

    by : (moves : List (Option ℕ × ℕ)) (end : ℕ) → IsPath new.states state moves end → [] ≡ spelled (λ l. l) moves
    by [] end path = refl
    by (move ∷ moves) end path = absurd (Contains-none move (subst (λ edges. Contains edges move) last.no_edges path.0))
