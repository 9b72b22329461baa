-- Copies of an automaton, state by state and edge by edge.
use Rattle.std.proofs.Common.{◌≡◌, ◌+◌, ◌<◌, ℕ, zero, suc, Bool, false, List, [], ◌∷◌, ◌++◌, Option, Contains, IfSome, All, length, take, get_or, map, refl, sym, ap, subst, ◌∙◌, arith, eq-eqb, ne_eqb, if◌then◌else◌}
use Rattle.std.proofs.lemmas.List.{take_more, map-append, append_assoc, append-nil}
use Rattle.std.proofs.lemmas.List.Elements.{All-nil, All-contains}
use Rattle.word_automata.specs.Path.{Node, edges_of, is_accepting}
use Rattle.word_automata.specs.Nondeterministic.{NondeterministicAutomaton, IsInRange, IsMoveInRange, with_nondeterministic_state, with_start, AddsMove}
use Rattle.word_automata.proofs.ForCallers.{Contains-none, All-from_contains, All-edges_of, is_accepting-get_or, move_within}
use Rattle.reduction.specs.private.Copies.{without_edges, with_starts, AddsEdges}

-- the first k states, without edges and without a start state
abbrev pub first_alone : NondeterministicAutomaton → ℕ → NondeterministicAutomaton
first_alone n k = record { letters = n.letters; starts = []; states = map without_edges (take k n.states) }

pub first_alone_more : (n : NondeterministicAutomaton) (k : ℕ) (accepting : Bool) → k < length n.states → accepting ≡ is_accepting n.states k
    → with_nondeterministic_state (first_alone n k) accepting ≡ first_alone n (k + 1)
first_alone_more n k accepting within is =
    let none : Node (Option ℕ) = record { accepting = false; edges = [] } in
    let node = get_or n.states k none in
    let flag : accepting ≡ node.accepting = is ∙ is_accepting-get_or n.states k none within in
    let states : map without_edges (take k n.states) ++ record { accepting = accepting; edges = [] } ∷ [] ≡ map without_edges (take (k + 1) n.states) =
    ap (λ b. map without_edges (take k n.states) ++ record { accepting = b; edges = [] } ∷ []) flag
    ∙ sym (map-append without_edges (take k n.states) (node ∷ []))
    ∙ sym (ap (map without_edges) (take_more n.states k none within)) in
    ap (λ s. record { letters = n.letters; starts = []; states = s }) states

pub is_accepting-alone : (states : List (Node (Option ℕ))) (q : ℕ) → is_accepting (map without_edges states) q ≡ is_accepting states q
is_accepting-alone [] q = refl
is_accepting-alone (s ∷ states) zero = refl
is_accepting-alone (s ∷ states) (suc q) = is_accepting-alone states q

pub edges_of-alone : (states : List (Node (Option ℕ))) (q : ℕ) → edges_of (map without_edges states) q ≡ []
edges_of-alone [] q = refl
edges_of-alone (s ∷ states) zero = refl
edges_of-alone (s ∷ states) (suc q) = edges_of-alone states q

pub edges_within : (states : List (Node (Option ℕ))) (p : ℕ) (edge : Option ℕ × ℕ) → Contains (edges_of states p) edge → p < length states
edges_within [] p edge there = absurd (Contains-none edge there)
edges_within (s ∷ states) zero edge there = omega arith
edges_within (s ∷ states) (suc p) edge there = let l = edges_within states p edge there in omega arith

-- an edge of an automaton is in range for one with as many letters and states
pub move_in_range : (n : NondeterministicAutomaton) → IsInRange n → (m : NondeterministicAutomaton) → m.letters ≡ n.letters → length m.states ≡ length n.states
    → (p : ℕ) → p < length n.states → (edge : Option ℕ × ℕ) → Contains (edges_of n.states p) edge → IsMoveInRange m p edge.0 edge.1
move_in_range n range m letters size p within edge there =
    let lettered = All-edges_of (All (λ (e : Option ℕ × ℕ). IfSome e.0 (λ a. a < n.letters))) n.states (All-nil (λ (e : Option ℕ × ℕ). IfSome e.0 (λ a. a < n.letters))) range.letters_in_range p in
    let target = move_within n range p edge.1 edge.0 there in
    record {
      from_state = omega arith;
      in_alphabet = subst (λ k. IfSome edge.0 (λ a. a < k)) (sym letters) (All-contains (λ (e : Option ℕ × ℕ). IfSome e.0 (λ a. a < n.letters)) (edges_of n.states p) edge lettered there);
      to_state = omega arith;
    }

-- and so are some of its edges
pub edges_in_range : (n : NondeterministicAutomaton) → IsInRange n → (m : NondeterministicAutomaton) → m.letters ≡ n.letters → length m.states ≡ length n.states
    → (p : ℕ) → p < length n.states → (edges : List (Option ℕ × ℕ)) → ((edge : Option ℕ × ℕ) → Contains edges edge → Contains (edges_of n.states p) edge)
    → All (λ edge. IsMoveInRange m p edge.0 edge.1) edges
edges_in_range n range m letters size p within edges only =
    All-from_contains (λ (edge : Option ℕ × ℕ). IsMoveInRange m p edge.0 edge.1) edges (λ edge there. move_in_range n range m letters size p within edge (only edge there))

-- an edge stays in range
pub move_carried : (old new : NondeterministicAutomaton) (p : ℕ) (edge : Option ℕ × ℕ) → new.letters ≡ old.letters → length new.states ≡ length old.states
    → IsMoveInRange old p edge.0 edge.1 → IsMoveInRange new p edge.0 edge.1
move_carried old new p edge letters size range = record {
  from_state = (let r = range.from_state in omega arith);
  in_alphabet = subst (λ k. IfSome edge.0 (λ a. a < k)) (sym letters) range.in_alphabet;
  to_state = (let r = range.to_state in omega arith);
}

-- start states one by one
pub with_starts_none : (n : NondeterministicAutomaton) → n ≡ with_starts n []
with_starts_none n = ap (λ starts. record { letters = n.letters; starts = starts; states = n.states }) (sym (append-nil n.starts))

pub with_starts_more : (n : NondeterministicAutomaton) (starts : List ℕ) (q : ℕ) → with_start (with_starts n starts) q ≡ with_starts n (starts ++ q ∷ [])
with_starts_more n starts q = ap (λ xs. record { letters = n.letters; starts = xs; states = n.states }) (append_assoc n.starts starts (q ∷ []))

-- edges one by one
pub adds_edges_none : (state : ℕ) (m : NondeterministicAutomaton) → AddsEdges state [] m m
adds_edges_none state m = record {
  same_letters = refl;
  same_starts = refl;
  same_size = refl;
  same_acceptance = λ q. refl;
  edges_here = sym (append-nil (edges_of m.states state));
  edges_else = λ p other. refl;
}

pub adds_edges_more : (state : ℕ) (edges : List (Option ℕ × ℕ)) (edge : Option ℕ × ℕ) (old mid new : NondeterministicAutomaton) → AddsEdges state edges old mid
    → AddsMove mid new state edge.0 edge.1 → AddsEdges state (edges ++ edge ∷ []) old new
adds_edges_more state edges edge old mid new so adds = record {
  same_letters = adds.same_letters ∙ so.same_letters;
  same_starts = adds.same_starts ∙ so.same_starts;
  same_size = adds.same_size ∙ so.same_size;
  same_acceptance = λ q. adds.same_acceptance q ∙ so.same_acceptance q;
  edges_here = adds.edges state ∙ ap (λ b. if b then edges_of mid.states state ++ edge ∷ [] else edges_of mid.states state) (eq-eqb state state refl)
      ∙ ap (λ es. es ++ edge ∷ []) so.edges_here ∙ append_assoc (edges_of old.states state) edges (edge ∷ []);
  edges_else = λ p other.
      adds.edges p ∙ ap (λ b. if b then edges_of mid.states p ++ edge ∷ [] else edges_of mid.states p) (ne_eqb p state other) ∙ so.edges_else p other;
}
