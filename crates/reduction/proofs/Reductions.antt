-- Copies with fewer start states and edges that accept along the same labels accept the same words.
use Rattle.std.proofs.Common.{◌≡◌, ◌+◌, ◌≤◌, ◌↔◌, ℕ, List, [], ◌∷◌, ◌++◌, Option, Contains, IsTrue, length, map, refl, sym, ap, subst, ◌∙◌, inl, inr, arith}
use Rattle.std.proofs.lemmas.Bool.{cases_eq}
use Rattle.std.proofs.lemmas.List.{length-map}
use Rattle.std.proofs.lemmas.List.Elements.{Contains-append_cases, Contains-append_left, Contains-append_right, Contains-push_cases}
use Rattle.word_automata.specs.Path.{edges_of, is_accepting, IsPath, spelled, spelled_one}
use Rattle.word_automata.specs.Nondeterministic.{NondeterministicAutomaton, Accepts, AcceptsFromAny}
use Rattle.word_automata.proofs.ForCallers.{Contains-none}
use Rattle.reduction.specs.Reduction.{AcceptsAlong, KeepsStarts}
use Rattle.reduction.specs.private.Copies.{without_edges, states_alone, with_starts, AddsEdges, KeepsEdges, IsReduced}
use Rattle.reduction.proofs.Copies.{is_accepting-alone, edges_of-alone, edges_within}

-- the word of labels
spelled_labels : List (Option ℕ) → List ℕ
spelled_labels [] = []
spelled_labels (label ∷ labels) = spelled_one label ++ spelled_labels labels

spelled_path : (moves : List (Option ℕ × ℕ)) → spelled (λ l. l) moves ≡ spelled_labels (map (λ (move : Option ℕ × ℕ). move.0) moves)
unfolding spelled_labels
spelled_path [] = refl
spelled_path (move ∷ moves) = ap (λ v. spelled_one move.0 ++ v) (spelled_path moves)

module _ (n : NondeterministicAutomaton) where
  along_path : (moves : List (Option ℕ × ℕ)) (p end : ℕ) → IsPath n.states p moves end → IsTrue (is_accepting n.states end)
      → AcceptsAlong n p (map (λ (move : Option ℕ × ℕ). move.0) moves)
  along_path [] p end path accepting = subst (λ q. IsTrue (is_accepting n.states q)) (sym path) accepting
  along_path (move ∷ moves) p end path accepting = (move.1, path.0, along_path moves move.1 end path.1 accepting)

  path_along : (labels : List (Option ℕ)) (p : ℕ) → AcceptsAlong n p labels
      → (moves : List (Option ℕ × ℕ)) × (end : ℕ) × IsPath n.states p moves end × IsTrue (is_accepting n.states end) × (spelled (λ l. l) moves ≡ spelled_labels labels)
  unfolding spelled_labels
  path_along [] p along = ([], p, refl, along, refl)
  path_along (label ∷ labels) p along =
      let rest = path_along labels along.0 along.2 in
      ((label, along.0) ∷ rest.0, rest.1, (along.1, rest.2), rest.3, ap (λ v. spelled_one label ++ v) rest.4)

-- where states of m accept along the labels along which states of n do, they accept the same words
pub any_accepts : (n m : NondeterministicAutomaton) (from to : List ℕ)
    → ((labels : List (Option ℕ)) (q : ℕ) → Contains from q → AcceptsAlong n q labels → (r : ℕ) × Contains to r × AcceptsAlong m r labels)
    → (w : List ℕ) → AcceptsFromAny n from w → AcceptsFromAny m to w
any_accepts n m from to on w run =
    let labels = map (λ (move : Option ℕ × ℕ). move.0) run.1 in
    let start = on labels run.0 run.3 (along_path n run.1 run.0 run.2 run.4 run.5) in
    let path = path_along m labels start.0 start.2 in
    (start.0, path.0, path.1, start.1, path.2, path.3, path.4 ∙ sym (spelled_path run.1) ∙ run.6)

module _ (n m : NondeterministicAutomaton) (next : ℕ) (so : IsReduced n m next) (all : length n.states ≤ next) where
  pub up : (labels : List (Option ℕ)) (p : ℕ) → AcceptsAlong m p labels → AcceptsAlong n p labels
  up [] p along = sym (so.same_acceptance p) ∙ along
  up (label ∷ labels) p along =
      let within = edges_within m.states p (label, along.0) along.1 in
      let size = so.same_size in
      (along.0, (so.done p (omega arith)).only (label, along.0) along.1, up labels along.0 along.2)

  pub down : (labels : List (Option ℕ)) (p : ℕ) → AcceptsAlong n p labels → AcceptsAlong m p labels
  down [] p along = so.same_acceptance p ∙ along
  down (label ∷ labels) p along =
      let within = edges_within n.states p (label, along.0) along.1 in
      let kept = (so.done p (omega arith)).kept label along.0 labels along.1 along.2 in
      (kept.0, kept.1, down labels kept.0 kept.2)

  pub reduced_accepts : (w : List ℕ) → Accepts m w ↔ Accepts n w
  reduced_accepts w = (
    any_accepts m n m.starts n.starts (λ labels q there along. (q, so.starts.only q there, up labels q along)) w,
    any_accepts n m n.starts m.starts (λ labels q there along.
        let start = so.starts.kept q labels there along in
        (start.0, start.1, down labels start.0 start.2)) w,
  )

-- a state less, where others accept along the labels along which it does
module _ (n : NondeterministicAutomaton) (before : List ℕ) (x : ℕ) (after : List ℕ) where
  pub states_keep_less : ((labels : List (Option ℕ)) → AcceptsAlong n x labels → (r : ℕ) × Contains (before ++ after) r × AcceptsAlong n r labels)
      → KeepsStarts n (before ++ x ∷ after) (before ++ after)
  states_keep_less covered = record {
    only = λ q there. elim (Contains-append_cases before after q there) [
      | inl earlier ↦ Contains-append_left before (x ∷ after) q earlier
      | inr later ↦ Contains-append_right before (x ∷ after) q (Contains-append_right (x ∷ []) after q later)
    ];
    kept = λ q labels there along. elim (Contains-append_cases before (x ∷ after) q there) [
      | inl earlier ↦ (q, Contains-append_left before after q earlier, along)
      | inr rest ↦ elim (Contains-append_cases (x ∷ []) after q rest) [
        | inl here ↦ elim (Contains-push_cases [] x q here) [
          | inl none ↦ absurd (Contains-none q none)
          | inr is ↦ covered labels (subst (λ s. AcceptsAlong n s labels) (sym is) along)
        ]
        | inr later ↦ (q, Contains-append_right before after q later, along)
      ]
    ];
  }

pub states_keep_twice : (n : NondeterministicAutomaton) (old mid new : List ℕ) → KeepsStarts n old mid → KeepsStarts n mid new → KeepsStarts n old new
states_keep_twice n old mid new once twice = record {
  only = λ q there. once.only q (twice.only q there);
  kept = λ q labels there along. let k = once.kept q labels there along in twice.kept k.0 labels k.1 k.2;
}

-- what is kept accepts the same words
pub kept_accept : (n : NondeterministicAutomaton) (old new : List ℕ) → KeepsStarts n old new → (w : List ℕ) → AcceptsFromAny n old w ↔ AcceptsFromAny n new w
kept_accept n old new so w = (
  any_accepts n n old new (λ labels q there along. so.kept q labels there along) w,
  λ run. (run.0, run.1, run.2, so.only run.0 run.3, run.4, run.5, run.6),
)

-- all start states
pub starts_keep : (n : NondeterministicAutomaton) (starts : List ℕ) → KeepsStarts n starts starts
starts_keep n starts = record { only = λ q there. there; kept = λ q labels there along. (q, there, along) }

-- state by state
pub reduced_none : (n alone m : NondeterministicAutomaton) (starts : List ℕ) → alone ≡ states_alone n → m ≡ with_starts alone starts → KeepsStarts n n.starts starts → IsReduced n m 0
reduced_none n alone m starts is built keeps = subst (λ x. IsReduced n x 0) (sym (built ∙ ap (λ a. with_starts a starts) is)) (record {
  same_letters = refl;
  same_size = length-map n.states without_edges;
  same_acceptance = λ q. is_accepting-alone n.states q;
  starts = keeps;
  done = λ p below. absurd (omega arith);
  later = λ p past. edges_of-alone n.states p;
})

-- all edges of a state
pub all_edges_keep : (n : NondeterministicAutomaton) (edges : List (Option ℕ × ℕ)) → KeepsEdges n edges edges
all_edges_keep n edges = record { only = λ edge there. there; kept = λ label q labels there along. (q, there, along) }

pub reduced_more : (n old new : NondeterministicAutomaton) (state : ℕ) (edges : List (Option ℕ × ℕ)) → IsReduced n old state → KeepsEdges n (edges_of n.states state) edges
    → AddsEdges state edges old new → IsReduced n new (state + 1)
reduced_more n old new state edges so keeps adds =
    let here : edges_of new.states state ≡ edges = adds.edges_here ∙ ap (λ es. es ++ edges) (so.later state (omega arith)) in
    record {
      same_letters = adds.same_letters ∙ so.same_letters;
      same_size = adds.same_size ∙ so.same_size;
      same_acceptance = λ q. adds.same_acceptance q ∙ so.same_acceptance q;
      starts = subst (KeepsStarts n n.starts) (sym adds.same_starts) so.starts;
      done = λ p below. elim (cases_eq p state) [
        | inl is ↦
            subst (λ x. KeepsEdges n (edges_of n.states x) (edges_of new.states x)) (sym is)
            (subst (KeepsEdges n (edges_of n.states state)) (sym here) keeps)
        | inr other ↦ subst (KeepsEdges n (edges_of n.states p)) (sym (adds.edges_else p other)) (so.done p (omega arith))
      ];
      later = λ p past. adds.edges_else p (λ is. absurd (omega arith)) ∙ so.later p (omega arith);
    }
