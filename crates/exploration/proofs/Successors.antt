-- Successors that are made edge by edge from a list of edges by increasing letters, as those of a product are.
use Rattle.std.proofs.Common.{◌≡◌, ◌==◌, ◌<◌, ◌⊎◌, ℕ, List, [], ◌∷◌, Option, None, Some, refl, sym, ap, subst, ◌∙◌, inl, inr, All, if◌then◌else◌}
use Rattle.std.proofs.lemmas.Bool.{cases_eq}
use Rattle.std.proofs.lemmas.List.Elements.{All-nil, All-cons, All-head, All-tail, All-weaker}
use Rattle.std.specs.List.{filter_map, cons_option}
use Rattle.std.specs.Option.{option_map, option_and_then}
use Rattle.word_automata.specs.Automaton.{find_target, HasIncreasingLetters as HasIncreasingEdges}
use Rattle.exploration.specs.DeterministicSystem.{DeterministicSystem, look_up, HasIncreasingLetters, IsSuccessors}
use Rattle.exploration.proofs.Lists.{look_up-here, look_up-there, look_up-beneath}

-- the list of the edges of an automaton is one of letters and states
pub look_up-edges : (edges : List (ℕ × ℕ)) (a : ℕ) → look_up edges a ≡ find_target edges a
look_up-edges [] a = refl
look_up-edges (edge ∷ edges) a = ap (λ o. if edge.0 == a then Some edge.1 else o) (look_up-edges edges a)

pub HasIncreasingLetters-edges : (edges : List (ℕ × ℕ)) → HasIncreasingEdges edges → HasIncreasingLetters edges
HasIncreasingLetters-edges [] h = tt
HasIncreasingLetters-edges (edge ∷ edges) h = (h.0, HasIncreasingLetters-edges edges h.1)

module _ {R S : Type 0} (f : ℕ → R → Option S) where
  -- the pair that an edge becomes, if it becomes one
  abbrev pub moved : ℕ × R → Option (ℕ × S)
  moved edge = option_map (λ s. (edge.0, s)) (f edge.0 edge.1)

  -- what holds of the pairs that edges become
  All-moved : (Q : ℕ × S → Type 0) (edges : List (ℕ × R)) → All (λ edge. (s : S) → f edge.0 edge.1 ≡ Some s → Q (edge.0, s)) edges
      → All Q (filter_map moved edges)
  All-moved Q [] h = All-nil Q
  All-moved Q (edge ∷ edges) h =
      by (f edge.0 edge.1) refl (All-head (λ (x : ℕ × R). (s : S) → f x.0 x.1 ≡ Some s → Q (x.0, s)) edge edges h)
      (All-moved Q edges (All-tail (λ (x : ℕ × R). (s : S) → f x.0 x.1 ≡ Some s → Q (x.0, s)) edge edges h))
    where
      by : (o : Option S) → f edge.0 edge.1 ≡ o → ((s : S) → f edge.0 edge.1 ≡ Some s → Q (edge.0, s)) → All Q (filter_map moved edges) → All Q (filter_map moved (edge ∷ edges))
      by None e first rest = subst (λ o. All Q (cons_option (option_map (λ s. (edge.0, s)) o) (filter_map moved edges))) (sym e) rest
      by (Some s) e first rest =
          subst (λ o. All Q (cons_option (option_map (λ s. (edge.0, s)) o) (filter_map moved edges))) (sym e)
          (All-cons Q (edge.0, s) (filter_map moved edges) (first s e) rest)

  -- the pairs are in the order of the edges
  HasIncreasingLetters-moved : (edges : List (ℕ × R)) → HasIncreasingLetters edges → HasIncreasingLetters (filter_map moved edges)
  HasIncreasingLetters-moved [] h = tt
  HasIncreasingLetters-moved (edge ∷ edges) h =
      by (f edge.0 edge.1) refl (HasIncreasingLetters-moved edges h.1)
      (All-moved (λ (pair : ℕ × S). edge.0 < pair.0) edges (All-weaker (λ (x : ℕ × R). edge.0 < x.0) (λ (x : ℕ × R). (s : S) → f x.0 x.1 ≡ Some s → edge.0 < x.0) (λ x l s e. l) edges h.0))
    where
      by : (o : Option S) → f edge.0 edge.1 ≡ o → HasIncreasingLetters (filter_map moved edges) → All (λ pair. edge.0 < pair.0) (filter_map moved edges)
          → HasIncreasingLetters (filter_map moved (edge ∷ edges))
      by None e rest later = subst (λ o. HasIncreasingLetters (cons_option (option_map (λ s. (edge.0, s)) o) (filter_map moved edges))) (sym e) rest
      by (Some s) e rest later = subst (λ o. HasIncreasingLetters (cons_option (option_map (λ s. (edge.0, s)) o) (filter_map moved edges))) (sym e) (later, rest)

  -- a letter leads where the edge under it does
  look_up-moved : (edges : List (ℕ × R)) (a : ℕ) → HasIncreasingLetters edges → look_up (filter_map moved edges) a ≡ option_and_then (f a) (look_up edges a)
  look_up-moved [] a h = refl
  look_up-moved (edge ∷ edges) a h = by (f edge.0 edge.1) refl (look_up-moved edges a h.1) (cases_eq edge.0 a)
    where
      unfold_first : (o : Option S) → f edge.0 edge.1 ≡ o → look_up (filter_map moved (edge ∷ edges)) a ≡ look_up (cons_option (option_map (λ s. (edge.0, s)) o) (filter_map moved edges)) a
      unfold_first o e = ap (λ o. look_up (cons_option (option_map (λ s. (edge.0, s)) o) (filter_map moved edges)) a) e

      here : edge.0 ≡ a → (o : Option S) → f edge.0 edge.1 ≡ o → o ≡ option_and_then (f a) (look_up (edge ∷ edges) a)
      here same o e = sym (ap (option_and_then (f a)) (look_up-here edge edges a same) ∙ ap (λ x. f x edge.1) (sym same) ∙ e)

      none : edge.0 ≡ a → look_up (filter_map moved edges) a ≡ None
      none same = look_up-beneath (filter_map moved edges) a
          (All-moved (λ (pair : ℕ × S). a < pair.0) edges (All-weaker (λ (x : ℕ × R). edge.0 < x.0)
          (λ (x : ℕ × R). (s : S) → f x.0 x.1 ≡ Some s → a < x.0) (λ x l s e. subst (λ y. y < x.0) same l) edges h.0))

      by : (o : Option S) → f edge.0 edge.1 ≡ o → look_up (filter_map moved edges) a ≡ option_and_then (f a) (look_up edges a) → (edge.0 ≡ a) ⊎ (edge.0 ≡ a → ⊥)
          → look_up (filter_map moved (edge ∷ edges)) a ≡ option_and_then (f a) (look_up (edge ∷ edges) a)
      by None e rest (inl same) = unfold_first None e ∙ none same ∙ here same None e
      by (Some s) e rest (inl same) = unfold_first (Some s) e ∙ look_up-here (edge.0, s) (filter_map moved edges) a same ∙ here same (Some s) e
      by None e rest (inr other) = unfold_first None e ∙ rest ∙ ap (option_and_then (f a)) (sym (look_up-there edge edges a other))
      by (Some s) e rest (inr other) =
          unfold_first (Some s) e ∙ look_up-there (edge.0, s) (filter_map moved edges) a other ∙ rest ∙ ap (option_and_then (f a)) (sym (look_up-there edge edges a other))

  -- so they are the successors of a state whose steps are those of the edges
  pub IsSuccessors-moved : (t : DeterministicSystem S) (P : S → Type 0) (s : S) (edges : List (ℕ × R))
      → HasIncreasingLetters edges → All (λ edge. edge.0 < t.letters) edges
      → All (λ edge. (r : S) → f edge.0 edge.1 ≡ Some r → P r) edges → ((a : ℕ) → option_and_then (f a) (look_up edges a) ≡ t.step s a) → IsSuccessors t P s (filter_map moved edges)
  IsSuccessors-moved t P s edges increasing letters states steps = record {
    increasing = HasIncreasingLetters-moved edges increasing;
    letters_in_range = All-moved (λ (pair : ℕ × S). pair.0 < t.letters) edges
        (All-weaker (λ (x : ℕ × R). x.0 < t.letters) (λ (x : ℕ × R). (r : S) → f x.0 x.1 ≡ Some r → x.0 < t.letters) (λ x l r e. l) edges letters);
    states = All-moved (λ (pair : ℕ × S). P pair.1) edges states;
    steps = λ a. look_up-moved edges a increasing ∙ steps a;
  }
