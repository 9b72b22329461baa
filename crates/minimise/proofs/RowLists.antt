-- The rows of an automaton, one after another.
use Rattle.std.proofs.Common.{◌≡◌, ◌+◌, ◌<◌, ℕ, zero, suc, Bool, List, [], ◌∷◌, ◌++◌, length, take, refl, sym, ap, ◌∙◌, add-one, arith}
use Rattle.word_automata.specs.Path.{Node, edges_of, is_accepting}

-- one row more
pub take-row : (states : List (Node ℕ)) (i : ℕ) → i < length states
    → take i states ++ record { accepting = is_accepting states i; edges = edges_of states i } ∷ [] ≡ take (suc i) states
take-row [] i l = absurd (omega arith)
take-row (state ∷ states) zero l = refl
take-row (state ∷ states) (suc i) l = ap (λ xs. state ∷ xs) (take-row states i (omega arith))

pub row_added : (states rows more : List (Node ℕ)) (i : ℕ) (accepting : Bool) (edges : List (ℕ × ℕ)) → i < length states → rows ≡ take i states
    → accepting ≡ is_accepting states i → edges ≡ edges_of states i → more ≡ rows ++ record { accepting = accepting; edges = edges } ∷ []
    → more ≡ take (i + 1) states
row_added states rows more i accepting edges l same f e added =
    added ∙ ap (λ xs. xs ++ record { accepting = accepting; edges = edges } ∷ []) same
    ∙ ap (λ b. take i states ++ record { accepting = b; edges = edges } ∷ []) f
    ∙ ap (λ es. take i states ++ record { accepting = is_accepting states i; edges = es } ∷ []) e ∙ take-row states i l
    ∙ ap (λ n. take n states) (sym (add-one i))
