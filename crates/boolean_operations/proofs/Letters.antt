-- The letters below a number, in order, each with a value.
use Rattle.std.proofs.Common.{◌≡◌, ℕ, zero, suc, ◌<◌, ◌≤◌, List, [], ◌∷◌, ◌++◌, None, Some, map, All, inl, inr, sym, ap, subst, ◌∙◌, arith}
use Rattle.std.proofs.lemmas.Bool.{cases_eq}
use Rattle.std.proofs.lemmas.List.Elements.{All-nil, All-push, All-weaker, All-tail}
use Rattle.std.proofs.lemmas.List.{map_push}
use Rattle.exploration.specs.DeterministicSystem.{look_up, HasIncreasingLetters}
use Rattle.exploration.proofs.ForCallers.{look_up-above, look_up-push_same, look_up-push_other}

-- the letters below n, in order
abbrev pub letters_below : ℕ → List ℕ
letters_below zero = []
letters_below (suc n) = letters_below n ++ n ∷ []

-- one more pair with a greater letter
pub increasing_push : {S : Type 0} (pairs : List (ℕ × S)) (pair : ℕ × S) → HasIncreasingLetters pairs → All (λ x. x.0 < pair.0) pairs → HasIncreasingLetters (pairs ++ pair ∷ [])
increasing_push {S} [] pair rise below = (All-nil (λ (later : ℕ × S). pair.0 < later.0), tt)
increasing_push {S} (x ∷ pairs) pair rise below = (
  All-push (λ (later : ℕ × S). x.0 < later.0) pairs pair rise.0 (below 0 x (omega arith)),
  increasing_push pairs pair rise.1 (All-tail (λ (y : ℕ × S). y.0 < pair.0) x pairs below),
)

module _ {S : Type 0} (h : ℕ → S) where
  -- each of them with a value
  abbrev pub valued : ℕ → List (ℕ × S)
  valued n = map (λ a. (a, h a)) (letters_below n)

  pub valued-suc : (n : ℕ) → valued (suc n) ≡ valued n ++ (n, h n) ∷ []
  valued-suc n = map_push (λ a. (a, h a)) (letters_below n) n

  pub valued-below : (n : ℕ) → All (λ pair. pair.0 < n) (valued n)
  valued-below zero = All-nil (λ (pair : ℕ × S). pair.0 < 0)
  valued-below (suc n) =
      subst (All (λ (pair : ℕ × S). pair.0 < suc n)) (sym (valued-suc n))
      (All-push (λ (pair : ℕ × S). pair.0 < suc n) (valued n) (n, h n)
      (All-weaker (λ (pair : ℕ × S). pair.0 < n) (λ (pair : ℕ × S). pair.0 < suc n) (λ pair below. omega arith) (valued n) (valued-below n)) (omega arith))

  pub valued-increasing : (n : ℕ) → HasIncreasingLetters (valued n)
  valued-increasing zero = tt
  valued-increasing (suc n) = subst HasIncreasingLetters (sym (valued-suc n)) (increasing_push (valued n) (n, h n) (valued-increasing n) (valued-below n))

  pub look_up-valued : (n a : ℕ) → a < n → look_up (valued n) a ≡ Some (h a)
  look_up-valued zero a below = absurd (omega arith)
  look_up-valued (suc n) a below = ap (λ pairs. look_up pairs a) (valued-suc n) ∙ elim (cases_eq n a) [
    | inl same ↦
        subst (λ b. look_up (valued n ++ (n, h n) ∷ []) b ≡ Some (h b)) same
        (look_up-push_same (valued n) (n, h n) (look_up-above (valued n) n (valued-below n)))
    | inr other ↦ look_up-push_other (valued n) (n, h n) a other ∙ look_up-valued n a (omega arith)
  ]

  pub look_up-valued_above : (n a : ℕ) → n ≤ a → look_up (valued n) a ≡ None
  look_up-valued_above n a above =
      look_up-above (valued n) a (All-weaker (λ (pair : ℕ × S). pair.0 < n) (λ (pair : ℕ × S). pair.0 < a) (λ pair below. omega arith) (valued n) (valued-below n))
