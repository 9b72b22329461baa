-- States accept the same short words exactly where their signatures are equal.
use Rattle.std.proofs.Common.{◌≡◌, ◌≤◌, ℕ, Bool, List, [], ◌∷◌, IsTrue, Contains, map, length, refl, sym, ap, ◌∙◌, inl, inr}
use Rattle.std.proofs.lemmas.Bool.{cases_Bool}
use Rattle.std.proofs.lemmas.List.{length-map}
use Rattle.word_automata.specs.Automaton.{Automaton, accepts_from, IsValid}
use Rattle.word_automata.proofs.ForCallers.{Contains-here, Contains-there}
use Rattle.abstraction.specs.BoundedWords.{words_up_to}
use Rattle.abstraction.proofs.ForCallers.{same_at, contains_accepted, word_is_short}
use Rattle.future_abstraction.specs.Signatures.{RelatedBySignature}

same_map : {X : Type 0} (f g : X → Bool) (xs : List X) → ((x : X) → Contains xs x → f x ≡ g x) → map f xs ≡ map g xs
same_map f g [] same = refl
same_map f g (x ∷ xs) same =
    ap (λ b. b ∷ map f xs) (same x (Contains-here xs x)) ∙ ap (λ bs. g x ∷ bs) (same_map f g xs (λ y there. same y (Contains-there x xs y there)))

-- a short word that one state accepts is one of the words by which states are told apart
accepted_also : (a : Automaton) → IsValid a → (n p q : ℕ) → map (accepts_from a p) (words_up_to a.letters n) ≡ map (accepts_from a q) (words_up_to a.letters n)
    → (w : List ℕ) → length w ≤ n → IsTrue (accepts_from a p w) → accepts_from a p w ≡ accepts_from a q w
accepted_also a valid n p q same w short accepted =
    same_at (accepts_from a p) (accepts_from a q) (words_up_to a.letters n) same w (contains_accepted a valid n w p short accepted)

pub related_by_signature : RelatedBySignature
related_by_signature key letters = record {
  count = λ a p same. length-map (words_up_to a.letters key.bound) (accepts_from a p) ∙ ap (λ l. length (words_up_to l key.bound)) same;
  equal = λ a p q valid same. (
    λ related. same_map (accepts_from a p) (accepts_from a q) (words_up_to a.letters key.bound)
        (λ w there. related w (word_is_short a.letters key.bound w there)),
    λ equal w short. elim (cases_Bool (accepts_from a p w)) [
      | inl holds ↦ accepted_also a valid key.bound p q equal w short holds
      | inr fails ↦ elim (cases_Bool (accepts_from a q w)) [
        | inl holds ↦ sym (accepted_also a valid key.bound q p (sym equal) w short holds)
        | inr neither ↦ fails ∙ sym neither
      ]
    ],
  );
}
