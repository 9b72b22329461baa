-- What a complement accepts, and its successors.
use Rattle.std.proofs.Common.{◌≡◌, ℕ, Bool, true, false, ◌&&◌, not, nat_lt, List, [], ◌∷◌, Option, None, Some, get_or, if◌then◌else◌, refl, sym, ap, ◌∙◌, inl, inr, lt-ltb, arith}
use Rattle.std.proofs.lemmas.Bool.{cases_lt}
use Rattle.std.proofs.lemmas.Bool.Decides.{nat_tests}
use Rattle.std.proofs.lemmas.List.Elements.{All-map}
use Rattle.word_automata.specs.Automaton.{Automaton, accepts, IsValid}
use Rattle.exploration.specs.DeterministicSystem.{accepts_by, accepts_by_from, IsSuccessors}
use Rattle.boolean_operations.specs.OptionalStates.{start_of, follow, IsStateOrNone}
use Rattle.boolean_operations.specs.Complements.{are_letters, complement_system}
use Rattle.boolean_operations.proofs.OptionalStates.{accepts_option, accepts_option-nil, accepts_option-cons, accepts_option-start, follow-within}
use Rattle.boolean_operations.proofs.Letters.{letters_below, valued, valued-below, valued-increasing, look_up-valued, look_up-valued_above}

module _ (m : Automaton) where
  -- a complement accepts from a state the words over the letters that the automaton refuses from there
  complement_from : (w : List ℕ) (s : Option ℕ) → accepts_by_from (complement_system m) s w ≡ (are_letters m.letters w && not (accepts_option m s w))
  complement_from [] s = ap not (sym (accepts_option-nil m s))
  complement_from (a ∷ w) s = by (nat_lt a m.letters) refl (complement_from w (follow m s a))
    where
      by : (b : Bool) → nat_lt a m.letters ≡ b → accepts_by_from (complement_system m) (follow m s a) w ≡ (are_letters m.letters w && not (accepts_option m (follow m s a) w))
          → accepts_by_from (complement_system m) s (a ∷ w) ≡ (are_letters m.letters (a ∷ w) && not (accepts_option m s (a ∷ w)))
      by true below rest =
          ap (λ (b : Bool). elim (if b then Some (follow m s a) else None) as (λ o. Bool) [ None ↦ false | Some r ↦ accepts_by_from (complement_system m) r w ]) below
          ∙ rest
          ∙ ap (λ (b : Bool). are_letters m.letters w && not b) (sym (accepts_option-cons m s a w))
          ∙ ap (λ (b : Bool). (b && are_letters m.letters w) && not (accepts_option m s (a ∷ w))) (sym below)
      by false above rest =
          ap (λ (b : Bool). elim (if b then Some (follow m s a) else None) as (λ o. Bool) [ None ↦ false | Some r ↦ accepts_by_from (complement_system m) r w ]) above
          ∙ ap (λ (b : Bool). (b && are_letters m.letters w) && not (accepts_option m s (a ∷ w))) (sym above)

  -- and from its start
  pub complement_language : (w : List ℕ) → accepts_by (complement_system m) w ≡ (are_letters m.letters w && not (accepts m w))
  complement_language w = complement_from w (start_of m.states) ∙ ap (λ (b : Bool). are_letters m.letters w && not b) (accepts_option-start m w)

  -- each letter leads on
  pub complement_successors : IsValid m → (s : Option ℕ) → IsSuccessors (complement_system m) (λ state. IsValid m × IsStateOrNone m state) s (valued (follow m s) m.letters)
  complement_successors valid s = record {
    increasing = valued-increasing (follow m s) m.letters;
    letters_in_range = valued-below (follow m s) m.letters;
    states = All-map (λ (pair : ℕ × Option ℕ). IsValid m × IsStateOrNone m pair.1) (λ a. (a, follow m s a)) (letters_below m.letters)
        (λ k d within. (valid, follow-within m valid s (get_or (letters_below m.letters) k d)));
    steps = λ a. elim (cases_lt a m.letters) [
      | inl below ↦ look_up-valued (follow m s) m.letters a below ∙ ap (λ (b : Bool). if b then Some (follow m s a) else None) {x = true} {y = nat_lt a m.letters} (sym (lt-ltb a m.letters below))
      | inr above ↦ look_up-valued_above (follow m s) m.letters a above ∙ ap (λ (b : Bool). if b then Some (follow m s a) else None) {x = false} {y = nat_lt a m.letters} (grind (arith, nat_tests))
    ];
  }
