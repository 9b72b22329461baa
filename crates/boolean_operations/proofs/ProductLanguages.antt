-- What products accept, and their successors.
use Rattle.std.proofs.Common.{◌≡◌, ℕ, Bool, true, false, ◌&&◌, List, [], ◌∷◌, Option, None, Some, if◌then◌else◌, true≢false, refl, sym, ap, subst, ◌∙◌}
use Rattle.std.proofs.lemmas.Option.{same_Some, none-some}
use Rattle.word_automata.specs.Automaton.{Automaton, accepts}
use Rattle.exploration.specs.DeterministicSystem.{accepts_by, accepts_by_from}
use Rattle.boolean_operations.specs.OptionalStates.{start_of, follow, accepts_at, IsStateOrNone}
use Rattle.boolean_operations.specs.private.Products.{combine, is_live, pair_of, pair_system}
use Rattle.boolean_operations.specs.declared.products.Operation.{Operation}
use Rattle.boolean_operations.specs.declared.products.Operation.TheVariants.{Union, Intersection, Difference}
use Rattle.boolean_operations.proofs.OptionalStates.{accepts_option, accepts_option-nil, accepts_option-cons, accepts_option-start}

and_false : (b : Bool) → (b && false) ≡ false
and_false true = refl
and_false false = refl

-- the pair, if so
abbrev pair_if : Bool → Option ℕ → Option ℕ → Option (Option ℕ × Option ℕ)
pair_if b p q = if b then Some (p, q) else None

module _ (operation : Operation) (left right : Automaton) where
  -- from a pair that is not live no word is accepted
  dead : (operation : Operation) (p q : Option ℕ) (w : List ℕ) → is_live operation p q ≡ false → combine operation (accepts_option left p w) (accepts_option right q w) ≡ false
  dead Union None None w not_live = refl
  dead Union None (Some q) w not_live = absurd (true≢false not_live)
  dead Union (Some p) q w not_live = absurd (true≢false not_live)
  dead Intersection None q w not_live = refl
  dead Intersection (Some p) None w not_live = and_false (accepts_option left (Some p) w)
  dead Intersection (Some p) (Some q) w not_live = absurd (true≢false not_live)
  dead Difference None q w not_live = refl
  dead Difference (Some p) q w not_live = absurd (true≢false not_live)

  -- what is accepted after the pair was made, from what is accepted from it
  after_pair : (p q : Option ℕ) (w : List ℕ) → accepts_by_from (pair_system operation left right) (p, q) w ≡ combine operation (accepts_option left p w) (accepts_option right q w)
      → (elim (pair_of operation p q) as (λ o. Bool) [ None ↦ false | Some s ↦ accepts_by_from (pair_system operation left right) s w ]) ≡ combine operation (accepts_option left p w)
      (accepts_option right q w)
  after_pair p q w from = by (is_live operation p q) refl
    where
      by : (b : Bool) → is_live operation p q ≡ b
          → (elim (pair_of operation p q) as (λ o. Bool) [ None ↦ false | Some s ↦ accepts_by_from (pair_system operation left right) s w ]) ≡ combine operation (accepts_option left p w)
          (accepts_option right q w)
      by true live = ap (λ (b : Bool). elim (pair_if b p q) as (λ o. Bool) [ None ↦ false | Some s ↦ accepts_by_from (pair_system operation left right) s w ]) live ∙ from
      by false not_live =
          ap (λ (b : Bool). elim (pair_if b p q) as (λ o. Bool) [ None ↦ false | Some s ↦ accepts_by_from (pair_system operation left right) s w ]) not_live
          ∙ sym (dead operation p q w not_live)

  -- a product accepts from a pair what its parts say
  product_from : (w : List ℕ) (p q : Option ℕ) → accepts_by_from (pair_system operation left right) (p, q) w ≡ combine operation (accepts_option left p w) (accepts_option right q w)
  product_from [] p q =
      ap (λ b. combine operation b (accepts_at right q)) (sym (accepts_option-nil left p))
      ∙ ap (λ b. combine operation (accepts_option left p []) b) (sym (accepts_option-nil right q))
  product_from (a ∷ w) p q =
      after_pair (follow left p a) (follow right q a) w (product_from w (follow left p a) (follow right q a))
      ∙ ap (λ b. combine operation b (accepts_option right (follow right q a) w)) (sym (accepts_option-cons left p a w))
      ∙ ap (λ b. combine operation (accepts_option left p (a ∷ w)) b) (sym (accepts_option-cons right q a w))

  -- and from its start
  pub product_language : (w : List ℕ) → accepts_by (pair_system operation left right) w ≡ combine operation (accepts left w) (accepts right w)
  product_language w =
      after_pair (start_of left.states) (start_of right.states) w (product_from w (start_of left.states) (start_of right.states))
      ∙ ap (λ b. combine operation b (accepts_option right (start_of right.states) w)) (accepts_option-start left w)
      ∙ ap (λ b. combine operation (accepts left w) b) (accepts_option-start right w)

  -- a pair of two missing states is not live
  pub no_pair : (operation : Operation) → pair_of operation None None ≡ None
  no_pair Union = refl
  no_pair Intersection = refl
  no_pair Difference = refl

  -- what is made of a pair has its states
  pub pair_states : (p q : Option ℕ) (pair : Option ℕ × Option ℕ) → pair_of operation p q ≡ Some pair → IsStateOrNone left p → IsStateOrNone right q → IsStateOrNone left pair.0
      × IsStateOrNone right pair.1
  pair_states p q pair made left_state right_state = by (is_live operation p q) refl
    where
      by : (b : Bool) → is_live operation p q ≡ b → IsStateOrNone left pair.0 × IsStateOrNone right pair.1
      by true live =
          let same : (p, q) ≡ pair = same_Some (p, q) pair (sym (ap (λ (b : Bool). pair_if b p q) live) ∙ made) in
          subst (λ (x : Option ℕ × Option ℕ). IsStateOrNone left x.0 × IsStateOrNone right x.1) same (left_state, right_state)
      by false not_live = absurd (none-some pair (sym (ap (λ (b : Bool). pair_if b p q) not_live) ∙ made))
