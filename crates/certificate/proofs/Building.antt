-- What the builder of an automaton does, by the lines that were read.
use Rattle.std.proofs.Common.{◌≡◌, ◌≢◌, ℕ, ◌&&◌, ◌==◌, true, false, eqb, List, [], ◌∷◌, ◌++◌, Option, Some, None, IsSome, Contains, nat_lt, refl, sym, ap, subst, ◌∙◌, arith, inl, inr, ◌⊎◌}
use Rattle.std.specs.List.{list_any}
use Rattle.std.proofs.lemmas.List.Elements.{Contains-append_left, Contains-push, Contains-push_cases}
use Rattle.std.proofs.lemmas.List.Folds.{list_any-from_Any, Any-from_list_any}
use Rattle.std.proofs.lemmas.Bool.{cases_eq, cases_Bool, eq-eqb, eqb-true, ne_eqb, cond-true, cond-false, and_from, and_left, and_right, and_parts, lt-ltb}
use Rattle.std.proofs.lemmas.Option.{same_Some, none-some}
use Rattle.word_automata.specs.Automaton.{Automaton, target}
use Rattle.word_automata.specs.Building.{AddsEdge, MakesAccepting, IsEdgeInRange}
use Rattle.certificate.specs.AutomatonLines.{Line, Final, Edge, Edges}
use Rattle.certificate.specs.private.Kept.{HasLines}
use Rattle.certificate.specs.Stages.{is_edge_of}

some_value : {X : Type 0} (o : Option X) → IsSome o → (x : X) × (o ≡ Some x)
some_value None h = cc h
some_value (Some x) h = (x, refl)

-- two places are one or apart
same_place : (p q a b : ℕ) → ((p ≡ q) × (a ≡ b)) ⊎ ((p ≢ q) ⊎ (a ≢ b))
same_place p q a b =
    elim (cases_eq p q) [
      | inl state ↦ elim (cases_eq a b) [ inl letter ↦ inl (state, letter) | inr differs ↦ inr (inr differs) ]
      | inr differs ↦ inr (inl differs)
    ]

-- an accepting state is a line's; a line more makes its state accepting
module _ (size count : ℕ) (lines : List Line) (old new : Automaton) (h : HasLines size count lines old) where
  pub HasLines-final : (q : ℕ) → MakesAccepting old new q → HasLines size count (lines ++ Final q ∷ []) new
  HasLines-final q made = record {
    letters_are = made.same_letters ∙ h.letters_are;
    states_are = made.same_size ∙ h.states_are;
    final_lines = λ p. (
      λ accepts. elim (cases_eq p q) [
        | inl same ↦ subst (λ state. Contains (lines ++ Final q ∷ []) (Final state)) (sym same) (Contains-push lines (Final q))
        | inr differs ↦
            Contains-append_left lines (Final q ∷ []) (Final p)
            ((h.final_lines p).0 (sym (made.acceptance p ∙ cond-false (eqb p q) true _ (ne_eqb p q differs)) ∙ accepts))
      ],
      λ among. elim (cases_eq p q) [
        | inl same ↦ made.acceptance p ∙ cond-true (eqb p q) true _ (eq-eqb p q same)
        | inr differs ↦ elim (Contains-push_cases lines (Final q) (Final p) among) [
          | inl earlier ↦ made.acceptance p ∙ cond-false (eqb p q) true _ (ne_eqb p q differs) ∙ (h.final_lines p).1 earlier
          | inr same ↦ absurd (differs cc)
        ]
      ],
    );
    edge_lines = λ p a r. (
      λ leads. Contains-append_left lines (Final q ∷ []) (Edge p a r) ((h.edge_lines p a r).0 (sym (made.same_targets p a) ∙ leads)),
      λ among. elim (Contains-push_cases lines (Final q) (Edge p a r) among) [
        | inl earlier ↦ made.same_targets p a ∙ (h.edge_lines p a r).1 earlier
        | inr same ↦ absurd cc
      ],
    );
  }

  pub HasLines-edge : (p a q : ℕ) → target old p a ≡ None → AddsEdge old new p a q → HasLines size count (lines ++ Edge p a q ∷ []) new
  HasLines-edge p a q none added =
      let here : (p' a' : ℕ) → p' ≡ p → a' ≡ a → target new p' a' ≡ Some q
      = λ p' a' same_state same_letter. added.targets p' a'
      ∙ cond-true (eqb p' p && eqb a' a) _ _ (and_from (eqb p' p) (eqb a' a) (eq-eqb p' p same_state) (eq-eqb a' a same_letter)) in
      let elsewhere : (p' a' : ℕ) → (p' ≢ p) ⊎ (a' ≢ a) → target new p' a' ≡ target old p' a'
      = λ p' a' apart. added.targets p' a' ∙ cond-false (eqb p' p && eqb a' a) _ _ (elim apart [
        | inl state ↦ and_left (eqb p' p) (eqb a' a) (ne_eqb p' p state)
        | inr letter ↦ and_right (eqb p' p) (eqb a' a) (ne_eqb a' a letter)
      ]) in
      record {
        letters_are = added.same_letters ∙ h.letters_are;
        states_are = added.same_size ∙ h.states_are;
        final_lines = λ r. (
          λ accepts. Contains-append_left lines (Edge p a q ∷ []) (Final r) ((h.final_lines r).0 (sym (added.same_acceptance r) ∙ accepts)),
          λ among. elim (Contains-push_cases lines (Edge p a q) (Final r) among) [
            | inl earlier ↦ added.same_acceptance r ∙ (h.final_lines r).1 earlier
            | inr same ↦ absurd cc
          ],
        );
        edge_lines = λ p' a' r. (
          λ leads. elim (same_place p' p a' a) [
            | inl place ↦
                let target_is : q ≡ r = same_Some q r (sym (here p' a' place.0 place.1) ∙ leads) in
                let line_is : Edge p a q ≡ Edge p' a' r = cc (target_is, place.0, place.1) in
                subst (Contains (lines ++ Edge p a q ∷ [])) line_is (Contains-push lines (Edge p a q))
            | inr apart ↦ Contains-append_left lines (Edge p a q ∷ []) (Edge p' a' r)
                ((h.edge_lines p' a' r).0 (sym (elsewhere p' a' apart) ∙ leads))
          ],
          λ among. elim (same_place p' p a' a) [
            | inl place ↦ elim (Contains-push_cases lines (Edge p a q) (Edge p' a' r) among) [
              | inl earlier ↦
                  let leads = (h.edge_lines p' a' r).1 earlier in
                  absurd (none-some r (sym none ∙ sym (ap (λ b. target old p b) place.1) ∙ sym (ap (λ b. target old b a') place.0) ∙ leads))
              | inr same ↦
                  let target_is : q ≡ r = cc in
                  here p' a' place.0 place.1 ∙ ap Some target_is
            ]
            | inr apart ↦ elim (Contains-push_cases lines (Edge p a q) (Edge p' a' r) among) [
              | inl earlier ↦ elsewhere p' a' apart ∙ (h.edge_lines p' a' r).1 earlier
              | inr same ↦
                  let state : p' ≡ p = cc in
                  let letter : a' ≡ a = cc in
                  absurd (elim apart [ inl differs ↦ differs state | inr differs ↦ differs letter ])
            ]
          ],
        );
      }

-- what the tests of the lines say of the automaton
module _ (size count : ℕ) (lines : List Line) (m : Automaton) (h : HasLines size count lines m) where
  pub in_range : (p a q : ℕ) → IsEdgeInRange m p a q → (nat_lt p count && nat_lt q count) ≡ true
  in_range p a q is =
      and_from _ _ (lt-ltb p count (omega (arith, is.from_state, h.states_are))) (lt-ltb q count (omega (arith, is.to_state, h.states_are)))

  is_edge : (p a : ℕ) (line : Line) → is_edge_of p a line ≡ true → (q : ℕ) × (line ≡ Edge p a q)
  is_edge p a (Final q) e = absurd (let f : false ≡ true = e in cc)
  is_edge p a (Edges p' q indices) e = absurd (let f : false ≡ true = e in cc)
  is_edge p a (Edge p' a' q) e =
      let both = and_parts (p' == p) (a' == a) e in
      let state : p' ≡ p = eqb-true p' p both.0 in
      let label : a' ≡ a = eqb-true a' a both.1 in
      (q, cc (state, label))

  own : (p a q : ℕ) → is_edge_of p a (Edge p a q) ≡ true
  own p a q = and_from _ _ (eq-eqb p p refl) (eq-eqb a a refl)

  pub no_second : (p a : ℕ) → target m p a ≡ None → list_any (is_edge_of p a) lines ≡ false
  no_second p a none = elim (cases_Bool (list_any (is_edge_of p a) lines)) [
    | inl there ↦
        let found = Any-from_list_any (is_edge_of p a) lines there in
        let edge = is_edge p a found.1 found.4 in
        absurd (none-some edge.0 (sym none ∙ (h.edge_lines p a edge.0).1 (subst (Contains lines) edge.1 (found.0, found.2, found.3))))
    | inr fresh ↦ fresh
  ]

  pub second : (p a : ℕ) → IsSome (target m p a) → list_any (is_edge_of p a) lines ≡ true
  second p a some =
      let to = some_value (target m p a) some in
      let among = (h.edge_lines p a to.0).0 to.1 in
      list_any-from_Any (is_edge_of p a) lines (among.0, Edge p a to.0, among.1, among.2, own p a to.0)
