-- Words that lead from one state to another, put together and taken apart.
use Rattle.std.proofs.Common.{◌≡◌, ◌<◌, ℕ, Bool, false, List, [], ◌∷◌, ◌++◌, Option, None, Some, length, refl, sym, ap, ◌∙◌, IsTrue, slice_get, true≢false}
use Rattle.std.proofs.lemmas.Option.{slice_get_within}
use Rattle.word_automata.specs.Path.{Node}
use Rattle.word_automata.specs.Automaton.{Automaton, target, find_target, accepts_from}
use Rattle.exploration.specs.Numbering.{run_from}

module _ (m : Automaton) where
  -- the last letter of a word that leads to a state
  pub run_from-push : (p : ℕ) (w : List ℕ) (a q : ℕ) → run_from m p (w ++ a ∷ []) ≡ Some q
      → (r : ℕ) × (run_from m p w ≡ Some r) × (target m r a ≡ Some q)
  run_from-push p [] a q h = go (target m p a) refl h
    where
      go : (o : Option ℕ) → target m p a ≡ o → (elim o as (λ o. Option ℕ) [ None ↦ None | Some r ↦ Some r ]) ≡ Some q
          → (r : ℕ) × (run_from m p [] ≡ Some r) × (target m r a ≡ Some q)
      go None e k = cc
      go (Some r) e k = (p, refl, e ∙ k)
  run_from-push p (b ∷ w) a q h = go (λ s. run_from-push s w a q) (target m p b) refl h
    where
      go : ((s : ℕ) → run_from m s (w ++ a ∷ []) ≡ Some q → (r : ℕ) × (run_from m s w ≡ Some r) × (target m r a ≡ Some q))
          → (o : Option ℕ) → target m p b ≡ o → (elim o as (λ o. Option ℕ) [ None ↦ None | Some r ↦ run_from m r (w ++ a ∷ []) ]) ≡ Some q
          → (r : ℕ) × (run_from m p (b ∷ w) ≡ Some r) × (target m r a ≡ Some q)
      go again None e k = cc
      go again (Some s) e k =
          let rest = again s k in
          (rest.0, ap (λ o. elim o as (λ o. Option ℕ) [ None ↦ None | Some r ↦ run_from m r w ]) e ∙ rest.1, rest.2)

  -- one word after another
  pub run_from-append : (p : ℕ) (u w : List ℕ) (r : ℕ) → run_from m p u ≡ Some r → run_from m p (u ++ w) ≡ run_from m r w
  run_from-append p [] w r h = ap (λ o. elim o as (λ o. Option ℕ) [ None ↦ None | Some x ↦ run_from m x w ]) h
  run_from-append p (b ∷ u) w r h = go (λ s. run_from-append s u w r) (target m p b) refl h
    where
      go : ((s : ℕ) → run_from m s u ≡ Some r → run_from m s (u ++ w) ≡ run_from m r w)
          → (o : Option ℕ) → target m p b ≡ o → (elim o as (λ o. Option ℕ) [ None ↦ None | Some x ↦ run_from m x u ]) ≡ Some r
          → run_from m p (b ∷ (u ++ w)) ≡ run_from m r w
      go again None e k = cc
      go again (Some s) e k = ap (λ o. elim o as (λ o. Option ℕ) [ None ↦ None | Some x ↦ run_from m x (u ++ w) ]) e ∙ again s k

  -- what is accepted after a word that leads to a state is what is accepted from there
  pub accepts_from-append : (p : ℕ) (u w : List ℕ) (r : ℕ) → run_from m p u ≡ Some r → accepts_from m p (u ++ w) ≡ accepts_from m r w
  accepts_from-append p [] w r h = ap (λ o. elim o as (λ o. Bool) [ None ↦ false | Some x ↦ accepts_from m x w ]) h
  accepts_from-append p (b ∷ u) w r h = go (λ s. accepts_from-append s u w r) (target m p b) refl h
    where
      go : ((s : ℕ) → run_from m s u ≡ Some r → accepts_from m s (u ++ w) ≡ accepts_from m r w)
          → (o : Option ℕ) → target m p b ≡ o → (elim o as (λ o. Option ℕ) [ None ↦ None | Some x ↦ run_from m x u ]) ≡ Some r
          → accepts_from m p (b ∷ (u ++ w)) ≡ accepts_from m r w
      go again None e k = cc
      go again (Some s) e k = ap (λ o. elim o as (λ o. Bool) [ None ↦ false | Some x ↦ accepts_from m x (u ++ w) ]) e ∙ again s k

  -- each front of an accepted word leads to a state
  pub run_from-accepted : (p : ℕ) (u w : List ℕ) → IsTrue (accepts_from m p (u ++ w)) → (r : ℕ) × (run_from m p u ≡ Some r)
  run_from-accepted p [] w h = (p, refl)
  run_from-accepted p (b ∷ u) w h = go (λ s. run_from-accepted s u w) (target m p b) refl h
    where
      go : ((s : ℕ) → IsTrue (accepts_from m s (u ++ w)) → (r : ℕ) × (run_from m s u ≡ Some r))
          → (o : Option ℕ) → target m p b ≡ o → IsTrue (elim o as (λ o. Bool) [ None ↦ false | Some x ↦ accepts_from m x (u ++ w) ])
          → (r : ℕ) × (run_from m p (b ∷ u) ≡ Some r)
      go again None e k = absurd (true≢false (sym k))
      go again (Some s) e k =
          let rest = again s k in
          (rest.0, ap (λ o. elim o as (λ o. Option ℕ) [ None ↦ None | Some x ↦ run_from m x u ]) e ∙ rest.1)

  -- an edge leaves a state that is there
  pub target-inside : (p a q : ℕ) → target m p a ≡ Some q → p < length m.states
  target-inside p a q h = go (slice_get m.states p) refl h
    where
      go : (o : Option (Node ℕ)) → slice_get m.states p ≡ o
          → find_target (elim o as (λ o. List (ℕ × ℕ)) [ None ↦ [] | Some node ↦ node.edges ]) a ≡ Some q → p < length m.states
      go None e k = cc
      go (Some node) e k = slice_get_within m.states p node e
