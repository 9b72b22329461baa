-- The words of the groups of a search, and what it has shown when it ends.
use Rattle.std.proofs.Common.{◌≡◌, ◌<◌, ◌≤◌, ◌⊎◌, ℕ, suc, zero, Bool, List, [], ◌∷◌, ◌++◌, Option, None, Some, length, reverse, refl, sym, ap, subst, ◌∙◌, inl, inr, arith, IsTrue}
use Rattle.std.proofs.lemmas.Bool.{cases_eq, cases_order, false≢true}
use Rattle.std.proofs.lemmas.List.{reverse-reverse, reverse-append, append_assoc, append-nil}
use Rattle.std.proofs.lemmas.Option.{same_Some, slice_get_within}
use Rattle.sequence.specs.WordOrder.{is_before, IsLeastWord}
use Rattle.exploration.proofs.ForCallers.{Below, Below-trans, before_from_Below, is_before-irreflexive, slice_get-some}
use Rattle.boolean_operations.specs.private.Search.{Leads, letters_of, IsFound, IsIn, Spells, IsNotAfter, AreSteps, Reached, Done}
use Rattle.boolean_operations.proofs.Order.{before_to_Below}

Below-irreflexive : (u : List ℕ) → Below u u → ⊥
Below-irreflexive u h = is_before-irreflexive (reverse u) (before_from_Below u u h)

Below-more : (x : List ℕ) (a : ℕ) → Below x (a ∷ x)
Below-more [] a = tt
Below-more (b ∷ x) a = inl (Below-more x b)

-- the word of the group is not after the word; both are written from their ends
abbrev IsUpTo : List (ℕ × ℕ) → ℕ → List ℕ → Type 0
IsUpTo steps g x = (u : List ℕ) × Spells steps u g × ((u ≡ x) ⊎ Below u x)

module _ (steps : List (ℕ × ℕ)) (are : AreSteps steps) where
  pub spells_some : (n g : ℕ) → g < n → g ≤ length steps → (u : List ℕ) × Spells steps u g
  spells_some zero g h l = absurd (omega arith)
  spells_some (suc n) zero h l = ([], refl)
  spells_some (suc n) (suc k) h l =
      let e = slice_get-some steps k (omega arith) in
      let b = are.back k e.0 e.1 in
      let rest = spells_some n e.0.0 (omega arith) (omega arith) in
      (e.0.1 ∷ rest.0, (e.0.0, e.1, rest.1))

  pub spells_unique : (u v : List ℕ) (g : ℕ) → Spells steps u g → Spells steps v g → u ≡ v
  spells_unique [] [] g h k = refl
  spells_unique [] (b ∷ v) zero h k = absurd k
  spells_unique [] (b ∷ v) (suc j) h k = absurd (let z : suc j ≡ 0 = h in omega arith)
  spells_unique (a ∷ u) [] zero h k = absurd h
  spells_unique (a ∷ u) [] (suc j) h k = absurd (let z : suc j ≡ 0 = k in omega arith)
  spells_unique (a ∷ u) (b ∷ v) zero h k = absurd h
  spells_unique (a ∷ u) (b ∷ v) (suc j) h k =
      let same : (h.0, a) ≡ (k.0, b) = same_Some (h.0, a) (k.0, b) (sym h.1 ∙ k.1) in
      let rest : u ≡ v = spells_unique u v k.0 (subst (Spells steps u) (ap (λ (x : ℕ × ℕ). x.0) same) h.2) k.2 in
      let letter : a ≡ b = ap (λ (x : ℕ × ℕ). x.1) same in
      (cc)

  pub spells_ordered : (u v : List ℕ) (g h : ℕ) → Spells steps u g → Spells steps v h → g < h → Below u v
  spells_ordered u [] g h x y l = absurd (let z : h ≡ 0 = y in omega arith)
  spells_ordered [] (b ∷ v) g h x y l = tt
  spells_ordered (a ∷ u) (b ∷ v) zero h x y l = absurd x
  spells_ordered (a ∷ u) (b ∷ v) (suc j) zero x y l = absurd y
  spells_ordered (a ∷ u) (b ∷ v) (suc j) (suc k) x y l =
      elim (are.ordered j k (x.0, a) (y.0, b) (omega arith) x.1 y.1) [
        | inl less ↦ inl (spells_ordered u v x.0 y.0 x.2 y.2 less)
        | inr more ↦ inr (spells_unique u v y.0 (subst (Spells steps u) more.0 x.2) y.2, more.1)
      ]

  up_to-below : (p g : ℕ) (x : List ℕ) → p < g → g ≤ length steps → IsUpTo steps g x → (v : List ℕ) × Spells steps v p × Below v x
  up_to-below p g x l within (u, spells, up) =
      let v = spells_some (suc p) p (omega arith) (omega arith) in
      let below : Below v.0 u = spells_ordered v.0 u p g v.1 spells l in
      (v.0, v.1, elim up [ inl e ↦ subst (Below v.0) e below | inr b ↦ Below-trans v.0 u x below b ])

  up_to-before : (h g : ℕ) (x : List ℕ) → h ≤ g → g ≤ length steps → IsUpTo steps g x → IsUpTo steps h x
  up_to-before h g x l within up = elim (cases_eq h g) [
    | inl same ↦ subst (λ i. IsUpTo steps i x) (sym same) up
    | inr other ↦ let low = up_to-below h g x (omega arith) within up in (low.0, low.1, inr low.2)
  ]

  up_to-step : (h g a : ℕ) (x : List ℕ) → IsNotAfter steps h g a → g ≤ length steps → IsUpTo steps g x → IsUpTo steps h (a ∷ x)
  up_to-step h g a x (inl first) within up = ([], first, inr tt)
  up_to-step h g a x (inr (k, is, p, b, at, inl less)) within up =
      let low = up_to-below p g x less within up in
      (b ∷ low.0, subst (Spells steps (b ∷ low.0)) (sym is) (p, at, low.1), inr (inl low.2))
  up_to-step h g a x (inr (k, is, p, b, at, inr (same, le))) within (u, spells, up) =
      (b ∷ u, subst (Spells steps (b ∷ u)) (sym is) (p, at, subst (Spells steps u) (sym same) spells), by up (cases_eq b a))
    where
      by : (u ≡ x) ⊎ Below u x → (b ≡ a) ⊎ (b ≡ a → ⊥) → (b ∷ u ≡ a ∷ x) ⊎ Below (b ∷ u) (a ∷ x)
      by (inl e) (inl letter) = inl (cc)
      by (inl e) (inr other) = inr (inr (e, omega arith))
      by (inr below) letter = inr (inl below)

-- the letters of the word put before x, one after the other
abbrev onto : List ℕ → List ℕ → List ℕ
onto [] x = x
onto (a ∷ w) x = onto w (a ∷ x)

onto-reverse : (w x : List ℕ) → onto w x ≡ reverse w ++ x
onto-reverse [] x = refl
onto-reverse (a ∷ w) x =
    onto-reverse w (a ∷ x)
    ∙ sym (append_assoc (reverse w) (a ∷ []) x)
    ∙ ap (λ y. y ++ x) (sym (reverse-append (a ∷ []) w))

module _ {S : Type 0} {P start : S → Type 0} {edge : S → Option ℕ → S → Type 0} {goal : S → Bool} {found : List S} {groups : List ℕ} {steps : List (ℕ × ℕ)} {next : ℕ}
    (e : Reached P start edge found groups steps (length found)) (d : Done start edge goal found groups steps next) where
  within_steps : (s : S) (g : ℕ) → IsIn found groups s g → g ≤ length steps
  within_steps s g (i, at, in_group) = e.owned i g in_group

  silent : (s r : S) (g : ℕ) → IsIn found groups s g → edge s None r → (h : ℕ) × IsIn found groups r h × (h ≤ g)
  silent s r g (i, at, in_group) goes = e.silent i g s r (slice_get_within found i s at) at in_group goes

  module _ (Inside : List ℕ → Type 0) (tail : (a : ℕ) (x : List ℕ) → Inside (a ∷ x) → Inside x)
      (early : (g : ℕ) (x : List ℕ) → g ≤ length steps → IsUpTo steps g x → Inside x → g < next) where
    back : (w x : List ℕ) → Inside (onto w x) → Inside x
    back [] x h = h
    back (a ∷ w) x h = tail a x (back w (a ∷ x) h)

    -- where moves lead was found, in a group whose word is not after theirs
    walk : (moves : List (Option ℕ × S)) (s t : S) (g : ℕ) (x : List ℕ) → IsIn found groups s g → IsUpTo steps g x → Leads edge s moves t → Inside (onto (letters_of moves) x)
        → (h : ℕ) × IsIn found groups t h × IsUpTo steps h (onto (letters_of moves) x)
    walk [] s t g x there up same inside = (g, subst (λ y. IsIn found groups y g) same there, up)
    walk ((None, r) ∷ moves) s t g x there up goes inside =
        let to = silent s r g there goes.0 in
        walk moves r t to.0 x to.1 (up_to-before steps e.are_steps to.0 g x to.2 (within_steps s g there) up) goes.1 inside
    walk ((Some a, r) ∷ moves) s t g x there up goes inside =
        let to = d.done s r g a there (early g x (within_steps s g there) up (back (a ∷ letters_of moves) x inside)) goes.0 in
        walk moves r t to.0 (a ∷ x) to.1 (up_to-step steps e.are_steps to.0 g a x to.2 (within_steps s g there) up) goes.1 inside

  -- all steps were taken, and no goal was met
  pub nothing_found : length steps < next → (w : List ℕ) → IsFound start edge goal w → ⊥
  nothing_found past w (t, good, (s, moves, begins, leads, says)) =
      let end = walk (λ x. Unit {0}) (λ a x h. tt) (λ g x l up h. omega arith) moves s t 0 [] (d.starts s begins) ([], refl, inl refl) leads tt in
      let l = within_steps t end.0 end.1 in
      false≢true (sym (d.inside t end.0 end.1 (omega arith)) ∙ good)

  -- the word of the first group with a goal is the least
  pub least_found : (s : S) → IsIn found groups s next → IsTrue (goal s) → (u : List ℕ) → Spells steps u next → IsLeastWord (IsFound start edge goal) (reverse u)
  least_found s there good u spells = ((s, good, e.reached s next there u spells), no_earlier)
    where
      early : (g : ℕ) (x : List ℕ) → g ≤ length steps → IsUpTo steps g x → Below x u → g < next
      early g x l (v, v_spells, up) below =
          let v_below : Below v u = elim up [ inl same ↦ subst (λ y. Below y u) (sym same) below | inr less ↦ Below-trans v x u less below ] in
          elim (cases_order g next) [
            | inl same ↦ absurd (Below-irreflexive u (subst (λ y. Below y u) (spells_unique steps e.are_steps v u next (subst (Spells steps v) same v_spells) spells) v_below))
            | inr (inl less) ↦ less
            | inr (inr more) ↦ absurd (Below-irreflexive u (Below-trans u v u (spells_ordered steps e.are_steps u v next g spells v_spells more) v_below))
          ]

      no_earlier : (v : List ℕ) → IsFound start edge goal v → IsTrue (is_before v (reverse u)) → ⊥
      no_earlier v (t, t_good, (from, moves, begins, leads, says)) before =
          let below : Below (reverse v) u = subst (Below (reverse v)) (reverse-reverse u) (before_to_Below v (reverse u) before) in
          let word : onto (letters_of moves) [] ≡ reverse v = onto-reverse (letters_of moves) [] ∙ append-nil (reverse (letters_of moves)) ∙ ap reverse says in
          let inside : Below (onto (letters_of moves) []) u = subst (λ y. Below y u) (sym word) below in
          let end = walk (λ x. Below x u) (λ a x h. Below-trans x (a ∷ x) u (Below-more x a) h) early moves from t 0 [] (d.starts from begins) ([], refl, inl refl) leads inside in
          let l = early end.0 (onto (letters_of moves) []) (within_steps t end.0 end.1) end.2 inside in
          false≢true (sym (d.inside t end.0 end.1 l) ∙ t_good)
