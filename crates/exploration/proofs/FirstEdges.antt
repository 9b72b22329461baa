-- States that were found by their least edges, in the order of these, are numbered breadth first.
use Rattle.std.proofs.Common.{◌≡◌, ◌<◌, ◌⊎◌, ℕ, suc, zero, List, [], ◌∷◌, Option, None, Some, length, reverse, refl, sym, ap, subst, ◌∙◌, inl, inr, arith, IsTrue}
use Rattle.std.proofs.lemmas.List.{reverse-reverse, reverse-append}
use Rattle.sequence.specs.WordOrder.{is_before, IsLeastWord}
use Rattle.word_automata.specs.Automaton.{Automaton, target}
use Rattle.exploration.specs.Numbering.{run_from, Reaches, IsBreadthFirst}
use Rattle.exploration.specs.private.Worklist.{FirstEdges}
use Rattle.exploration.proofs.Words.{Below, Below-trans, before_at_reverses, is_before-irreflexive, is_before-asymmetric, IsLeastWord-unique}
use Rattle.exploration.proofs.Runs.{run_from-push, run_from-append}

-- the word, written from its end, leads from state 0 to the state
abbrev Arrives : Automaton → List ℕ → ℕ → Type 0
Arrives m [] q = q ≡ 0
Arrives m (a ∷ u) q = (p : ℕ) × Arrives m u p × (target m p a ≡ Some q)

arrives_from_run : (m : Automaton) (u : List ℕ) (q : ℕ) → run_from m 0 (reverse u) ≡ Some q → Arrives m u q
arrives_from_run m [] q h = cc
arrives_from_run m (a ∷ u) q h =
    let parts = run_from-push m 0 (reverse u) a q (subst (λ w. run_from m 0 w ≡ Some q) (reverse-append (a ∷ []) u) h) in
    (parts.0, arrives_from_run m u parts.0 parts.1, parts.2)

run_from_arrives : (m : Automaton) (u : List ℕ) (q : ℕ) → Arrives m u q → run_from m 0 (reverse u) ≡ Some q
run_from_arrives m [] q h = ap Some (sym h)
run_from_arrives m (a ∷ u) q (p, rest, edge) =
    ap (run_from m 0) (reverse-append (a ∷ []) u)
    ∙ run_from-append m 0 (reverse u) (a ∷ []) p (run_from_arrives m u p rest)
    ∙ ap (λ o. elim o as (λ o. Option ℕ) [ None ↦ None | Some r ↦ Some r ]) edge

module _ (m : Automaton) (n : ℕ) (f : FirstEdges (target m) n) (inside : (p a q : ℕ) → target m p a ≡ Some q → p < n) where
  -- the word of the first edges that lead to the state, written from its end
  abbrev Spells : List ℕ → ℕ → Type 0
  Spells [] q = q ≡ 0
  Spells (a ∷ u) q = (0 < q) × ((f.first q).1 ≡ a) × Spells u (f.first q).0

  Spells-some : (k q : ℕ) → q < k → q < n → (u : List ℕ) × Spells u q
  Spells-some zero q h l = absurd (omega arith)
  Spells-some (suc k) zero h l = ([], refl)
  Spells-some (suc k) (suc q) h l =
      let pos : 0 < suc q = omega arith in
      let e = f.earlier (suc q) pos l in
      let rest = Spells-some k (f.first (suc q)).0 (omega arith) (omega arith) in
      ((f.first (suc q)).1 ∷ rest.0, (pos, refl, rest.1))

  Spells-unique : (u v : List ℕ) (q : ℕ) → Spells u q → Spells v q → u ≡ v
  Spells-unique [] [] q h k = refl
  Spells-unique [] (b ∷ v) q h k = absurd (let pos = k.0 in omega arith)
  Spells-unique (a ∷ u) [] q h k = absurd (let pos = h.0 in omega arith)
  Spells-unique (a ∷ u) (b ∷ v) q h k = let e = Spells-unique u v (f.first q).0 h.2 k.2 in let x = h.1 in let y = k.1 in cc

  Spells-arrives : (u : List ℕ) (q : ℕ) → Spells u q → q < n → Arrives m u q
  Spells-arrives [] q h l = h
  Spells-arrives (a ∷ u) q h l =
      let e = f.earlier q h.0 l in
      ((f.first q).0, Spells-arrives u (f.first q).0 h.2 (omega arith), subst (λ b. target m (f.first q).0 b ≡ Some q) h.1 (f.edge q h.0 l))

  Spells-ordered : (u v : List ℕ) (p q : ℕ) → Spells u p → Spells v q → p < q → q < n → Below u v
  Spells-ordered u [] p q h k l s = absurd (let z : q ≡ 0 = k in omega arith)
  Spells-ordered [] (b ∷ v) p q h k l s = tt
  Spells-ordered (a ∷ u) (b ∷ v) p q h k l s =
      let e = f.earlier q k.0 s in
      elim (f.ordered p q h.0 l s) [
        | inl less ↦ inl (Spells-ordered u v (f.first p).0 (f.first q).0 h.2 k.2 less (omega arith))
        | inr more ↦ inr (Spells-unique u v (f.first q).0 (subst (Spells u) more.0 h.2) k.2, (let x = h.1 in let y = k.1 in let z = more.1 in omega arith))
      ]

  Spells-least : (v : List ℕ) (q : ℕ) (u : List ℕ) → Arrives m v q → Spells u q → q < n → (u ≡ v) ⊎ Below u v
  Spells-least [] q [] h k l = inl refl
  Spells-least [] q (a ∷ u) h k l = absurd (let pos = k.0 in let z : q ≡ 0 = h in omega arith)
  Spells-least (b ∷ v) q [] h k l = inr tt
  Spells-least (b ∷ v) q (a ∷ u) (r, rest, edge) k l =
      elim (f.least q r b k.0 l edge) [
        | inl same ↦ elim (Spells-least v r u rest (subst (Spells u) same.0 k.2) (inside r b q edge)) [
          | inl e ↦ inl (let x = k.1 in let y = same.1 in cc)
          | inr below ↦ inr (inl below)
        ]
        | inr (inl less) ↦ inr (inl (further less (λ x. Spells-least v r x rest)))
        | inr (inr more) ↦ elim (Spells-least v r u rest (subst (Spells u) more.0 k.2) (inside r b q edge)) [
          | inl e ↦ inr (inr (e, (let x = k.1 in let y = more.1 in omega arith)))
          | inr below ↦ inr (inl below)
        ]
      ]
    where
      further : (f.first q).0 < r → ((x : List ℕ) → Spells x r → r < n → (x ≡ v) ⊎ Below x v) → Below u v
      further less again =
          let there : r < n = inside r b q edge in
          let x = Spells-some (suc r) r (omega arith) there in
          let below = Spells-ordered u x.0 (f.first q).0 r k.2 x.1 less there in
          elim (again x.0 x.1 there) [
            | inl e ↦ subst (Below u) e below
            | inr more ↦ Below-trans u x.0 v below more
          ]

  -- the word of the first edges is the least
  spelled-least : (q : ℕ) (u : List ℕ) → Spells u q → q < n → IsLeastWord (Reaches m q) (reverse u)
  spelled-least q u s l = (run_from_arrives m u q (Spells-arrives u q s l), λ v reaches before. contradiction v before (Spells-least (reverse v) q u (arrives v reaches) s l))
    where
      arrives : (v : List ℕ) → Reaches m q v → Arrives m (reverse v) q
      arrives v reaches = arrives_from_run m (reverse v) q (subst (λ w. run_from m 0 w ≡ Some q) (sym (reverse-reverse v)) reaches)

      contradiction : (v : List ℕ) → IsTrue (is_before v (reverse u)) → (u ≡ reverse v) ⊎ Below u (reverse v) → ⊥
      contradiction v before (inl e) = is_before-irreflexive v (subst (λ w. IsTrue (is_before v w)) (ap reverse e ∙ reverse-reverse v) before)
      contradiction v before (inr below) =
          is_before-asymmetric v (reverse u) before
          (before_at_reverses (reverse u) v (subst (λ w. Below w (reverse v)) (sym (reverse-reverse u)) below))

  pub breadth_first : n ≡ length m.states → IsBreadthFirst m
  breadth_first count = record {
    reached = λ q l. let s = Spells-some (suc q) q (omega arith) (omega arith) in (reverse s.0, spelled-least q s.0 s.1 (omega arith));
    increasing = λ p q u w l k least-u least-w. increase p q u w l k least-u least-w;
  }
    where
      increase : (p q : ℕ) (u w : List ℕ) → p < q → q < length m.states → IsLeastWord (Reaches m p) u → IsLeastWord (Reaches m q) w → IsTrue (is_before u w)
      increase p q u w l k least-u least-w =
          let s = Spells-some (suc p) p (omega arith) (omega arith) in
          let t = Spells-some (suc q) q (omega arith) (omega arith) in
          let below = Spells-ordered s.0 t.0 p q s.1 t.1 l (omega arith) in
          let es = IsLeastWord-unique (Reaches m p) (reverse s.0) u (spelled-least p s.0 s.1 (omega arith)) least-u in
          let et = IsLeastWord-unique (Reaches m q) (reverse t.0) w (spelled-least q t.0 t.1 (omega arith)) least-w in
          subst (λ x. IsTrue (is_before x w)) es (subst (λ y. IsTrue (is_before (reverse s.0) y)) et
          (before_at_reverses (reverse s.0) (reverse t.0) (subst (λ x. Below x (reverse (reverse t.0))) (sym (reverse-reverse s.0)) (subst (Below s.0) (sym (reverse-reverse t.0)) below))))
