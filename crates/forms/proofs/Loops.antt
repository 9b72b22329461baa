-- Loops that read one item after the other.
use Rattle.std.proofs.Common.{◌≡◌, ℕ, zero, suc, ◌-◌, Bool, true, false, ltb, ◌&&◌, List, [], ◌∷◌, ◌++◌, length, Ok, Err, refl, sym, ap, ◌∙◌, arith}
use Rattle.std.proofs.lemmas.Bool.{ltb-true, ltb-false}
use Rattle.std.proofs.lemmas.List.{length-append}
use Rattle.forms.specs.declared.fault.SyntaxFault.{SyntaxFault}
use Rattle.forms.specs.declared.fault.SyntaxFault.TheVariants as Faults
use Rattle.forms.specs.Symbol.{Source}
use Rattle.forms.specs.Reading.{Answer, Reader, follow, read_many, read_all, Fails}

module _ {A : Type 0} (s : Source) (t : List A → ℕ → Bool) (x : List A → Reader A) where
  -- reading on from here, after the items before, answers the whole
  abbrev pub Onward : List A → ℕ → Answer (List A) → Type 0
  Onward before at whole = read_many (length s.tokens - length before) t x before at ≡ whole

  less_none : (n : ℕ) → n - 0 ≡ n
  less_none n = omega arith

  pub onward_start : (items : List A) (at : ℕ) → items ≡ [] → Onward items at (read_all s t x at)
  unfolding read_all
  onward_start items at e = rw (e, less_none (length s.tokens)) refl

  turn : (n : ℕ) (before : List A) (at : ℕ) → t before at ≡ true
      → read_many (suc n) t x before at ≡ follow (x before at) (λ a j. read_many n t x (before ++ a ∷ []) j)
  unfolding read_many
  turn n before at h = rw h refl

  -- another item is read
  module _ (before : List A) (at : ℕ) (whole : Answer (List A)) (on : Onward before at whole)
      (more : (ltb (length before) (length s.tokens) && t before at) ≡ true) where
    fuel : (n : ℕ) × ((length s.tokens - length before ≡ suc n) × (t before at ≡ true))
    fuel = by_test (ltb (length before) (length s.tokens)) refl more
      where
        by_test : (b : Bool) → ltb (length before) (length s.tokens) ≡ b → (b && t before at) ≡ true
            → (n : ℕ) × ((length s.tokens - length before ≡ suc n) × (t before at ≡ true))
        by_test true e h = (length s.tokens - length before - 1, (omega (arith, ltb-true (length before) (length s.tokens) e), h))
        by_test false e h = absurd (let g : false ≡ true = h in cc)

    pub onward_next : (a : A) (j : ℕ) → x before at ≡ Ok (a, j) → (items : List A) → items ≡ before ++ a ∷ [] → Onward items j whole
    onward_next a j o items e =
        let n = fuel in
        let left : length s.tokens - length (before ++ a ∷ []) ≡ n.0 = omega (arith, n.1.0, length-append before (a ∷ [])) in
        rw (e, left)
        (sym (ap (λ (z : Answer A). follow z (λ c k. read_many n.0 t x (before ++ c ∷ []) k)) o) ∙ sym (turn n.0 before at n.1.1)
        ∙ ap (λ (m : ℕ). read_many m t x before at) (sym n.1.0) ∙ on)

    fails_by : (e : SyntaxFault) → x before at ≡ Err e → whole ≡ Err e
    fails_by e o =
        let n = fuel in
        sym on ∙ ap (λ (m : ℕ). read_many m t x before at) n.1.0 ∙ turn n.0 before at n.1.1
        ∙ ap (λ (z : Answer A). follow z (λ c k. read_many n.0 t x (before ++ c ∷ []) k)) o

    pub onward_fails : (e : SyntaxFault) → Fails e (x before at) → Fails e whole
    onward_fails Faults.Memory f = tt
    onward_fails (Faults.BadByte p) f = fails_by _ f
    onward_fails (Faults.Unexpected p) f = fails_by _ f
    onward_fails (Faults.TooMany v p) f = fails_by _ f

  ends_by : (n : ℕ) (before : List A) (at : ℕ) → t before at ≡ false → read_many n t x before at ≡ Ok (before, at)
  unfolding read_many
  ends_by zero before at h = refl
  ends_by (suc n) before at h = rw h refl

  none_left : (n : ℕ) (before : List A) (at : ℕ) → n ≡ 0 → read_many n t x before at ≡ Ok (before, at)
  unfolding read_many
  none_left n before at e = rw e refl

  pub onward_ends : (before : List A) (at : ℕ) (whole : Answer (List A)) → Onward before at whole
      → (ltb (length before) (length s.tokens) && t before at) ≡ false → whole ≡ Ok (before, at)
  onward_ends before at whole on h = sym on ∙ by_test (ltb (length before) (length s.tokens)) refl h
    where
      by_test : (b : Bool) → ltb (length before) (length s.tokens) ≡ b → (b && t before at) ≡ false
          → read_many (length s.tokens - length before) t x before at ≡ Ok (before, at)
      by_test true e h = ends_by (length s.tokens - length before) before at h
      by_test false e h = none_left (length s.tokens - length before) before at (omega (arith, ltb-false (length before) (length s.tokens) e))
