-- Words that are cut at separators.
pub use Rattle.sequence.proofs.ForCallers.{cut_unique}
use Rattle.std.proofs.Common.{◌≡◌, ◌==◌, ◌<◌, ◌+◌, ℕ, suc, false, List, [], ◌∷◌, ◌++◌, None, Some, length, take, drop, not, cond, refl, sym, ap, subst, ◌∙◌}
use Rattle.std.proofs.Common.{inl, inr, arith, eqb-true, eq-eqb, true≢false, nat_lt, position, lt-ltb, one-add, add-one, length-drop, ◌-◌}
use Rattle.std.specs.List.{position_or_len}
use Rattle.std.proofs.lemmas.Bool.{cases_Bool, cases_lt}
use Rattle.std.proofs.lemmas.List.{take_all}
use Rattle.configuration_words.specs.private.Cuts.{Lacks, IsCut}

-- the word is cut at so many letters
abbrev IsCutAfter : ℕ → List ℕ → ℕ → Type 0
IsCutAfter separator word n = Lacks separator (take n word) × (n < length word → word ≡ take n word ++ separator ∷ drop (suc n) word)

cut_after : (separator : ℕ) (word : List ℕ) → IsCutAfter separator word (position_or_len (λ a. a == separator) word)
cut_after separator [] = (tt, λ h. absurd (omega arith))
cut_after separator (x ∷ word) =
    let n = position_or_len (λ a. a == separator) word in
    let rest = cut_after separator word in
    elim (cases_Bool (x == separator)) [
      | inl is ↦
          let e : 0 ≡ position_or_len (λ a. a == separator) (x ∷ word) = sym (ap (λ b. cond (not b) (1 + n) 0) is) in
          subst (IsCutAfter separator (x ∷ word)) e (tt, λ h. ap (λ y. y ∷ word) (eqb-true x separator is))
      | inr differs ↦
          let e : suc n ≡ position_or_len (λ a. a == separator) (x ∷ word) =
          sym (ap (λ b. cond (not b) (1 + n) 0) differs ∙ one-add n) in
          subst (IsCutAfter separator (x ∷ word)) e (
            (λ same. true≢false (sym (eq-eqb x separator same) ∙ differs), rest.0),
            λ h. ap (λ more. x ∷ more) (rest.1 (omega arith)),
          )
    ]

-- cut at the first separator, if there is one
pub cut_at_some : (separator : ℕ) (word : List ℕ) (n : ℕ) → position (λ a. a == separator) word ≡ Some n
    → (n < length word) × IsCut separator word (take n word) (Some (drop (suc n) word))
cut_at_some separator word n e =
    let m = position_or_len (λ a. a == separator) word in
    elim (cases_lt m (length word)) [
      | inl within ↦
          let same : m ≡ n = cc (e, ap (λ b. cond b (Some m) None) (lt-ltb m (length word) within)) in
          subst (λ k. (k < length word) × IsCut separator word (take k word) (Some (drop (suc k) word))) same
          (within, record { first = (cut_after separator word).0; joined = (cut_after separator word).1 within })
      | inr past ↦
          let none : nat_lt m (length word) ≡ false = grind (arith, past) in
          absurd (cc (e, ap (λ b. cond b (Some m) None) none))
    ]

-- as the slices behind it are written
pub cut_at_place : (separator : ℕ) (word : List ℕ) (n : ℕ) → position (λ a. a == separator) word ≡ Some n
    → IsCut separator word (take n word) (Some (take (length word - (n + 1)) (drop (n + 1) word)))
cut_at_place separator word n e =
    let whole : take (length word - (n + 1)) (drop (n + 1) word) ≡ drop (n + 1) word =
    take_all (length word - (n + 1)) (drop (n + 1) word) (omega (arith, length-drop (n + 1) word)) in
    let behind : drop (suc n) word ≡ drop (n + 1) word = ap (λ m. drop m word) (sym (add-one n)) in
    subst (λ rest. IsCut separator word (take n word) (Some rest)) (behind ∙ sym whole) (cut_at_some separator word n e).1

pub cut_at_none : (separator : ℕ) (word : List ℕ) → position (λ a. a == separator) word ≡ None → IsCut separator word word None
cut_at_none separator word e =
    let m = position_or_len (λ a. a == separator) word in
    elim (cases_lt m (length word)) [
      | inl within ↦ absurd (cc (e, ap (λ b. cond b (Some m) None) (lt-ltb m (length word) within)))
      | inr past ↦ record { first = subst (Lacks separator) (take_all m word past) (cut_after separator word).0; joined = refl }
    ]
