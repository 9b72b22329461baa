-- Letters by their names.
use Rattle.std.proofs.Common.{◌≡◌, ◌<◌, ℕ, zero, suc, Bool, true, false, List, [], ◌∷◌, None, Some, cond, length, position, get_or, refl, sym, ap, subst, ◌∙◌, inl, inr, arith}
use Rattle.std.proofs.Common.{nat_lt, lt-ltb, true≢false}
use Rattle.std.specs.List.{position_or_len, AllByRecursion}
use Rattle.std.specs.Str.{bytes_eq}
use Rattle.std.proofs.lemmas.Bool.{cases_Bool, cases_order}
use Rattle.std.proofs.lemmas.List.Sums.{position_or_len_is}
use Rattle.std.proofs.lemmas.Option.{unwrap_or-slice_get}
use Rattle.std.proofs.lemmas.Slice.Eq.{bytes_eq-Decides}
use Rattle.protocol_model.specs.declared.system.Section.{Section}
use Rattle.protocol_model.specs.Names.{IsName}
use Rattle.protocol_model.specs.System.{letter_count, IsValidSection}
use Rattle.configuration_words.specs.Texts.{letter_name}

-- what holds of either answer of a test, by what it means
tested : (x y : List ℕ) (G : Bool → Type 0) → (x ≡ y → G true) → ((x ≡ y → ⊥) → G false) → G (bytes_eq x y)
tested x y G holds fails = elim (cases_Bool (bytes_eq x y)) [
  | inl t ↦ subst G (sym t) (holds ((bytes_eq-Decides x y).0 t))
  | inr f ↦ subst G (sym f) (fails (λ e. true≢false (sym ((bytes_eq-Decides x y).1 e) ∙ f)))
]

each_at : (P : List ℕ → Type 0) (xs : List (List ℕ)) (a : ℕ) (d : List ℕ) → AllByRecursion P xs → a < length xs → P (get_or xs a d)
each_at P [] a d each h = absurd (omega arith)
each_at P (x ∷ xs) zero d each h = each.0
each_at P (x ∷ xs) (suc a) d each h = each_at P xs a d each.1 (omega arith)

module _ (section : Section) (valid : IsValidSection section) where
  pub letter_is_name : (a : ℕ) → a < letter_count section → IsName (letter_name section a)
  letter_is_name a h =
      subst IsName (sym (unwrap_or-slice_get section.letters a [])) (each_at IsName section.letters a [] valid.letters_named h)

  apart : (a b : ℕ) → a < b → b < letter_count section → letter_name section a ≡ letter_name section b → ⊥
  apart a b h within e =
      valid.distinct a b [] h within
      (sym (unwrap_or-slice_get section.letters a []) ∙ e ∙ unwrap_or-slice_get section.letters b [])

  -- no two letters have one name
  pub same_letter : (a b : ℕ) → a < letter_count section → b < letter_count section → letter_name section a ≡ letter_name section b → a ≡ b
  same_letter a b ha hb e = elim (cases_order a b) [
    | inl same ↦ same
    | inr o ↦ elim o [ inl h ↦ absurd (apart a b h hb e) | inr h ↦ absurd (apart b a h ha (sym e)) ]
  ]

  -- the number of a letter's name
  pub number_of_name : (a : ℕ) → a < letter_count section → position (bytes_eq (letter_name section a)) section.letters ≡ Some a
  number_of_name a h =
      let name = letter_name section a in
      let p = bytes_eq name in
      let at : position_or_len p section.letters ≡ a =
      position_or_len_is p section.letters a [] (omega (arith, h))
      (λ k before. tested name (get_or section.letters k []) (λ b. b ≡ false)
      (λ e. absurd (apart k a before h (unwrap_or-slice_get section.letters k [] ∙ sym e))) (λ _. refl))
      (λ _. (bytes_eq-Decides name (get_or section.letters a [])).1 (unwrap_or-slice_get section.letters a [])) in
      subst (λ n. cond (nat_lt n (length section.letters)) (Some n) None ≡ Some a) (sym at)
      (ap (λ b. cond b (Some a) None) (lt-ltb a (length section.letters) h))
