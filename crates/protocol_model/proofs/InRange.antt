-- Numbers of known names are in range, and those of two known names differ where the names do.
use Rattle.std.proofs.Common.{◌≡◌, ℕ, zero, suc, ◌+◌, ◌<◌, ◌≤◌, Bool, true, false, List, [], ◌∷◌, Option, None, Some, map, length, refl, ap, sym, subst, ◌∙◌, arith, cond, not, ◌||◌}
use Rattle.std.specs.List.{range_with_len, AllByRecursion}
use Rattle.std.specs.Option.{option_map, option_map_or}
use Rattle.std.specs.Prelude.{slice_get, sum_by}
use Rattle.std.specs.Str.{bytes_eq}
use Rattle.std.proofs.lemmas.Slice.Eq.{bytes_eq-Decides}
use Rattle.std.proofs.lemmas.Option.{slice_get-map}
use Rattle.std.proofs.lemmas.List.Sums.{sum_by-cons}
use Rattle.forms.specs.declared.name.Name.{Name}
use Rattle.protocol_syntax.specs.declared.protocol.SectionText.{SectionText}
use Rattle.protocol_syntax.specs.declared.protocol.AtomText.{AtomText}
use Rattle.protocol_syntax.specs.declared.protocol.BaseText.{BaseText}
use Rattle.protocol_syntax.specs.declared.protocol.BaseText.TheVariants.{Letter, Set as SetText, Any}
use Rattle.protocol_model.specs.declared.fault.ModelFault.{ModelFault}
use Rattle.protocol_model.specs.declared.fault.ModelFault.TheVariants.{Unknown}
use Rattle.protocol_model.specs.System.{AllBelow, IsValidPattern, letter_count, letter_count_at, total_letters}
use Rattle.protocol_model.specs.Numbering.{number_of, base_numbers, atom_of, section_of, texts_of}
use Rattle.protocol_model.specs.Faults.{is_among, unknown, letters_fault, base_fault, first_fault_of}
use Rattle.protocol_model.proofs.Lists.{length_map}
use Rattle.protocol_model.proofs.Known.{number_below}
use Rattle.protocol_model.proofs.Distinct.{IsClean, each_clean, all_of_map}

pub true_of_none : (b : Bool) (f : ModelFault) → cond b None (Some f) ≡ None → b ≡ true
true_of_none true f h = refl
true_of_none false f h = cc

pub false_of_none : (b : Bool) (f : ModelFault) → cond b (Some f) None ≡ None → b ≡ false
false_of_none true f h = cc
false_of_none false f h = refl

pub known : (names : List (List ℕ)) (name : Name) → unknown names name ≡ None → is_among names name ≡ true
known names name h = true_of_none (is_among names name) (Unknown name) h

pub number_in : (names : List (List ℕ)) (name : Name) → unknown names name ≡ None → number_of names name < length names
number_in names name h = number_below (bytes_eq name.text) names (known names name h)

same_number : (ba bb la lb : Bool) (na nb : ℕ) (P : Type 0) → (ba ≡ true → bb ≡ true → P) → (la ≡ true → lb ≡ true → na ≡ nb → P) →
    (ba || la) ≡ true → (bb || lb) ≡ true → cond (not ba) (1 + na) 0 ≡ cond (not bb) (1 + nb) 0 → P
same_number true true la lb na nb P f g ha hb e = f refl refl
same_number true false la lb na nb P f g ha hb e = absurd (omega arith)
same_number false true la lb na nb P f g ha hb e = absurd (omega arith)
same_number false false la lb na nb P f g ha hb e = g ha hb (omega arith)

pub number_injective : (names : List (List ℕ)) (a b : Name) → is_among names a ≡ true → is_among names b ≡ true →
    number_of names a ≡ number_of names b → a.text ≡ b.text
number_injective [] a b ha hb e = cc
number_injective (n ∷ ns) a b ha hb e =
    same_number (bytes_eq a.text n) (bytes_eq b.text n) (is_among ns a) (is_among ns b) (number_of ns a) (number_of ns b) (a.text ≡ b.text)
    (λ x y. (bytes_eq-Decides a.text n).0 x ∙ sym ((bytes_eq-Decides b.text n).0 y))
    (number_injective ns a b) ha hb e

pub numbers_in : (letters : List (List ℕ)) (names : List Name) → letters_fault letters names ≡ None →
    AllBelow (length letters) (map (number_of letters) names)
numbers_in letters names h =
    all_of_map (IsClean (λ _. unknown letters)) (λ a. a < length letters) (number_of letters)
    (λ name clean. number_in letters name clean.none) names (each_clean (λ _. unknown letters) [] names h)

range_below : (a n m : ℕ) → a + n ≡ m → AllBelow m (range_with_len a n)
range_below a zero m e = tt
range_below a (suc n) m e = (omega arith, range_below (a + 1) n m (omega arith))

pub base_in : (letters : List (List ℕ)) (base : BaseText) → base_fault letters base ≡ None → AllBelow (length letters) (base_numbers letters base)
base_in letters (Letter name) h = numbers_in letters (name ∷ []) h
base_in letters (SetText names) h = numbers_in letters names h
base_in letters Any h = range_below 0 (length letters) (length letters) (omega arith)

pub pattern_valid : (letters : List (List ℕ)) (atoms : List AtomText) →
    first_fault_of (λ _ atom. base_fault letters atom.base) [] atoms ≡ None → length atoms ≤ 32 →
    IsValidPattern (length letters) (record { atoms = map (atom_of letters) atoms })
pattern_valid letters atoms h limit =
    record {
      in_range =
          all_of_map (IsClean (λ _ atom. base_fault letters atom.base)) (λ atom. AllBelow (length letters) atom.letters) (atom_of letters)
          (λ atom clean. base_in letters atom.base clean.none) atoms (each_clean (λ _ atom. base_fault letters atom.base) [] atoms h);
      limit = rw (length_map (atom_of letters) atoms) limit;
    }

count_of : (found : Option SectionText) →
    elim (option_map section_of found) [ None ↦ 0 | Some section ↦ letter_count section ]
    ≡ length (option_map_or (λ section. texts_of section.letters) found [])
count_of None = refl
count_of (Some section) = refl

pub count_at : (texts : List SectionText) (k : ℕ) →
    letter_count_at (map section_of texts) k ≡ length (option_map_or (λ section. texts_of section.letters) (slice_get texts k) [])
count_at texts k =
    subst (λ found. elim found [ None ↦ 0 | Some section ↦ letter_count section ]
    ≡ length (option_map_or (λ section. texts_of section.letters) (slice_get texts k) []))
    (sym (slice_get-map section_of texts k)) (count_of (slice_get texts k))

pub total_is : (texts : List SectionText) → total_letters (map section_of texts) ≡ sum_by (λ section. length section.letters) texts
total_is [] = refl
total_is (section ∷ texts) =
    sum_by-cons letter_count (section_of section) (map section_of texts)
    ∙ ap (λ n. n + total_letters (map section_of texts)) (length_map (λ name. name.text) section.letters)
    ∙ ap (λ n. length section.letters + n) (total_is texts)
    ∙ sym (sum_by-cons (λ section. length section.letters) section texts)

-- no addend is more than a bound of the sum
pub each_at_most : {X : Type 0} (f : X → ℕ) (n : ℕ) (xs : List X) → sum_by f xs ≤ n → AllByRecursion (λ x. f x ≤ n) xs
each_at_most f n [] h = tt
each_at_most f n (x ∷ xs) h =
    let sum : f x + sum_by f xs ≤ n = rw (sum_by-cons f x xs) at h in
    (omega (arith, sum), each_at_most f n xs (omega (arith, sum)))
