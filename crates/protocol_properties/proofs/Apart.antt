-- Items that are named apart have no fault, where each has none but an earlier item of its name.
use Rattle.std.proofs.Common.{◌≡◌, ◌≢◌, ℕ, suc, false, List, [], ◌∷◌, ◌++◌, Option, None, Some, map, cond, refl, ap, sym, inl, inr, arith}
use Rattle.std.specs.Prelude.{⊤, AllPairs}
use Rattle.std.specs.List.{list_any, AllByRecursion}
use Rattle.std.specs.Str.{bytes_eq}
use Rattle.std.proofs.lemmas.Bool.{cases_Bool}
use Rattle.std.proofs.lemmas.Slice.Eq.{bytes_eq-Decides}
use Rattle.std.proofs.lemmas.List.{map-append}
use Rattle.std.proofs.lemmas.List.Folds.{list_any-append}
use Rattle.std.proofs.lemmas.List.Elements.{recursion_from_All}
use Rattle.forms.specs.declared.name.Name.{Name}
use Rattle.protocol_syntax.specs.declared.protocol.SectionText.{SectionText}
use Rattle.protocol_model.specs.declared.fault.ModelFault.{ModelFault}
use Rattle.protocol_model.specs.declared.fault.ModelFault.TheVariants.{Duplicate}
use Rattle.protocol_model.specs.declared.system.Section.{Section}
use Rattle.protocol_model.specs.System.{IsValidSection}
use Rattle.protocol_model.specs.Numbering.{texts_of}
use Rattle.protocol_model.specs.Faults.{duplicate, section_fault, first_fault_of}
use Rattle.protocol_model.proofs.ForCallers.{or_none}
use Rattle.protocol_properties.specs.Sections.{name_of, names_of, section_text}

with_later : {X : Type 0} (R : X → X → Type 0) (x : X) (xs : List X) → AllPairs R (x ∷ xs) → AllByRecursion (R x) xs
with_later R x xs h = recursion_from_All (R x) xs (λ k d within. h 0 (suc k) d (omega arith) (omega (arith, within)))

later_pairs : {X : Type 0} (R : X → X → Type 0) (x : X) (xs : List X) → AllPairs R (x ∷ xs) → AllPairs R xs
later_pairs R x xs h = λ i j d below within. h (suc i) (suc j) d (omega (arith, below)) (omega (arith, within))

-- no earlier item has the name
abbrev IsFresh : {X : Type 0} → (X → List ℕ) → List X → List ℕ → Type 0
IsFresh key earlier name = list_any (bytes_eq name) (map key earlier) ≡ false

fresh_more : {X : Type 0} (key : X → List ℕ) (earlier : List X) (x : X) (name : List ℕ) → IsFresh key earlier name → (name ≡ key x → ⊥) →
    IsFresh key (earlier ++ x ∷ []) name
fresh_more key earlier x name h differs =
    elim (cases_Bool (bytes_eq name (key x))) [
      | inl t ↦ absurd (differs ((bytes_eq-Decides name (key x)).0 t))
      | inr f ↦ rw (map-append key earlier (x ∷ []), list_any-append (bytes_eq name) (map key earlier) (key x ∷ []), h, f) refl
    ]

fresh_after : {X Y : Type 0} (key : X → List ℕ) (v : Y → X) (R : Y → Y → Type 0) → ((a b : Y) → R a b → key (v b) ≡ key (v a) → ⊥) →
    (earlier : List X) (y : Y) (ys : List Y) → AllByRecursion (R y) ys → AllByRecursion (λ z. IsFresh key earlier (key (v z))) ys →
    AllByRecursion (λ z. IsFresh key (earlier ++ v y ∷ []) (key (v z))) ys
fresh_after key v R apart earlier y [] r f = tt
fresh_after key v R apart earlier y (z ∷ zs) r f = (
  fresh_more key earlier (v y) (key (v z)) f.0 (apart y z r.0),
  fresh_after key v R apart earlier y zs r.1 f.1,
)

clean_apart : {X Y : Type 0} (key : X → List ℕ) (v : Y → X) (fault : List X → X → Option ModelFault) (P : Y → Type 0) (R : Y → Y → Type 0) →
    ((earlier : List X) (y : Y) → P y → IsFresh key earlier (key (v y)) → fault earlier (v y) ≡ None) →
    ((a b : Y) → R a b → key (v b) ≡ key (v a) → ⊥) → (earlier : List X) (ys : List Y) → AllByRecursion P ys → AllPairs R ys →
    AllByRecursion (λ y. IsFresh key earlier (key (v y))) ys → first_fault_of fault earlier (map v ys) ≡ None
clean_apart key v fault P R clean apart earlier [] p r f = refl
clean_apart key v fault P R clean apart earlier (y ∷ ys) p r f =
    or_none (fault earlier (v y)) (first_fault_of fault (earlier ++ v y ∷ []) (map v ys)) (clean earlier y p.0 f.0)
    (clean_apart key v fault P R clean apart (earlier ++ v y ∷ []) ys p.1 (later_pairs R y ys r)
    (fresh_after key v R apart earlier y ys (with_later R y ys r) f.1))

letters_clean : (letters : List (List ℕ)) → AllPairs (λ a b. a ≢ b) letters →
    first_fault_of (λ before. duplicate (texts_of before)) [] (names_of letters) ≡ None
letters_clean letters pairs =
    clean_apart (λ name. name.text) name_of (λ before. duplicate (texts_of before)) (λ _. ⊤) (λ a b. a ≢ b)
    (λ earlier y p fresh. ap (λ b. cond b (Some (Duplicate (name_of y))) None) fresh) (λ a b differs e. differs (sym e)) [] letters
    (recursion_from_All (λ _. ⊤) letters (λ _ _ _. tt)) pairs (recursion_from_All (λ y. IsFresh {X = Name} (λ name. name.text) [] y) letters (λ _ _ _. refl))

pub sections_clean : (sections : List Section) → AllByRecursion IsValidSection sections → AllPairs (λ a b. a.name ≢ b.name) sections →
    first_fault_of section_fault [] (map section_text sections) ≡ None
sections_clean sections valid pairs =
    clean_apart (λ section. section.name.text) section_text section_fault IsValidSection (λ a b. a.name ≢ b.name)
    (λ earlier section is fresh. or_none (duplicate (map (λ before. before.name.text) earlier) (name_of section.name)) _
    (ap (λ b. cond b (Some (Duplicate (name_of section.name))) None) fresh) (letters_clean section.letters is.distinct))
    (λ a b differs e. differs (sym e)) [] sections valid pairs
    (recursion_from_All (λ (section : Section). IsFresh {X = SectionText} (λ text. text.name.text) [] section.name) sections (λ _ _ _. refl))
