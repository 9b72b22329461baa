-- Items that have no fault: each has none with the items before it, and none is named as an earlier one.
use Rattle.std.proofs.Common.{◌≡◌, ℕ, true, false, List, [], ◌∷◌, ◌++◌, Option, None, Some, map, refl, ap, sym, ◌∙◌, arith}
use Rattle.std.specs.Prelude.{AllPairs, All}
use Rattle.std.specs.List.{list_any, AllByRecursion}
use Rattle.std.specs.Option.{option_or}
use Rattle.std.specs.Str.{bytes_eq}
use Rattle.std.proofs.lemmas.Slice.Eq.{bytes_eq-Decides}
use Rattle.std.proofs.lemmas.List.{map-append}
use Rattle.std.proofs.lemmas.List.Folds.{list_any-append}
use Rattle.std.proofs.lemmas.List.Elements.{All-cons, All-nil}
use Rattle.std.proofs.lemmas.List.Kept.{AllPairs-cons}
use Rattle.std.proofs.Math.Bool.{or-true}
use Rattle.protocol_model.specs.declared.fault.ModelFault.{ModelFault}
use Rattle.protocol_model.specs.Faults.{first_fault_of}

pub none_first : (o p : Option ModelFault) → option_or o p ≡ None → o ≡ None
none_first None p h = refl
none_first (Some x) p h = cc

pub none_second : (o p : Option ModelFault) → option_or o p ≡ None → p ≡ None
none_second None p h = h
none_second (Some x) p h = cc

-- an item has no fault with some items before it
pub record IsClean {X : Type 0} (fault : List X → X → Option ModelFault) (x : X) : Type 0 where
  pub before : List X
  pub none : fault before x ≡ None

pub each_clean : {X : Type 0} (fault : List X → X → Option ModelFault) (earlier xs : List X) →
    first_fault_of fault earlier xs ≡ None → AllByRecursion (IsClean fault) xs
each_clean fault earlier [] h = tt
each_clean fault earlier (x ∷ xs) h = (
  record { before = earlier; none = none_first (fault earlier x) (first_fault_of fault (earlier ++ x ∷ []) xs) h },
  each_clean fault (earlier ++ x ∷ []) xs (none_second (fault earlier x) (first_fault_of fault (earlier ++ x ∷ []) xs) h),
)

pub all_of_map : {X Y : Type 0} (P : X → Type 0) (Q : Y → Type 0) (v : X → Y) → ((x : X) → P x → Q (v x)) → (xs : List X) →
    AllByRecursion P xs → AllByRecursion Q (map v xs)
all_of_map P Q v f [] h = tt
all_of_map P Q v f (x ∷ xs) h = (f x h.0, all_of_map P Q v f xs h.1)

pub all_of_both : {X : Type 0} (P Q : X → Type 0) (xs : List X) →
    AllByRecursion P xs → AllByRecursion Q xs → AllByRecursion (λ x. P x × Q x) xs
all_of_both P Q [] h k = tt
all_of_both P Q (x ∷ xs) h k = ((h.0, k.0), all_of_both P Q xs h.1 k.1)

bytes_eq_refl : (k : List ℕ) → bytes_eq k k ≡ true
bytes_eq_refl k = (bytes_eq-Decides k k).1 refl

true_is_false : true ≡ false → ⊥
true_is_false h = cc

-- a name that is before the items is that of none of them
none_has : {X Y : Type 0} (key : X → List ℕ) (v : X → Y) (fault : List X → X → Option ModelFault) (R : Y → Type 0) (k : List ℕ) →
    ((earlier : List X) (x : X) → fault earlier x ≡ None → list_any (bytes_eq (key x)) (map key earlier) ≡ false) →
    ((x : X) (earlier : List X) → fault earlier x ≡ None → (k ≡ key x → ⊥) → R (v x)) →
    (earlier xs : List X) → list_any (bytes_eq k) (map key earlier) ≡ true → first_fault_of fault earlier xs ≡ None →
    All R (map v xs)
none_has key v fault R k fresh apart earlier [] there h = All-nil R
none_has key v fault R k fresh apart earlier (x ∷ xs) there h =
    let clean = none_first (fault earlier x) (first_fault_of fault (earlier ++ x ∷ []) xs) h in
    let rest = none_second (fault earlier x) (first_fault_of fault (earlier ++ x ∷ []) xs) h in
    let differs : k ≡ key x → ⊥ = λ e. true_is_false (sym there ∙ ap (λ n. list_any (bytes_eq n) (map key earlier)) e ∙ fresh earlier x clean) in
    let still : list_any (bytes_eq k) (map key (earlier ++ x ∷ [])) ≡ true =
    rw (map-append key earlier (x ∷ []), list_any-append (bytes_eq k) (map key earlier) (key x ∷ []), there) refl in
    All-cons R (v x) (map v xs) (apart x earlier clean differs)
    (none_has key v fault R k fresh apart (earlier ++ x ∷ []) xs still rest)

-- items without a fault are named apart
pub named_apart : {X Y : Type 0} (key : X → List ℕ) (v : X → Y) (fault : List X → X → Option ModelFault) (R : Y → Y → Type 0) →
    ((earlier : List X) (x : X) → fault earlier x ≡ None → list_any (bytes_eq (key x)) (map key earlier) ≡ false) →
    ((a b : X) (before later : List X) → fault before a ≡ None → fault later b ≡ None → (key a ≡ key b → ⊥) → R (v a) (v b)) →
    (earlier xs : List X) → first_fault_of fault earlier xs ≡ None → AllPairs R (map v xs)
named_apart key v fault R fresh apart earlier [] h = λ i j d below within. absurd (omega arith)
named_apart key v fault R fresh apart earlier (x ∷ xs) h =
    let clean = none_first (fault earlier x) (first_fault_of fault (earlier ++ x ∷ []) xs) h in
    let rest = none_second (fault earlier x) (first_fault_of fault (earlier ++ x ∷ []) xs) h in
    let there : list_any (bytes_eq (key x)) (map key (earlier ++ x ∷ [])) ≡ true =
    rw (map-append key earlier (x ∷ []), list_any-append (bytes_eq (key x)) (map key earlier) (key x ∷ []), bytes_eq_refl (key x))
    (or-true (list_any (bytes_eq (key x)) (map key earlier))) in
    AllPairs-cons R (v x) (map v xs)
    (none_has key v fault (R (v x)) (key x) fresh (λ y before none differs. apart x y earlier before clean none differs)
    (earlier ++ x ∷ []) xs there rest)
    (named_apart key v fault R fresh apart (earlier ++ x ∷ []) xs rest)
