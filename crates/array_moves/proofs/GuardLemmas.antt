-- Lemmas on guards and their flags: what the letters on both sides of the moving position meet.
use Rattle.std.proofs.Common.{◌≡◌, ℕ, zero, suc, ◌<◌, Bool, true, false, not, ◌&&◌, ◌||◌, List, [], ◌∷◌, ◌++◌, slice_get, Option, Some}
use Rattle.std.proofs.Common.{None, refl, sym, ap, ◌∙◌, subst, inl, inr, arith, true≢false, if◌then◌else◌, fold, get_or}
use Rattle.std.specs.List.{list_all, list_any}
use Rattle.std.proofs.lemmas.List.Folds.{list_all-append, list_any-append}
use Rattle.std.proofs.lemmas.List.Elements.{All-contains}
use Rattle.std.proofs.lemmas.List.Sums.{AllPass-from_list_all, list_all-from_AllPass}
use Rattle.std.proofs.lemmas.Option.{same_Some, none-some, slice_get-get_or}
use Rattle.std.proofs.lemmas.Bool.{and_parts, and_from, or_left, or_right}
use Rattle.transducers.proofs.ForCallers.{Contains-from_place, slice_get-cases}
use Rattle.protocol_syntax.specs.declared.protocol.Region.{Region}
use Rattle.protocol_syntax.specs.declared.protocol.Region.TheVariants.{Left, Right, Others}
use Rattle.protocol_model.specs.System.{Guard}
use Rattle.protocol_model.specs.Moves.{is_in, region_letters, guard_holds}
use Rattle.array_moves.specs.private.Flags.{flag, four_flags, no_flags, union_of, covers_one, covers, permits, meets, meets_at, effect_of}
use Rattle.array_moves.specs.private.Flags.{asks_at, widened}

-- a test of all elements, by their places
pub all_at : {X : Type 0} (p : X → Bool) (xs : List X) (k : ℕ) (x : X) → list_all p xs ≡ true → slice_get xs k ≡ Some x → p x ≡ true
all_at p xs k x h e = All-contains (λ y. p y ≡ true) xs x (AllPass-from_list_all p xs h) (Contains-from_place xs k x e)

pub all_from_each : {X : Type 0} (p : X → Bool) (xs : List X) → ((k : ℕ) (x : X) → slice_get xs k ≡ Some x → p x ≡ true)
    → list_all p xs ≡ true
all_from_each p xs each = list_all-from_AllPass p xs (λ k d h. each k (get_or xs k d) (slice_get-get_or xs k d h))

all_of_true : {X : Type 0} (xs : List X) → list_all (λ x. true) xs ≡ true
all_of_true [] = refl
all_of_true (x ∷ xs) = all_of_true xs

any_of_false : {X : Type 0} (xs : List X) → list_any (λ x. false) xs ≡ false
any_of_false [] = refl
any_of_false (x ∷ xs) = any_of_false xs

-- the letters of lists on both sides, one after the other
all_joined : (p : ℕ → Bool) (s t : List ℕ) → list_all p s ≡ true → list_all p t ≡ true → list_all p (s ++ t) ≡ true
all_joined p s t h g = list_all-append p s t ∙ and_from (list_all p s) (list_all p t) h g

all_parts : (p : ℕ → Bool) (s t : List ℕ) → list_all p (s ++ t) ≡ true → (list_all p s ≡ true) × (list_all p t ≡ true)
all_parts p s t h = and_parts (list_all p s) (list_all p t) (sym (list_all-append p s t) ∙ h)

-- a guard that asks for all letters holds exactly where it permits the letters on both sides
all_holds : (region : Region) (letters before after : List ℕ)
    → list_all (permits (record { all = true; region = region; letters = letters }) false) before ≡ true
    → list_all (permits (record { all = true; region = region; letters = letters }) true) after ≡ true
    → list_all (is_in letters) (region_letters region before after) ≡ true
all_holds Left letters before after h g = h
all_holds Right letters before after h g = g
all_holds Others letters before after h g = all_joined (is_in letters) before after h g

all_permits : (region : Region) (letters before after : List ℕ) → list_all (is_in letters) (region_letters region before after) ≡ true
    → (list_all (permits (record { all = true; region = region; letters = letters }) false) before ≡ true)
    × (list_all (permits (record { all = true; region = region; letters = letters }) true) after ≡ true)
all_permits Left letters before after h = (h, all_of_true after)
all_permits Right letters before after h = (all_of_true before, h)
all_permits Others letters before after h = all_parts (is_in letters) before after h

-- a guard that asks for some letter holds exactly where a letter on one of the sides meets it
some_met : (region : Region) (letters before after : List ℕ)
    → list_any (is_in letters) (region_letters region before after)
    ≡ (list_any (meets (record { all = false; region = region; letters = letters }) false) before || list_any
    (meets (record { all = false; region = region; letters = letters }) true) after)
some_met Left letters before after = or_false (list_any (is_in letters) before) (list_any (λ x. false) after) (any_of_false after)
  where
    or_false : (a b : Bool) → b ≡ false → a ≡ (a || b)
    or_false true b h = refl
    or_false false b h = sym h
some_met Right letters before after = ap (λ a. a || list_any (is_in letters) after) (sym (any_of_false before))
some_met Others letters before after = list_any-append (is_in letters) before after

-- what a guard says of both sides
pub record IsSatisfied (guard : Guard) (before after : List ℕ) : Type 0 where
  pub permitted_before : list_all (permits guard false) before ≡ true
  pub permitted_after : list_all (permits guard true) after ≡ true
  pub met : not guard.all ≡ true → (list_any (meets guard false) before || list_any (meets guard true) after) ≡ true

pub satisfied_from_holds : (all : Bool) (region : Region) (letters before after : List ℕ)
    → guard_holds before after (record { all = all; region = region; letters = letters }) ≡ true
    → IsSatisfied (record { all = all; region = region; letters = letters }) before after
satisfied_from_holds true region letters before after h =
    let p = all_permits region letters before after h in
    record { permitted_before = p.0; permitted_after = p.1; met = λ e. absurd (true≢false (sym e)) }
satisfied_from_holds false region letters before after h =
    record {
      permitted_before = all_of_true before;
      permitted_after = all_of_true after;
      met = λ e. sym (some_met region letters before after) ∙ h;
    }

pub holds_from_satisfied : (all : Bool) (region : Region) (letters before after : List ℕ)
    → IsSatisfied (record { all = all; region = region; letters = letters }) before after
    → guard_holds before after (record { all = all; region = region; letters = letters }) ≡ true
holds_from_satisfied true region letters before after s = all_holds region letters before after s.permitted_before s.permitted_after
holds_from_satisfied false region letters before after s = some_met region letters before after ∙ s.met refl

-- the flags of a function of the number, and of a union
pub flag-four : (f : ℕ → Bool) (k : ℕ) → k < 4 → flag (four_flags f) k ≡ f k
flag-four f zero h = refl
flag-four f (suc zero) h = refl
flag-four f (suc (suc zero)) h = refl
flag-four f (suc (suc (suc zero))) h = refl
flag-four f (suc (suc (suc (suc k)))) h = absurd (omega arith)

pub flag-none : (k : ℕ) → flag no_flags k ≡ false
flag-none zero = refl
flag-none (suc zero) = refl
flag-none (suc (suc zero)) = refl
flag-none (suc (suc (suc zero))) = refl
flag-none (suc (suc (suc (suc k)))) = refl

covers_one-true : (a b : Bool) → covers_one a b ≡ true → b ≡ true → a ≡ true
covers_one-true a true h e = h
covers_one-true a false h e = absurd (true≢false (sym e))

covers_one-from : (a b : Bool) → (b ≡ true → a ≡ true) → covers_one a b ≡ true
covers_one-from a true h = h refl
covers_one-from a false h = refl

pub flag_from_covers : (a b : List Bool) → covers a b ≡ true → (k : ℕ) → k < 4 → flag b k ≡ true → flag a k ≡ true
flag_from_covers a b h k lt e = at k lt e
  where
    first : (covers_one (flag a 0) (flag b 0) ≡ true)
        × ((covers_one (flag a 1) (flag b 1) && (covers_one (flag a 2) (flag b 2) && covers_one (flag a 3) (flag b 3))) ≡ true)
    first = and_parts (covers_one (flag a 0) (flag b 0))
        (covers_one (flag a 1) (flag b 1) && (covers_one (flag a 2) (flag b 2) && covers_one (flag a 3) (flag b 3))) h

    second : (covers_one (flag a 1) (flag b 1) ≡ true) × ((covers_one (flag a 2) (flag b 2) && covers_one (flag a 3) (flag b 3)) ≡ true)
    second = and_parts (covers_one (flag a 1) (flag b 1)) (covers_one (flag a 2) (flag b 2) && covers_one (flag a 3) (flag b 3)) first.1

    third : (covers_one (flag a 2) (flag b 2) ≡ true) × (covers_one (flag a 3) (flag b 3) ≡ true)
    third = and_parts (covers_one (flag a 2) (flag b 2)) (covers_one (flag a 3) (flag b 3)) second.1

    at : (k : ℕ) → k < 4 → flag b k ≡ true → flag a k ≡ true
    at zero lt e = covers_one-true (flag a 0) (flag b 0) first.0 e
    at (suc zero) lt e = covers_one-true (flag a 1) (flag b 1) second.0 e
    at (suc (suc zero)) lt e = covers_one-true (flag a 2) (flag b 2) third.0 e
    at (suc (suc (suc zero))) lt e = covers_one-true (flag a 3) (flag b 3) third.1 e
    at (suc (suc (suc (suc k)))) lt e = absurd (omega arith)

pub covers_from_flags : (a b : List Bool) → ((k : ℕ) → k < 4 → flag b k ≡ true → flag a k ≡ true) → covers a b ≡ true
covers_from_flags a b each =
    and_from (covers_one (flag a 0) (flag b 0)) _ (covers_one-from (flag a 0) (flag b 0) (each 0 (omega arith)))
    (and_from (covers_one (flag a 1) (flag b 1)) _ (covers_one-from (flag a 1) (flag b 1) (each 1 (omega arith)))
    (and_from (covers_one (flag a 2) (flag b 2)) (covers_one (flag a 3) (flag b 3))
    (covers_one-from (flag a 2) (flag b 2) (each 2 (omega arith)))
    (covers_one-from (flag a 3) (flag b 3) (each 3 (omega arith)))))

-- what an effect says: every guard permits the letter, and the flags are those of the guards that it meets
pub permitted_from_effect : (guards : List Guard) (behind : Bool) (x : ℕ) (met : List Bool) → effect_of guards behind x ≡ Some met
    → (list_all (λ guard. permits guard behind x) guards ≡ true) × (met ≡ four_flags (meets_at guards behind x))
permitted_from_effect guards behind x met e = by (list_all (λ guard. permits guard behind x) guards) refl e
  where
    by : (b : Bool) → list_all (λ guard. permits guard behind x) guards ≡ b
        → (if b then Some (four_flags (meets_at guards behind x)) else None) ≡ Some met
        → (list_all (λ guard. permits guard behind x) guards ≡ true) × (met ≡ four_flags (meets_at guards behind x))
    by true is e = (is, sym (same_Some _ _ e))
    by false is e = absurd (none-some met e)

pub effect_from_permitted : (guards : List Guard) (behind : Bool) (x : ℕ) → list_all (λ guard. permits guard behind x) guards ≡ true
    → effect_of guards behind x ≡ Some (four_flags (meets_at guards behind x))
effect_from_permitted guards behind x h = ap (λ b. if b then Some (four_flags (meets_at guards behind x)) else None) h

pub meets_at-there : (guards : List Guard) (behind : Bool) (x k : ℕ) (guard : Guard) → slice_get guards k ≡ Some guard
    → meets_at guards behind x k ≡ meets guard behind x
meets_at-there guards behind x k guard e = rw (e, meets_at)

pub asks_at-there : (guards : List Guard) (k : ℕ) (guard : Guard) → slice_get guards k ≡ Some guard → asks_at guards k ≡ not guard.all
asks_at-there guards k guard e = rw (e, asks_at)

pub guard_from_asks : (guards : List Guard) (k : ℕ) → asks_at guards k ≡ true → (guard : Guard) × (slice_get guards k ≡ Some guard)
    × (not guard.all ≡ true)
guard_from_asks guards k h =
    elim (slice_get-cases guards k) [
      | inl found ↦ (found.0, found.1, sym (asks_at-there guards k found.0 found.1) ∙ h)
      | inr none ↦ (let none' : asks_at guards k ≡ false = rw (none, asks_at) in absurd (true≢false (sym h ∙ none')))
    ]

-- the flags that the effects of a side may set
flag-fold : (effects : List (Option (List Bool))) (flags : List Bool) (k : ℕ) → k < 4 → flag flags k ≡ true
    → flag (fold widened flags effects) k ≡ true
flag-fold [] flags k lt h = h
flag-fold (None ∷ effects) flags k lt h = flag-fold effects flags k lt h
flag-fold (Some met ∷ effects) flags k lt h = flag-fold effects (union_of flags met) k lt
    (flag-four (λ j. flag flags j || flag met j) k lt ∙ or_left (flag flags k) (flag met k) h)

pub flag-reach : (effects : List (Option (List Bool))) (flags met : List Bool) (i k : ℕ) → k < 4 → slice_get effects i ≡ Some (Some met)
    → flag met k ≡ true → flag (fold widened flags effects) k ≡ true
flag-reach [] flags met i k lt e h = absurd (none-some (Some met) e)
flag-reach (effect ∷ effects) flags met zero k lt e h =
    subst (λ x. flag (fold widened (widened flags x) effects) k ≡ true) (sym (same_Some _ _ e))
    (flag-fold effects (union_of flags met) k lt (flag-four (λ j. flag flags j || flag met j) k lt
    ∙ or_right (flag flags k) (flag met k) h))
flag-reach (effect ∷ effects) flags met (suc i) k lt e h = flag-reach effects (widened flags effect) met i k lt e h
