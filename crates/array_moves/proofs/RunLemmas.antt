-- Lemmas on reading lists in control states: what the letters before and behind the moving position do.
use Rattle.std.proofs.Common.{◌≡◌, ℕ, ◌<◌, ◌≤◌, Bool, true, false, ◌&&◌, ◌||◌, List, [], ◌∷◌, map, length, slice_get}
use Rattle.std.proofs.Common.{Option, Some, refl, sym, ap, ◌∙◌, inl, inr, arith, ◌⊎◌, true≢false, if◌then◌else◌, zero-add, ◌==◌}
use Rattle.std.specs.List.{list_all, list_any, range_with_len, AllByRecursion}
use Rattle.std.proofs.lemmas.List.FromFn.{length-range_with_len, get_or-range_with_len}
use Rattle.std.proofs.lemmas.Option.{slice_get_within, slice_get-get_or}
use Rattle.std.proofs.lemmas.Bool.{and_from, or_cases}
use Rattle.transducers.proofs.ForCallers.{slice_get-map_image}
use Rattle.protocol_model.specs.System.{Guard, AllBelow}
use Rattle.protocol_model.specs.Moves.{table_value, guard_holds}
use Rattle.array_moves.specs.private.Flags.{flag, four_flags, no_flags, union_of, covers, permits, meets, meets_at, effect_of, asks_at}
use Rattle.array_moves.specs.private.Flags.{required_of, reach_of}
use Rattle.array_moves.specs.private.ControlStates.{listed}
use Rattle.array_moves.proofs.GuardLemmas.{all_at, all_from_each, IsSatisfied}
use Rattle.array_moves.proofs.GuardLemmas.{satisfied_from_holds, holds_from_satisfied, flag-four, flag-none, flag_from_covers}
use Rattle.array_moves.proofs.GuardLemmas.{covers_from_flags, permitted_from_effect, effect_from_permitted, meets_at-there, asks_at-there}
use Rattle.array_moves.proofs.GuardLemmas.{guard_from_asks, flag-reach}

or_with_false : (a : Bool) → a ≡ (a || false)
or_with_false true = refl
or_with_false false = refl

or_regrouped : (a b c : Bool) → ((a || b) || c) ≡ (a || (b || c))
or_regrouped true b c = refl
or_regrouped false b c = refl

-- the letters of a list are allowed on that side of the moving position, and change the flags to others
abbrev pub ReadsLetters : List Guard → ℕ → Bool → List Bool → List ℕ → List Bool → Type 0
ReadsLetters guards count behind met [] last = met ≡ last
ReadsLetters guards count behind met (x ∷ s) last = (e : List Bool) × (x < count) × (effect_of guards behind x ≡ Some e)
    × ReadsLetters guards count behind (union_of met e) s last

-- a number is at its place in the range
pub slice_get-range : (count x : ℕ) → x < count → slice_get (range_with_len 0 count) x ≡ Some x
slice_get-range count x h =
    let lt : x < length (range_with_len 0 count) = omega (arith, length-range_with_len 0 count) in
    slice_get-get_or (range_with_len 0 count) x 0 lt ∙ ap Some (get_or-range_with_len 0 count x 0 h ∙ zero-add x)

module _ (guards : List Guard) (count : ℕ) (behind : Bool) where
  -- the flags after a list, one by one
  pub flag-ReadsLetters : (s : List ℕ) (met last : List Bool) (k : ℕ) → k < 4 → ReadsLetters guards count behind met s last
      → flag last k ≡ (flag met k || list_any (λ x. meets_at guards behind x k) s)
  flag-ReadsLetters [] met last k lt h = ap (λ f. flag f k) (sym h) ∙ or_with_false (flag met k)
  flag-ReadsLetters (x ∷ s) met last k lt h =
      let e = permitted_from_effect guards behind x h.0 h.2 in
      let one : flag h.0 k ≡ meets_at guards behind x k = ap (λ f. flag f k) e.1 ∙ flag-four (meets_at guards behind x) k lt in
      flag-ReadsLetters s (union_of met h.0) last k lt h.3
      ∙ ap (λ b. b || list_any (λ x. meets_at guards behind x k) s) (flag-four (λ j. flag met j || flag h.0 j) k lt
      ∙ ap (λ b. flag met k || b) one)
      ∙ or_regrouped (flag met k) (meets_at guards behind x k) (list_any (λ x. meets_at guards behind x k) s)

  -- every guard permits the letters that were read
  pub permits-ReadsLetters : (s : List ℕ) (met last : List Bool) (k : ℕ) (guard : Guard) → slice_get guards k ≡ Some guard
      → ReadsLetters guards count behind met s last → list_all (permits guard behind) s ≡ true
  permits-ReadsLetters [] met last k guard at h = refl
  permits-ReadsLetters (x ∷ s) met last k guard at h =
      and_from (permits guard behind x) (list_all (permits guard behind) s)
      (all_at (λ g. permits g behind x) guards k guard (permitted_from_effect guards behind x h.0 h.2).0 at)
      (permits-ReadsLetters s (union_of met h.0) last k guard at h.3)

  -- letters that every guard permits can be read
  pub ReadsLetters-permitted : (s : List ℕ) (met : List Bool) → AllBelow count s
      → ((k : ℕ) (guard : Guard) → slice_get guards k ≡ Some guard → list_all (permits guard behind) s ≡ true)
      → (last : List Bool) × ReadsLetters guards count behind met s last
  ReadsLetters-permitted [] met below each = (met, refl)
  ReadsLetters-permitted (x ∷ s) met below each =
      let here = all_from_each (λ g. permits g behind x) guards
      (λ k g at. (split (permits g behind x) (list_all (permits g behind) s) (each k g at)).0) in
      let rest = ReadsLetters-permitted s (union_of met (four_flags (meets_at guards behind x))) below.1
      (λ k g at. (split (permits g behind x) (list_all (permits g behind) s) (each k g at)).1) in
      (rest.0, (four_flags (meets_at guards behind x), below.0, effect_from_permitted guards behind x here, rest.1))
    where
      split : (a b : Bool) → (a && b) ≡ true → (a ≡ true) × (b ≡ true)
      split true b h = (refl, h)
      split false b h = absurd (true≢false (sym h))

  -- a flag that reading sets was set before, or may be set on this side
  pub reach-ReadsLetters : (s : List ℕ) (met last : List Bool) (k : ℕ) → k < 4 → ReadsLetters guards count behind met s last → flag last k ≡ true
      → (flag met k ≡ true) ⊎ (flag (reach_of (map (effect_of guards behind) (range_with_len 0 count))) k ≡ true)
  reach-ReadsLetters [] met last k lt h set = inl (ap (λ f. flag f k) h ∙ set)
  reach-ReadsLetters (x ∷ s) met last k lt h set =
      elim (reach-ReadsLetters s (union_of met h.0) last k lt h.3 set) [
        | inl now ↦ (elim (or_cases (flag met k) (flag h.0 k) (sym (flag-four (λ j. flag met j || flag h.0 j) k lt) ∙ now)) [
          | inl before ↦ inl before
          | inr new ↦ inr (flag-reach (map (effect_of guards behind) (range_with_len 0 count)) no_flags h.0 x k lt
              (slice_get-map_image (effect_of guards behind) (range_with_len 0 count) x x (slice_get-range count x h.1)
              ∙ ap Some h.2) new)
        ])
        | inr reach ↦ inr reach
      ]

pub listed-map : (count : ℕ) (g : ℕ → Option (List Bool)) (x : ℕ) → x < count → listed (map g (range_with_len 0 count)) x ≡ g x
listed-map count g x h = let at = slice_get-map_image g (range_with_len 0 count) x x (slice_get-range count x h) in rw (at, listed)

-- the guards hold exactly where the lists on both sides can be read and the required guards are met then
module _ (guards : List Guard) (count : ℕ) (limit : length guards ≤ 4) (before after : List ℕ) where
  met_on_side : (behind : Bool) (s : List ℕ) (k : ℕ) (guard : Guard) → slice_get guards k ≡ Some guard
      → list_any (λ x. meets_at guards behind x k) s ≡ list_any (meets guard behind) s
  met_on_side behind s k guard at = λ i. list_any (λ x. meets_at-there guards behind x k guard at i) s

  flags_of_both : (middle last : List Bool) (k : ℕ) (guard : Guard) → k < 4 → slice_get guards k ≡ Some guard
      → ReadsLetters guards count false no_flags before middle → ReadsLetters guards count true middle after last
      → flag last k ≡ (list_any (meets guard false) before || list_any (meets guard true) after)
  flags_of_both middle last k guard lt at first second =
      flag-ReadsLetters guards count true after middle last k lt second
      ∙ (λ i. (flag-ReadsLetters guards count false before no_flags middle k lt first
      ∙ ap (λ b. b || list_any (λ x. meets_at guards false x k) before) (flag-none k)) i || met_on_side true after k guard at i)
      ∙ ap (λ b. b || list_any (meets guard true) after) (met_on_side false before k guard at)

  pub guarded_from_ReadsLetters : (middle last : List Bool) → ReadsLetters guards count false no_flags before middle
      → ReadsLetters guards count true middle after last → covers last (required_of guards) ≡ true
      → list_all (guard_holds before after) guards ≡ true
  guarded_from_ReadsLetters middle last first second covered =
      all_from_each (guard_holds before after) guards (λ k guard at.
      let lt : k < 4 = omega (arith, slice_get_within guards k guard at) in
      holds_from_satisfied guard.all guard.region guard.letters before after (record {
        permitted_before = permits-ReadsLetters guards count false before no_flags middle k guard at first;
        permitted_after = permits-ReadsLetters guards count true after middle last k guard at second;
        met = λ asks. sym (flags_of_both middle last k guard lt at first second)
            ∙ flag_from_covers last (required_of guards) covered k lt (flag-four (asks_at guards) k lt ∙ asks_at-there guards k guard at
            ∙ asks);
      }))

  pub ReadsLetters_from_guarded : AllBelow count before → AllBelow count after → list_all (guard_holds before after) guards ≡ true
      → (middle last : List Bool) × ReadsLetters guards count false no_flags before middle × ReadsLetters guards count true middle after last
      × (covers last (required_of guards) ≡ true)
  ReadsLetters_from_guarded before_below after_below holds =
      let each : (k : ℕ) (guard : Guard) → slice_get guards k ≡ Some guard → IsSatisfied guard before after =
      λ k guard at. satisfied_from_holds guard.all guard.region guard.letters before after
      (all_at (guard_holds before after) guards k guard holds at) in
      let first = ReadsLetters-permitted guards count false before no_flags before_below (λ k guard at. (each k guard at).permitted_before) in
      let second = ReadsLetters-permitted guards count true after first.0 after_below (λ k guard at. (each k guard at).permitted_after) in (
        first.0,
        second.0,
        first.1,
        second.1,
        covers_from_flags second.0 (required_of guards) (λ k lt set.
            let found = guard_from_asks guards k (sym (flag-four (asks_at guards) k lt) ∙ set) in
            flags_of_both first.0 second.0 k found.0 lt found.1 first.1 second.1 ∙ (each k found.0 found.1).met found.2),
      )

-- the letters that a table gives are in range
pub table_value_in_range : (count : ℕ) (table : List (ℕ × ℕ)) (x : ℕ)
    → AllByRecursion (λ entry. (entry.0 < count) × (entry.1 < count)) table → x < count → table_value table x < count
table_value_in_range count [] x h lt = lt
table_value_in_range count (entry ∷ table) x h lt = by (entry.0 == x) (table_value_in_range count table x h.1 lt)
  where
    by : (b : Bool) → table_value table x < count → (if b then entry.1 else table_value table x) < count
    by true rest = h.0.1
    by false rest = rest
