-- Flags for the guards of a move: which of them are met. A move has four guards at most.
use Rattle.std.specs.Prelude.{◌&&◌, ◌||◌, ℕ, Bool, true, false, not, List, [], ◌∷◌, Option, None, Some, fold, slice_get, slice_index_or}
use Rattle.std.specs.Prelude.{if◌then◌else◌}
use Rattle.std.specs.List.{list_all}
use Rattle.protocol_syntax.specs.declared.protocol.Region.{Region}
use Rattle.protocol_syntax.specs.declared.protocol.Region.TheVariants.{Left, Right, Others}
use Rattle.protocol_model.specs.System.{Guard}
use Rattle.protocol_model.specs.Moves.{is_in}

-- the flag of this number; one that is not there is not set
abbrev pub flag : List Bool → ℕ → Bool
flag flags k = slice_index_or flags k false

-- four flags
abbrev pub four_flags : (ℕ → Bool) → List Bool
four_flags f = f 0 ∷ f 1 ∷ f 2 ∷ f 3 ∷ []

-- no flag is set
abbrev pub no_flags : List Bool
no_flags = false ∷ false ∷ false ∷ false ∷ []

-- the flags of either
abbrev pub union_of : List Bool → List Bool → List Bool
union_of a b = four_flags (λ k. flag a k || flag b k)

-- whether the flag is set wherever the other one is
abbrev pub covers_one : Bool → Bool → Bool
covers_one a b = not b || a

-- whether the first flags have all of the second
abbrev pub covers : List Bool → List Bool → Bool
covers a b =
    covers_one (flag a 0) (flag b 0) && (covers_one (flag a 1) (flag b 1) &&
    (covers_one (flag a 2) (flag b 2) && covers_one (flag a 3) (flag b 3)))

-- whether the region has the positions behind the moving one (true), or those before it (false)
abbrev pub has_side : Region → Bool → Bool
has_side Left behind = not behind
has_side Right behind = behind
has_side Others behind = true

-- whether the guard allows the letter on that side of the moving position
abbrev pub permits : Guard → Bool → ℕ → Bool
permits guard behind x = not (guard.all && has_side guard.region behind) || is_in guard.letters x

-- whether the letter on that side meets the guard, one for which some letter is enough
abbrev pub meets : Guard → Bool → ℕ → Bool
meets guard behind x = not guard.all && (has_side guard.region behind && is_in guard.letters x)

-- the same for the guard of this number, if it is there
abbrev pub meets_at : List Guard → Bool → ℕ → ℕ → Bool
meets_at guards behind x k = elim (slice_get guards k) [ None ↦ false | Some guard ↦ meets guard behind x ]

-- the guards that the letter meets on that side; nothing where a guard forbids it there
abbrev pub effect_of : List Guard → Bool → ℕ → Option (List Bool)
effect_of guards behind x = if list_all (λ guard. permits guard behind x) guards then Some (four_flags (meets_at guards behind x)) else None

-- whether the guard of this number is there and asks for some letter
abbrev pub asks_at : List Guard → ℕ → Bool
asks_at guards k = elim (slice_get guards k) [ None ↦ false | Some guard ↦ not guard.all ]

-- the guards that some letter must meet
abbrev pub required_of : List Guard → List Bool
required_of guards = four_flags (asks_at guards)

-- the flags, with those that an allowed letter may add
abbrev pub widened : List Bool → Option (List Bool) → List Bool
widened flags None = flags
widened flags (Some met) = union_of flags met

-- all flags that the letters of a side may set
abbrev pub reach_of : List (Option (List Bool)) → List Bool
reach_of effects = fold widened no_flags effects
