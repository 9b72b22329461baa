-- Some positions of a list, told by the first and the last of them.
use Rattle.std.specs.Prelude.{◌≡◌, ◌==◌, ℕ, Bool, true, false, List, [], ◌∷◌, length, ◌||◌, map, if◌then◌else◌, not, nat_lt, take, drop, ◌<◌, ◌≤◌, ◌+◌}
use Rattle.std.specs.List.{list_any, list_all}
use Rattle.std.specs.Prelude.{◌&&◌, slice_index_or as get_or}
use Rattle.protocol_syntax.specs.declared.protocol.Region.{Region}
use Rattle.protocol_syntax.specs.declared.protocol.Region.TheVariants.{Left, Right, Others}
use Rattle.protocol_model.specs.System.{Guard}
use Rattle.protocol_moves.specs.declared.extent.Extent.{Extent}
use Rattle.protocol_model.specs.Moves.{is_in, table_value, guard_holds}

-- whether one of the marks is set
abbrev pub is_marked : List Bool → Bool
is_marked marks = list_any (λ mark. mark) marks

-- a position comes after a mark where it is after the first, and before a mark where it is before the last
pub record IsExtent (marks : List Bool) (first last : ℕ) : Type 0 where
  pub before : (i : ℕ) → i ≤ length marks → is_marked (take i marks) ≡ nat_lt first i
  pub after : (i : ℕ) → i < length marks → is_marked (drop (i + 1) marks) ≡ nat_lt i last

-- the positions of which a guard speaks: where a letter outside of its set stands, for `all`, and where one of its set stands, for `some`
abbrev pub is_hit : Guard → ℕ → Bool
is_hit guard x = if guard.all then not (is_in guard.letters x) else is_in guard.letters x

-- the positions whose letter is not what the table makes of the old one
abbrev pub changes : List (ℕ × ℕ) → List ℕ → List ℕ → List Bool
changes table [] new = []
changes table (x ∷ old) [] = []
changes table (x ∷ old) (y ∷ new) = not (table_value table x == y) ∷ changes table old new

-- whether a hit stands in the region of a position, where hits stand before it and after it so
abbrev pub is_region_hit : Region → Bool → Bool → Bool
is_region_hit Left before after = before
is_region_hit Right before after = after
is_region_hit Others before after = before || after

-- whether the guard holds at a position, where hits stand before it and after it so
abbrev pub holds_at : Guard → Bool → Bool → Bool
holds_at guard before after =
    if guard.all then not (is_region_hit guard.region before after) else is_region_hit guard.region before after

-- whether a move at this position leads from one list to the other
abbrev pub is_at : ℕ → ℕ → List Guard → List (ℕ × ℕ) → List ℕ → List ℕ → ℕ → Bool
is_at f t guards table old new i =
    (get_or old i 0 == f)
    && ((get_or new i 0 == t)
    && (not (is_marked (take i (changes table old new)))
    && (not (is_marked (drop (i + 1) (changes table old new)))
    && list_all (guard_holds (take i old) (drop (i + 1) old)) guards)))

-- whether the letters at this position and the next one change so, and all others stay
abbrev pub is_pair_at : ℕ → ℕ → ℕ → ℕ → List ℕ → List ℕ → ℕ → Bool
is_pair_at a b c d old new i =
    (get_or old i 0 == a)
    && ((get_or old (i + 1) 0 == b)
    && ((get_or new i 0 == c)
    && ((get_or new (i + 1) 0 == d)
    && (not (is_marked (take i (changes [] old new)))
    && not (is_marked (drop (i + 2) (changes [] old new)))))))

-- whether the lists are the same
abbrev pub is_same : List ℕ → List ℕ → Bool
is_same [] [] = true
is_same [] (y ∷ new) = false
is_same (x ∷ old) [] = false
is_same (x ∷ old) (y ∷ new) = (x == y) && is_same old new

-- whether one position changes from a to c, and all others stay
abbrev pub is_one_change : ℕ → ℕ → List ℕ → List ℕ → Bool
is_one_change a c [] new = false
is_one_change a c (x ∷ old) [] = false
is_one_change a c (x ∷ old) (y ∷ new) =
    ((x == y) && is_one_change a c old new) || (((x == a) && (y == c)) && is_same old new)

-- whether two positions change, one from a to c and one from b to d, and all others stay
abbrev pub is_two_changes : ℕ → ℕ → ℕ → ℕ → List ℕ → List ℕ → Bool
is_two_changes a b c d [] new = false
is_two_changes a b c d (x ∷ old) [] = false
is_two_changes a b c d (x ∷ old) (y ∷ new) =
    ((x == y) && is_two_changes a b c d old new)
    || ((((x == a) && (y == c)) && is_one_change b d old new) || (((x == b) && (y == d)) && is_one_change a c old new))

-- each guard's hits in the list have the extent of the same index
abbrev pub HaveExtents : List Guard → List Extent → List ℕ → Type 0
HaveExtents [] extents list = Unit {0}
HaveExtents (guard ∷ guards) [] list = ⊥
HaveExtents (guard ∷ guards) (extent ∷ extents) list =
    IsExtent (map (is_hit guard) list) extent.first extent.last × HaveExtents guards extents list

-- whether all guards hold at a position, by the extents of their hits
abbrev pub all_hold : List Guard → List Extent → ℕ → Bool
all_hold [] extents i = true
all_hold (guard ∷ guards) [] i = false
all_hold (guard ∷ guards) (extent ∷ extents) i =
    holds_at guard (nat_lt extent.first i) (nat_lt i extent.last) && all_hold guards extents i
