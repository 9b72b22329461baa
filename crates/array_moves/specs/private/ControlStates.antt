-- The control states of a machine for an `at` move: whether the moving position has been passed, and which guards are met.
use Rattle.std.specs.Prelude.{◌≡◌, ◌+◌, ◌^◌, ◌<◌, ◌≤◌, ◌⊎◌, ◌&&◌, ℕ, zero, suc, Bool, true, false, List, [], ◌∷◌, Option, None, Some, All}
use Rattle.std.specs.Prelude.{Contains, IsTrue, map, length, slice_get, slice_index, if◌then◌else◌}
use Rattle.std.specs.List.{range_with_len}
use Rattle.word_automata.specs.Path.{Node}
use Rattle.transducers.specs.declared.Label.{Label}
use Rattle.transducers.specs.Combination.{exchange}
use Rattle.protocol_model.specs.System.{Guard}
use Rattle.protocol_model.specs.Moves.{table_value}
use Rattle.array_moves.specs.declared.guard_table.ControlState.{ControlState}
use Rattle.array_moves.specs.declared.guard_table.GuardTable.{GuardTable}
use Rattle.array_moves.specs.private.Flags.{union_of, covers, no_flags, effect_of, required_of, reach_of}

-- the guard table of a move: what the letters do on either side, and what must be met
pub record IsGuardTable (f t : ℕ) (guards : List Guard) (table : List (ℕ × ℕ)) (count : ℕ) (guard_table : GuardTable) : Type 0 where
  pub from_is : guard_table.from ≡ f
  pub into_is : guard_table.into ≡ t
  pub images_are : guard_table.images.items ≡ map (table_value table) (range_with_len 0 count)
  pub before_is : guard_table.before.items ≡ map (effect_of guards false) (range_with_len 0 count)
  pub behind_is : guard_table.behind.items ≡ map (effect_of guards true) (range_with_len 0 count)
  pub reach_before_is : guard_table.reach_before ≡ reach_of (map (effect_of guards false) (range_with_len 0 count))
  pub reach_behind_is : guard_table.reach_behind ≡ reach_of (map (effect_of guards true) (range_with_len 0 count))
  pub required_is : guard_table.required ≡ required_of guards

-- the first control state
abbrev pub first_control : ControlState
first_control = record { moved = false; met = no_flags }

-- the effect that is listed for a letter
abbrev pub listed : List (Option (List Bool)) → ℕ → Option (List Bool)
listed effects x = elim (slice_get effects x) [ None ↦ None | Some effect ↦ effect ]

-- the control state with further guards met, if the letter is allowed
abbrev pub with_effect : ControlState → Option (List Bool) → Option ControlState
with_effect p None = None
with_effect p (Some met) = Some (record { moved = p.moved; met = union_of p.met met })

-- the control state after a letter of a position that does not move
abbrev pub after_letter : GuardTable → ControlState → ℕ → Option ControlState
after_letter guard_table p x = with_effect p (listed (if p.moved then guard_table.behind.items else guard_table.before.items) x)

-- whether the required guards may still be met
abbrev pub can_end : GuardTable → ControlState → Bool
can_end guard_table p = covers (union_of (if p.moved then p.met else union_of p.met guard_table.reach_before) guard_table.reach_behind) guard_table.required

-- the control state after the moving position, if there was none before and the guards may still be met
abbrev pub after_move : GuardTable → ControlState → Option ControlState
after_move guard_table p =
    if p.moved
    then None
    else (if can_end guard_table (record { moved = true; met = p.met }) then Some (record { moved = true; met = p.met }) else None)

-- whether the list may end in the control state
abbrev pub is_final : GuardTable → ControlState → Bool
is_final guard_table p = p.moved && covers p.met guard_table.required

-- the number of the first of so many states, if there is one
abbrev pub starts_of : ℕ → List ℕ
starts_of zero = []
starts_of (suc n) = 0 ∷ []

-- the control state has the number j after it was numbered, and the others keep their numbers
pub record Numbers (old new : List ControlState) (p : ControlState) (j : ℕ) : Type 0 where
  pub stays : (k : ℕ) (q : ControlState) → slice_get old k ≡ Some q → slice_get new k ≡ Some q
  pub numbered : slice_get new j ≡ Some p

-- an edge of the control state p: it copies or maps a letter, or it is the move, and it leads to the number of the control state after it
pub record IsLetterEdge (guard_table : GuardTable) (offset count : ℕ) (controls : List ControlState) (p : ControlState) (edge : Label × ℕ) : Type 0 where
  pub x : ℕ
  pub in_range : x < count
  pub q : ControlState
  pub after : after_letter guard_table p x ≡ Some q
  pub number : slice_get controls edge.1 ≡ Some q
  pub label : edge.0 ≡ exchange (x + offset) (slice_index guard_table.images.items x + offset)

pub record IsMoveEdge (guard_table : GuardTable) (offset : ℕ) (controls : List ControlState) (p : ControlState) (edge : Label × ℕ) : Type 0 where
  pub q : ControlState
  pub after : after_move guard_table p ≡ Some q
  pub number : slice_get controls edge.1 ≡ Some q
  pub label : edge.0 ≡ exchange (guard_table.from + offset) (guard_table.into + offset)

abbrev pub IsControlEdge : GuardTable → ℕ → ℕ → List ControlState → ControlState → Label × ℕ → Type 0
IsControlEdge guard_table offset count controls p edge = IsLetterEdge guard_table offset count controls p edge ⊎ IsMoveEdge guard_table offset controls p edge

-- the edges have one for each of the first letters that the control state allows
abbrev pub HasLetterEdges : GuardTable → ℕ → ℕ → ControlState → List ControlState → List (Label × ℕ) → Type 0
HasLetterEdges guard_table offset count p controls edges =
    (x : ℕ) (q : ControlState) → x < count → after_letter guard_table p x ≡ Some q
    → (j : ℕ) × (slice_get controls j ≡ Some q) × Contains edges (exchange (x + offset) (slice_index guard_table.images.items x + offset), j)

abbrev pub HasMoveEdge : GuardTable → ℕ → ControlState → List ControlState → List (Label × ℕ) → Type 0
HasMoveEdge guard_table offset p controls edges =
    (q : ControlState) → after_move guard_table p ≡ Some q
    → (j : ℕ) × (slice_get controls j ≡ Some q) × Contains edges (exchange (guard_table.from + offset) (guard_table.into + offset), j)

-- the edges for the first letters, where the control states before were old ones
pub record LetterEdges (guard_table : GuardTable) (offset count : ℕ) (p : ControlState) (old new : List ControlState) (edges : List (Label × ℕ)) : Type 0 where
  pub stays : (k : ℕ) (q : ControlState) → slice_get old k ≡ Some q → slice_get new k ≡ Some q
  pub only : (edge : Label × ℕ) → Contains edges edge → IsLetterEdge guard_table offset count new p edge
  pub all : HasLetterEdges guard_table offset count p new edges

-- all edges of the control state, where the control states before were old ones
pub record ControlEdges (guard_table : GuardTable) (offset count : ℕ) (p : ControlState) (old new : List ControlState) (edges : List (Label × ℕ)) : Type 0 where
  pub stays : (k : ℕ) (q : ControlState) → slice_get old k ≡ Some q → slice_get new k ≡ Some q
  pub only : (edge : Label × ℕ) → Contains edges edge → IsControlEdge guard_table offset count new p edge
  pub letters : HasLetterEdges guard_table offset count p new edges
  pub move : HasMoveEdge guard_table offset p new edges

-- the state of a control state
pub record IsStateOf (guard_table : GuardTable) (offset count : ℕ) (controls : List ControlState) (p : ControlState) (node : Node Label) : Type 0 where
  pub accepts : node.accepting ≡ is_final guard_table p
  pub only : (edge : Label × ℕ) → Contains node.edges edge → IsControlEdge guard_table offset count controls p edge
  pub letters : HasLetterEdges guard_table offset count p controls node.edges
  pub move : HasMoveEdge guard_table offset p controls node.edges

-- the states made so far are those of the first control states
pub record AreStates (guard_table : GuardTable) (offset count : ℕ) (controls : List ControlState) (states : List (Node Label)) : Type 0 where
  pub within : length states ≤ length controls
  pub each : (k : ℕ) (p : ControlState) (node : Node Label) → slice_get controls k ≡ Some p → slice_get states k ≡ Some node
      → IsStateOf guard_table offset count controls p node

-- the first control state alone, where the guards can be met from there, and else none
pub record HasFirst (guard_table : GuardTable) (controls : List ControlState) : Type 0 where
  pub first : IsTrue (can_end guard_table first_control) → controls ≡ first_control ∷ []
  pub none : can_end guard_table first_control ≡ false → controls ≡ []

-- what the guard table's letters become can be raised by the offset
pub record HasRoom (offset count : ℕ) (guard_table : GuardTable) : Type 0 where
  pub each_image : length guard_table.images.items ≡ count
  pub image_fits : All (λ y. y + offset < 2 ^ 32) guard_table.images.items
  pub from_fits : guard_table.from + offset < 2 ^ 32
  pub into_fits : guard_table.into + offset < 2 ^ 32
  pub letters_fit : count + offset < 2 ^ 32

-- the machine's states are those of the control states, of which the first is number 0; there is none where the guards cannot be met
pub record IsMachine (guard_table : GuardTable) (offset count : ℕ) (controls : List ControlState) (states : List (Node Label)) : Type 0 where
  pub are_states : AreStates guard_table offset count controls states
  pub same_length : length states ≡ length controls
  pub first : IsTrue (can_end guard_table first_control) → slice_get controls 0 ≡ Some first_control
  pub none : can_end guard_table first_control ≡ false → controls ≡ []
