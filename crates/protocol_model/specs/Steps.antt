-- One step of a system: one firing of one rule.
use Rattle.std.specs.Prelude.{◌≡◌, ◌==◌, ◌<◌, ℕ, List, [], ◌∷◌, Option, None, Some, IsTrue, length, slice_get, if◌then◌else◌}
use Rattle.protocol_model.specs.declared.system.Rule.{Rule}
use Rattle.protocol_model.specs.declared.system.Configuration.{Configuration}
use Rattle.protocol_model.specs.System.{Move, SystemData}
use Rattle.protocol_model.specs.Moves.{IsMove}
use Rattle.protocol_model.specs.Patterns.{fits, list_at}

-- the move of the section of this number, if the rule names the section
abbrev pub move_of : List (ℕ × Move) → ℕ → Option Move
move_of [] k = None
move_of (part ∷ parts) k = if part.0 == k then Some part.1 else move_of parts k

-- the list moves where there is a move, and stays where there is none
abbrev pub ChangesBy : Option Move → List ℕ → List ℕ → Type 0
ChangesBy None old new = old ≡ new
ChangesBy (Some move) old new = IsMove move old new

-- rule number r leads from c to d: both fit, each section that the rule names moves, and every other section stays
pub record IsStep (s : SystemData) (r : ℕ) (c d : Configuration) : Type 0 where
  pub rule : Rule
  pub is_rule : slice_get s.rules r ≡ Some rule
  pub fits_before : IsTrue (fits s c)
  pub fits_after : IsTrue (fits s d)
  pub changes : (k : ℕ) → k < length s.sections → ChangesBy (move_of rule.moves k) (list_at c k) (list_at d k)
