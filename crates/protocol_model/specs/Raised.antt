-- A relation of lists of one section, on words over the letters of all sections.
use Rattle.std.specs.Prelude.{◌≡◌, ℕ, List}
use Rattle.protocol_model.specs.System.{AllBelow}
use Rattle.protocol_model.specs.Words.{raised}

-- the words are two lists over the section's letters, with each letter raised by the offset, and the move leads from the one to the other
pub record IsRaisedMove (moves : List ℕ → List ℕ → Type 0) (offset count : ℕ) (u w : List ℕ) : Type 0 where
  pub old : List ℕ
  pub new : List ℕ
  pub old_in_range : AllBelow count old
  pub new_in_range : AllBelow count new
  pub word_before : u ≡ raised offset old
  pub word_after : w ≡ raised offset new
  pub leads : moves old new
