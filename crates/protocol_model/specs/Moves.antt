-- What a move does to the list of its section. A list is cut at the positions that change.
use Rattle.std.specs.Prelude.{◌≡◌, ◌==◌, ◌⊎◌, ℕ, Bool, List, [], ◌∷◌, ◌++◌, Option, IsTrue, map, if◌then◌else◌}
use Rattle.std.specs.List.{list_all, list_any}
use Rattle.protocol_syntax.specs.declared.protocol.Region.{Region}
use Rattle.protocol_syntax.specs.declared.protocol.Region.TheVariants.{Left, Right, Others}
use Rattle.protocol_model.specs.System.{Guard, Move}
pub use Rattle.protocol_syntax.specs.MoveLetters.{popped}
use Rattle.protocol_syntax.specs.declared.protocol.Move.TheVariants.{At, Pair, Ring, Two, Set, Send, Recv, Stack, Spawn, Exit, Lose}

-- whether the letter is in the set
abbrev pub is_in : List ℕ → ℕ → Bool
is_in letters x = list_any (λ y. y == x) letters

-- the letters of a region, where these letters stand before the moving position and those after it
abbrev pub region_letters : Region → List ℕ → List ℕ → List ℕ
region_letters Left before after = before
region_letters Right before after = after
region_letters Others before after = before ++ after

-- whether all, or some, letters of the guard's region are in its set
abbrev pub guard_holds : List ℕ → List ℕ → Guard → Bool
guard_holds before after guard =
    if guard.all
    then list_all (is_in guard.letters) (region_letters guard.region before after)
    else list_any (is_in guard.letters) (region_letters guard.region before after)

-- what the table makes of a letter; a letter that is not on the left stays
abbrev pub table_value : List (ℕ × ℕ) → ℕ → ℕ
table_value [] x = x
table_value (entry ∷ table) x = if entry.0 == x then entry.1 else table_value table x

-- one position changes from one letter to the other, where the guards hold of the list before; the table changes all other positions
pub record IsAtMove (f t : ℕ) (guards : List Guard) (table : List (ℕ × ℕ)) (old new : List ℕ) : Type 0 where
  pub before : List ℕ
  pub after : List ℕ
  pub was : old ≡ before ++ f ∷ after
  pub becomes : new ≡ map (table_value table) before ++ t ∷ map (table_value table) after
  pub guarded : IsTrue (list_all (guard_holds before after) guards)

-- two neighbours a b become c d
pub record IsPairMove (a b c d : ℕ) (old new : List ℕ) : Type 0 where
  pub before : List ℕ
  pub after : List ℕ
  pub was : old ≡ before ++ a ∷ (b ∷ after)
  pub becomes : new ≡ before ++ c ∷ (d ∷ after)

-- the last letter a becomes c and the first letter b becomes d, at two distinct positions
pub record IsRingMove (a b c d : ℕ) (old new : List ℕ) : Type 0 where
  pub between : List ℕ
  pub was : old ≡ b ∷ (between ++ a ∷ [])
  pub becomes : new ≡ d ∷ (between ++ c ∷ [])

-- two positions, the first of them on the left of the second, change from a to c and from b to d
pub record ChangesTwo (a b c d : ℕ) (old new : List ℕ) : Type 0 where
  pub before : List ℕ
  pub between : List ℕ
  pub after : List ℕ
  pub was : old ≡ before ++ a ∷ (between ++ b ∷ after)
  pub becomes : new ≡ before ++ c ∷ (between ++ d ∷ after)

-- two positions, in either order
abbrev pub IsTwoMove : ℕ → ℕ → ℕ → ℕ → List ℕ → List ℕ → Type 0
IsTwoMove a b c d old new = ChangesTwo a b c d old new ⊎ ChangesTwo b a d c old new

-- the popped letter leaves the left end, and then the pushed letters stand there
pub record IsStackMove (pop : Option ℕ) (push old new : List ℕ) : Type 0 where
  pub below : List ℕ
  pub was : old ≡ popped pop ++ below
  pub becomes : new ≡ push ++ below

-- a letter leaves the list, wherever it stands
pub record IsCut (a : ℕ) (old new : List ℕ) : Type 0 where
  pub before : List ℕ
  pub after : List ℕ
  pub was : old ≡ before ++ a ∷ after
  pub becomes : new ≡ before ++ after

-- a letter of the set leaves the list, wherever it stands
pub record IsLoss (letters old new : List ℕ) : Type 0 where
  pub letter : ℕ
  pub listed : IsTrue (is_in letters letter)
  pub cut : IsCut letter old new

-- the move leads from one list to the other
abbrev pub IsMove : Move → List ℕ → List ℕ → Type 0
IsMove (At f t guards table) old new = IsAtMove f t guards table old new
IsMove (Pair a b c d) old new = IsPairMove a b c d old new
IsMove (Ring a b c d) old new = IsRingMove a b c d old new
IsMove (Two a b c d) old new = IsTwoMove a b c d old new
IsMove (Set a b) old new = (old ≡ a ∷ []) × (new ≡ b ∷ [])
IsMove (Send a) old new = new ≡ old ++ a ∷ []
IsMove (Recv a) old new = old ≡ a ∷ new
IsMove (Stack pop push) old new = IsStackMove pop push old new
IsMove (Spawn a) old new = new ≡ old ++ a ∷ []
IsMove (Exit a) old new = IsCut a old new
IsMove (Lose letters) old new = IsLoss letters old new
