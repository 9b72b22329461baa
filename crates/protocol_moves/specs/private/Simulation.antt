-- A pattern's atoms on a list, letter by letter. Before a letter an atom is begun where the letters so far match the atoms before it, and
-- it is going on where they match these and one or more letters of its own, which may be followed by more of them.
use Rattle.std.specs.Prelude.{ℕ, Bool, false, List, [], ◌∷◌, ◌||◌, ◌&&◌}
use Rattle.protocol_syntax.specs.declared.protocol.Many.{Many}
use Rattle.protocol_syntax.specs.declared.protocol.Many.TheVariants.{One, Star, Plus}
use Rattle.protocol_model.specs.declared.system.Atom.{Atom}
use Rattle.protocol_model.specs.Moves.{is_in}

-- whether the next atom is reached without a letter, where this one is begun and going so
abbrev pub is_passed : Many → Bool → Bool → Bool
is_passed One b o = o
is_passed Star b o = b || o
is_passed Plus b o = o

-- whether this atom is going after a letter of its own
abbrev pub is_kept : Many → Bool → Bool → Bool
is_kept One b o = o
is_kept Star b o = b || o
is_kept Plus b o = b || o

-- whether the next atom is begun after a letter of this one
abbrev pub is_left : Many → Bool → Bool
is_left One b = b
is_left Star b = false
is_left Plus b = false

-- which atoms are begun and which are going after the letter; whether the first is reached, and whether it is begun after the letter
abbrev pub begun_after : ℕ → Bool → Bool → List Atom → List Bool → List Bool → List Bool
begun_after x reached next atoms [] going = []
begun_after x reached next [] (b ∷ begun) going = next ∷ begun
begun_after x reached next (atom ∷ atoms) (b ∷ begun) [] = b ∷ begun
begun_after x reached next (atom ∷ atoms) (b ∷ begun) (o ∷ going) =
    next ∷ begun_after x (is_passed atom.many (b || reached) o) (is_in atom.letters x && is_left atom.many (b || reached)) atoms begun going

abbrev pub going_after : ℕ → Bool → List Atom → List Bool → List Bool → List Bool
going_after x reached atoms [] going = going
going_after x reached [] (b ∷ begun) going = going
going_after x reached (atom ∷ atoms) (b ∷ begun) [] = []
going_after x reached (atom ∷ atoms) (b ∷ begun) (o ∷ going) =
    (is_in atom.letters x && is_kept atom.many (b || reached) o)
    ∷ going_after x (is_passed atom.many (b || reached) o) atoms begun going

-- whether the end is reached without a letter
abbrev pub reaches_end : Bool → List Atom → List Bool → List Bool → Bool
reaches_end reached atoms [] going = false
reaches_end reached [] (b ∷ begun) going = b || reached
reaches_end reached (atom ∷ atoms) (b ∷ begun) [] = false
reaches_end reached (atom ∷ atoms) (b ∷ begun) (o ∷ going) =
    reaches_end (is_passed atom.many (b || reached) o) atoms begun going
