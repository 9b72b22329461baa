-- Which lists a pattern matches, and which configurations are initial and bad.
use Rattle.std.specs.Prelude.{◌==◌, ◌&&◌, ◌||◌, ℕ, Bool, true, false, List, [], ◌∷◌, length, nat_lt, unwrap_or, slice_get}
use Rattle.std.specs.List.{list_all, list_any}
use Rattle.protocol_syntax.specs.declared.protocol.Kind.{Kind}
use Rattle.protocol_syntax.specs.declared.protocol.Kind.TheVariants.{Cell, Array, Channel, Stack, LossyChannel}
use Rattle.protocol_syntax.specs.declared.protocol.Many.{Many}
use Rattle.protocol_syntax.specs.declared.protocol.Many.TheVariants.{One, Star, Plus}
use Rattle.protocol_model.specs.declared.system.Section.{Section}
use Rattle.protocol_model.specs.declared.system.Atom.{Atom}
use Rattle.protocol_model.specs.declared.system.Row.{Row}
use Rattle.protocol_model.specs.declared.system.Configuration.{Configuration}
use Rattle.protocol_model.specs.System.{SystemData, letter_count}
use Rattle.protocol_model.specs.Moves.{is_in}

-- whether the list is none or more letters that pass the test, and then a list that passes the rest
abbrev pub starred : (ℕ → Bool) → (List ℕ → Bool) → List ℕ → Bool
starred letter rest [] = rest []
starred letter rest (x ∷ xs) = rest (x ∷ xs) || (letter x && starred letter rest xs)

-- whether the list is letters that pass the test, as many as the atom says, and then a list that passes the rest
abbrev pub repeated : Many → (ℕ → Bool) → (List ℕ → Bool) → List ℕ → Bool
repeated One letter rest [] = false
repeated One letter rest (x ∷ xs) = letter x && rest xs
repeated Star letter rest list = starred letter rest list
repeated Plus letter rest [] = false
repeated Plus letter rest (x ∷ xs) = letter x && starred letter rest xs

-- whether the list can be cut into pieces that match the atoms in their order
abbrev pub atoms_match : List Atom → List ℕ → Bool
atoms_match [] list = length list == 0
atoms_match (atom ∷ atoms) list = repeated atom.many (is_in atom.letters) (atoms_match atoms) list

-- the list of the section of this number
abbrev pub list_at : Configuration → ℕ → List ℕ
list_at c k = unwrap_or (slice_get c.lists k) []

-- whether the row matches the lists of all sections that it names
abbrev pub row_matches : Configuration → Row → Bool
row_matches c row = list_all (λ part. atoms_match part.1.atoms (list_at c part.0)) row.parts

-- whether a section of this kind has lists of any length; a cell has lists of one letter alone
abbrev pub has_any_length : Kind → Bool
has_any_length Cell = false
has_any_length Array = true
has_any_length Channel = true
has_any_length Stack = true
has_any_length LossyChannel = true

-- whether the list has letters of the section alone, and exactly one where the section is a cell
abbrev pub list_fits : Section → List ℕ → Bool
list_fits section list =
    list_all (λ a. nat_lt a (letter_count section)) list && (has_any_length section.kind || (length list == 1))

-- whether there is one list for each section, and each fits its section
abbrev pub lists_fit : List Section → List (List ℕ) → Bool
lists_fit [] [] = true
lists_fit [] (list ∷ lists) = false
lists_fit (section ∷ sections) [] = false
lists_fit (section ∷ sections) (list ∷ lists) = list_fits section list && lists_fit sections lists

-- whether the configuration fits the system
abbrev pub fits : SystemData → Configuration → Bool
fits s c = lists_fit s.sections c.lists

-- whether the configuration fits, and some row matches it
abbrev pub some_row_matches : SystemData → List Row → Configuration → Bool
some_row_matches s rows c = fits s c && list_any (row_matches c) rows

-- whether the configuration is initial
abbrev pub is_initial : SystemData → Configuration → Bool
is_initial s c = some_row_matches s s.init c

-- whether the configuration is bad
abbrev pub is_bad : SystemData → Configuration → Bool
is_bad s c = some_row_matches s s.bad c
