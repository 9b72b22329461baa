-- The text of a certificate that is an automaton, and the automaton that it means.
pub use Rattle.certificate.specs.AutomatonLines.{Version, One, Two, Line, Final, Edge, Edges, letters_of, NamesLetters, HasIndices, AreLettersOf, IsInRange, said_by, all_said, AreNoTwoEdges, HaveNoTwoEdges, IsAutomatonOf}
use Rattle.std.specs.Prelude.{◌≡◌, ◌≤◌, ℕ, false, List, [], ◌∷◌, ◌++◌, map, decimal, codes}
use Rattle.std.specs.List.{flat_map, join_by}
use Rattle.word_automata.specs.Automaton.{Automaton}
use Rattle.protocol_model.specs.System.{SystemData}
use Rattle.protocol_model.specs.Words.{automata_letters}
use Rattle.lines.specs.Document.{HasAnswer, means}
use Rattle.certificate.specs.Stages.{Stage, certificate, is_run}
use Rattle.certificate.specs.Words.{letter_text}

-- the text means the automaton: its lines, as they were read at its end, are not those of a run, and have it
pub record MeansAutomaton (s : SystemData) (text : List ℕ) (m : Automaton) : Type 0 where
  pub read : Stage
  pub is_read : HasAnswer (certificate s) text (means read)
  pub no_run : is_run read.place ≡ false
  pub limit : read.count ≤ 1000000
  pub automaton : IsAutomatonOf (automata_letters s) read.count read.lines m

-- the text of a line, without its line feed
abbrev pub line_text : SystemData → Line → List ℕ
line_text s (Final q) = codes "final " ++ decimal q
line_text s (Edge p a q) = codes "edge " ++ decimal p ++ codes " " ++ letter_text s.sections a ++ codes " " ++ decimal q
line_text s (Edges p q indices) =
    codes "edge " ++ decimal p ++ codes " " ++ decimal q ++ codes " " ++ join_by decimal (codes " ") indices

-- the line that names a letter, without its line feed
abbrev pub letter_line : SystemData → ℕ → List ℕ
letter_line s a = codes "letter " ++ letter_text s.sections a

-- the first line
abbrev pub title : Version → List ℕ
title One = codes "armc 1 safe"
title (Two letters) = codes "armc 2 safe"

-- the line on states
abbrev pub states_line : ℕ → List ℕ
states_line count = codes "states " ++ decimal count

-- the text of an automaton under a first line, with a line for each of these letters, the number of states, and these lines; each line ends
-- with a line feed
abbrev pub text_under : List ℕ → List ℕ → SystemData → ℕ → List Line → List ℕ
text_under first letters s count lines =
    flat_map (λ line. line ++ 10 ∷ [])
    (first ∷ (map (letter_line s) letters ++ states_line count ∷ (map (line_text s) lines ++ codes "end" ∷ [])))

-- the text of a certificate with so many states and these lines
abbrev pub safe_text : Version → SystemData → ℕ → List Line → List ℕ
safe_text v s count lines = text_under (title v) (letters_of v) s count lines

-- the text of lines, each ended by a line feed
abbrev pub lines_text : SystemData → List Line → List ℕ
lines_text s lines = flat_map (λ x. line_text s x ++ 10 ∷ []) lines

-- the text of the lines that name letters
abbrev pub letters_text : SystemData → List ℕ → List ℕ
letters_text s letters = flat_map (λ a. letter_line s a ++ 10 ∷ []) letters
