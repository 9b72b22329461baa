-- The summary of a search of the chain of some number.
use Rattle.std.specs.Prelude.{ℕ, List, ◌++◌, codes, decimal, length}
use Rattle.word_automata.specs.Automaton.{Automaton}
use Rattle.word_automata.specs.Building.{edge_count}
use Rattle.search_history.specs.declared.log.Log.{Log}
use Rattle.refinement.specs.declared.verdict.Verdict.{Verdict}
use Rattle.refinement.specs.declared.verdict.Verdict.TheVariants.{Safe, Unsafe, Unknown}
use Rattle.command_replies.specs.Line.{line}

-- the line of some words with a number at its end
abbrev pub number_line : List ℕ → ℕ → List ℕ
number_line words n = line (words ++ decimal n)

-- the lines of the number of the chain, of the verdict, of the number of rounds, and of the counted states
abbrev pub search_lines : ℕ → List ℕ → Log → List ℕ
search_lines number verdict log =
    number_line (codes "gen ") number ++ verdict ++ number_line (codes "rounds ") (length log.rounds) ++ number_line (codes "counted ") log.counted

-- the lines of the numbers of states and of edges of the proof
abbrev pub proof_lines : Automaton → List ℕ
proof_lines proof = number_line (codes "states ") (length proof.states) ++ number_line (codes "edges ") (edge_count proof)

-- the summary of the verdict on the chain of this number
abbrev pub summary : ℕ → Verdict → List ℕ
summary number (Safe proof log) = search_lines number (line (codes "verdict safe")) log ++ proof_lines proof
summary number (Unsafe words log) = search_lines number (line (codes "verdict unsafe")) log
summary number (Unknown log) = search_lines number (line (codes "verdict unknown")) log
