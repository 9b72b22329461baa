-- States that are numbered anew, whose edges are turned round, or whose edges write what they read.
use Rattle.std.specs.Prelude.{ℕ, ◌+◌, List, Option, Some, map}
use Rattle.std.specs.List.{range_with_len}
use Rattle.word_automata.specs.Path.{Node}
use Rattle.transducers.specs.declared.Label.{Label}

-- the edge, with its target's number raised
abbrev pub shifted_edge : ℕ → Label × ℕ → Label × ℕ
shifted_edge by edge = (edge.0, edge.1 + by)

-- the state, with its targets' numbers raised
abbrev pub shifted_node : ℕ → Node Label → Node Label
shifted_node by node = record { accepting = node.accepting; edges = map (shifted_edge by) node.edges }

-- the edge that writes what the edge reads, and reads what it writes
abbrev pub inverse_edge : Label × ℕ → Label × ℕ
inverse_edge edge = (record { read = edge.0.write; write = edge.0.read }, edge.1)

-- the state with its edges turned so
abbrev pub inverse_node : Node Label → Node Label
inverse_node node = record { accepting = node.accepting; edges = map inverse_edge node.edges }

-- the edge that reads what the automaton's edge reads, and writes it again
abbrev pub identity_edge : Option ℕ × ℕ → Label × ℕ
identity_edge edge = (record { read = edge.0; write = edge.0 }, edge.1)

-- the automaton's state with such edges
abbrev pub identity_node : Node (Option ℕ) → Node Label
identity_node node = record { accepting = node.accepting; edges = map identity_edge node.edges }

-- the label that reads the letter a and writes the letter b
abbrev pub exchange : ℕ → ℕ → Label
exchange a b = record { read = Some a; write = Some b }

-- the edge that reads the letter and writes it again
abbrev pub copy_edge : ℕ → ℕ → Label × ℕ
copy_edge to a = (exchange a a, to)

-- one such edge for each of the letters from the offset on
abbrev pub copy_edges : ℕ → ℕ → ℕ → List (Label × ℕ)
copy_edges offset count to = map (copy_edge to) (range_with_len offset count)
