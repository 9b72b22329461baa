-- The lines of certificates.
use Rattle.std.specs.Prelude.{ℕ, map, codes, ⊤}
use Rattle.protocol_model.specs.System.{SystemData}
use Rattle.lines.specs.Grammar.{Line, number, case, just, cut, fields, means, after, word, numbered}
use Rattle.certificate.specs.declared.said.Kind.{Kind}
use Rattle.certificate.specs.declared.said.Kind.TheVariants.{Safe, Unsafe, Unknown}
use Rattle.certificate.specs.declared.said.Place.{Place}
use Rattle.certificate.specs.declared.said.Place.TheVariants as At
use Rattle.certificate.specs.declared.said.Said.{Said}
use Rattle.certificate.specs.declared.said.Said.TheVariants.{Title, Letter, States, Final, Edge, Edges, End, Start, Step}
use Rattle.certificate.specs.Words.{a_name, letter}
use Rattle.certificate.specs.Configurations.{configuration}

abbrev pub kind : Line Kind
kind = just (codes "safe") Safe (just (codes "unsafe") Unsafe (word (codes "unknown") Unknown))

-- `armc`, a version and a kind
abbrev pub first_line : Line Said
first_line = means (λ p. Title p.0 p.1) (after (codes "armc ") (cut 32 (number 3) kind))

abbrev pub letter_line : SystemData → Line Said
letter_line s = means Letter (letter s)

-- the number of states
abbrev pub states : Line Said
states = after (codes "states ") (means States (number 1000001))

-- a state, or an index of a letter
abbrev pub state : Line ℕ
state = number 1000000

-- a source, a letter and a target
abbrev pub named_edge : SystemData → Line Said
named_edge s = means (λ p. Edge p.0 p.1.0 p.1.1) (cut 32 state (cut 32 (letter s) state))

-- a source, a target, and one or more indices of letters
abbrev pub indexed_edges : Line Said
indexed_edges = means (λ p. Edges p.0 p.1.0 p.1.1) (cut 32 state (cut 32 state (fields 32 state)))

abbrev pub end : Line Said
end = means (λ (nothing : ⊤). End) (word (codes "end") tt)

-- an edge, an accepting state, or the end
abbrev pub body : Line Said → Line Said
body edge = case (codes "edge ") edge (case (codes "final ") (means Final state) end)

-- a rule, and the configuration after it
abbrev pub step : SystemData → Line Said
step s = means (λ p. Step p.0 p.1) (cut 32 (numbered (map (λ rule. rule.name) s.rules) a_name) (configuration s.sections))

-- what may stand at a place
abbrev pub line_at : SystemData → Place → Line Said
line_at s At.Title = first_line
line_at s At.States = states
line_at s At.Letters = case (codes "letter ") (letter_line s) states
line_at s At.NamedEdges = body (named_edge s)
line_at s At.IndexedEdges = body indexed_edges
line_at s At.Start = after (codes "start ") (means Start (configuration s.sections))
line_at s At.Steps = case (codes "step ") (step s) end
