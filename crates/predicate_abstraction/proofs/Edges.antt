-- Edges of automata, and the words that are accepted along them.
use Rattle.std.proofs.Common.{◌≡◌, ◌<◌, ℕ, List, ◌∷◌, Some, Contains, IsTrue, length, subst, inl, inr}
use Rattle.std.proofs.lemmas.Bool.{cases_lt}
use Rattle.word_automata.specs.Path.{edges_of}
use Rattle.word_automata.specs.Automaton.{Automaton, target, accepts_from, IsValid}
use Rattle.word_automata.proofs.ForCallers.{edges_of-past, found_edge, edge_found, ordered_edges, Contains-none}
use Rattle.predicate_abstraction.specs.PredicateLaws.{accepts_along as accepts_by_target, accepts_first as first_target}

-- an edge leads where its letter does
pub edge_leads : (a : Automaton) → IsValid a → (p letter r : ℕ) → Contains (edges_of a.states p) (letter, r) → target a p letter ≡ Some r
edge_leads a valid p letter r there = edge_found (edges_of a.states p) (ordered_edges a valid p) letter r there

-- a word is accepted along an edge and then a word from its target
pub accepts_along : (a : Automaton) → IsValid a → (p letter r : ℕ) (w : List ℕ) → Contains (edges_of a.states p) (letter, r) → IsTrue (accepts_from a r w) → IsTrue (accepts_from a p (letter ∷ w))
accepts_along a valid p letter r w edge accepts = accepts_by_target a p letter r w (edge_leads a valid p letter r edge) accepts

-- and no other way
pub accepts_first : (a : Automaton) (p letter : ℕ) (w : List ℕ) → IsTrue (accepts_from a p (letter ∷ w)) → (r : ℕ) × Contains (edges_of a.states p) (letter, r) × IsTrue (accepts_from a r w)
accepts_first a p letter w accepts =
    let (r, leads, rest) = first_target a p letter w accepts in
    (r, found_edge (edges_of a.states p) letter r leads, rest)

-- a state with an edge is there
pub edge_within : (a : Automaton) (p letter r : ℕ) → Contains (edges_of a.states p) (letter, r) → p < length a.states
edge_within a p letter r there = elim (cases_lt p (length a.states)) [
  | inl within ↦ within
  | inr past ↦ absurd (Contains-none (letter, r) (subst (λ es. Contains es (letter, r)) (edges_of-past a.states p past) there))
]
