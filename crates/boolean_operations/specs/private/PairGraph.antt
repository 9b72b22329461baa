-- Pairs of a state of a nondeterministic automaton and a state of a deterministic one or none, as a graph.
use Rattle.std.specs.Prelude.{◌≡◌, ◌<◌, ◌&&◌, ℕ, Bool, true, false, not, List, Option, None, Some, Contains, length, slice_get, slice_index_or}
use Rattle.word_automata.specs.Path.{edges_of, is_accepting}
use Rattle.word_automata.specs.Automaton.{Automaton, accepts, IsValid}
use Rattle.word_automata.specs.Nondeterministic.{NondeterministicAutomaton, Accepts, IsInRange}
use Rattle.boolean_operations.specs.OptionalStates.{start_of, follow, accepts_at, IsStateOrNone}

-- both automata are valid, and the pair has a state of the first, and one of the second or none
abbrev pub IsPair : NondeterministicAutomaton → Automaton → ℕ × Option ℕ → Type 0
IsPair n m pair = IsInRange n × IsValid m × (pair.0 < length n.states) × IsStateOrNone m pair.1

-- both words begin here
abbrev pub IsStartPair : NondeterministicAutomaton → Automaton → ℕ × Option ℕ → Type 0
IsStartPair n m pair = Contains n.starts pair.0 × (pair.1 ≡ start_of m.states)

-- where a letter or none leads
abbrev pub advance : Automaton → Option ℕ → Option ℕ → Option ℕ
advance m q None = q
advance m q (Some a) = follow m q a

-- an edge of the first automaton, along which the second one goes
abbrev pub PairEdge : NondeterministicAutomaton → Automaton → ℕ × Option ℕ → Option ℕ → ℕ × Option ℕ → Type 0
PairEdge n m s l r = Contains (edges_of n.states s.0) (l, r.0) × (r.1 ≡ advance m s.1 l)

-- one of these edges that leads to no flagged state
abbrev pub LiveEdge : NondeterministicAutomaton → Automaton → List Bool → ℕ × Option ℕ → Option ℕ → ℕ × Option ℕ → Type 0
LiveEdge n m flags s l r = PairEdge n m s l r × (slice_index_or flags r.0 false ≡ false)

-- it accepts where that is wanted, and refuses where it is not
abbrev pub is_wanted : Bool → Bool → Bool
is_wanted true accepted = accepted
is_wanted false accepted = not accepted

-- the first accepts, and the second where that is wanted and only there
abbrev pub is_goal_pair : NondeterministicAutomaton → Automaton → Bool → ℕ × Option ℕ → Bool
is_goal_pair n m wanted pair = is_accepting n.states pair.0 && is_wanted wanted (accepts_at m pair.1)

-- the first accepts the word, and the second where that is wanted and only there
abbrev pub IsWordOfPairs : NondeterministicAutomaton → Automaton → Bool → List ℕ → Type 0
IsWordOfPairs n m wanted w = Accepts n w × (accepts m w ≡ wanted)

-- one of the first k elements leads to y
pub record IsAmong {X Y : Type 0} (leads : X → Y → Type 0) (xs : List X) (k : ℕ) (y : Y) : Type 0 where
  pub place : ℕ
  pub below : place < k
  pub source : X
  pub at : slice_get xs place ≡ Some source
  pub goes : leads source y

-- what a start becomes, and an edge without a letter and with one
abbrev pub StartsAt : Automaton → ℕ → ℕ × Option ℕ → Type 0
StartsAt m p s = (p ≡ s.0) × (s.1 ≡ start_of m.states)

abbrev pub LeadsSilently : List Bool → Option ℕ → Option ℕ × ℕ → ℕ × Option ℕ → Type 0
LeadsSilently flags q edge r = (edge ≡ (None, r.0)) × (r.1 ≡ q) × (slice_index_or flags r.0 false ≡ false)

abbrev pub LeadsByLetter : List Bool → Automaton → Option ℕ → Option ℕ × ℕ → ℕ × (ℕ × Option ℕ) → Type 0
LeadsByLetter flags m q edge step = (edge ≡ (Some step.0, step.1.0)) × (step.1.1 ≡ follow m q step.0) × (slice_index_or flags step.1.0 false ≡ false)
