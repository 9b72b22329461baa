-- Products of two automata: their states are pairs of states that may be missing.
use Rattle.std.specs.Prelude.{◌&&◌, ◌||◌, ℕ, Bool, not, Option, None, Some, is_some, if◌then◌else◌}
use Rattle.word_automata.specs.Automaton.{Automaton, IsValid}
use Rattle.exploration.specs.DeterministicSystem.{DeterministicSystem}
use Rattle.boolean_operations.specs.OptionalStates.{start_of, follow, accepts_at, IsStateOrNone}
use Rattle.boolean_operations.specs.declared.products.Operation.{Operation}
use Rattle.boolean_operations.specs.declared.products.Operation.TheVariants.{Union, Intersection, Difference}

-- whether a word is accepted, from whether each of two automata accepts it
abbrev pub combine : Operation → Bool → Bool → Bool
combine Union x y = x || y
combine Intersection x y = x && y
combine Difference x y = x && not y

-- whether a word may still be accepted from the pair
abbrev pub is_live : Operation → Option ℕ → Option ℕ → Bool
is_live Union p q = is_some p || is_some q
is_live Intersection p q = is_some p && is_some q
is_live Difference p q = is_some p

-- the pair, if a word may still be accepted from it
abbrev pub pair_of : Operation → Option ℕ → Option ℕ → Option (Option ℕ × Option ℕ)
pair_of operation p q = if is_live operation p q then Some (p, q) else None

-- the product of two automata
abbrev pub pair_system : Operation → Automaton → Automaton → DeterministicSystem (Option ℕ × Option ℕ)
pair_system operation left right = record {
  letters = left.letters;
  start = pair_of operation (start_of left.states) (start_of right.states);
  step = λ state a. pair_of operation (follow left state.0 a) (follow right state.1 a);
  accepting = λ state. combine operation (accepts_at left state.0) (accepts_at right state.1);
}

-- both automata are valid, and the pair has a state of each or none
abbrev pub IsPairOfStates : Automaton → Automaton → Option ℕ × Option ℕ → Type 0
IsPairOfStates left right pair = IsValid left × IsValid right × IsStateOrNone left pair.0 × IsStateOrNone right pair.1
