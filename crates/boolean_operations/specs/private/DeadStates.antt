-- States from which no word is accepted.
use Rattle.std.specs.Prelude.{◌≡◌, ℕ, Bool, true, false, List, Option, Contains, slice_index_or}
use Rattle.word_automata.specs.Path.{edges_of, is_accepting}
use Rattle.word_automata.specs.Nondeterministic.{NondeterministicAutomaton}

-- where the state has the flag, it does not accept and leads to states with the flag alone
pub record IsRejectingAt (n : NondeterministicAutomaton) (flags : List Bool) (p : ℕ) : Type 0 where
  pub rejects : slice_index_or flags p false ≡ true → is_accepting n.states p ≡ false
  pub leads : slice_index_or flags p false ≡ true → (label : Option ℕ) (q : ℕ) → Contains (edges_of n.states p) (label, q) → slice_index_or flags q false ≡ true

-- so do all states
abbrev pub AreRejecting : NondeterministicAutomaton → List Bool → Type 0
AreRejecting n flags = (p : ℕ) → IsRejectingAt n flags p
