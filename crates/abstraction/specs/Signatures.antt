-- Signatures of states, and the facts of an automaton, which determine the words that it accepts once its related states are merged.
use Rattle.std.specs.Prelude.{◌≡◌, ◌↔◌, ◌<◌, ◌+◌, ◌*◌, ◌^◌, ℕ, Bool, List, IsTrue, Some, length}
use Rattle.word_automata.specs.Path.{is_accepting}
use Rattle.word_automata.specs.Automaton.{Automaton, target, IsValid}
use Rattle.abstraction.specs.Merging.{IsMerged}

-- each state has a list of so many truth values, its signature, and states are related exactly where their signatures are equal
pub record AreSignatures (letters : ℕ) (related : Automaton → ℕ → ℕ → Type 0) (tests : ℕ) (signature : Automaton → ℕ → List Bool) : Type 0 where
  pub count : (a : Automaton) (p : ℕ) → a.letters ≡ letters → length (signature a p) ≡ tests
  pub equal : (a : Automaton) (p q : ℕ) → IsValid a → a.letters ≡ letters → related a p q ↔ (signature a p ≡ signature a q)

-- the number of signatures of so many truth values
abbrev pub width : ℕ → ℕ
width tests = 2 ^ tests

-- a fact of an automaton: the signature of the state that starts, that of one that accepts, or the signatures of the ends of an edge and its letter
pub data Fact : Type 0 where
  starts : List Bool → Fact
  accepts : List Bool → Fact
  leads : List Bool → ℕ → List Bool → Fact

-- the automaton has the fact, by the signatures of its states
abbrev pub HasFact : (ℕ → List Bool) → Automaton → Fact → Type 0
HasFact signature a (starts s) = (0 < length a.states) × (signature 0 ≡ s)
HasFact signature a (accepts s) = (p : ℕ) × IsTrue (is_accepting a.states p) × (signature p ≡ s)
HasFact signature a (leads s letter t) = (p : ℕ) × (r : ℕ) × (target a p letter ≡ Some r) × (signature p ≡ s) × (signature r ≡ t)

abbrev pub HaveSameFacts : (ℕ → List Bool) → Automaton → (ℕ → List Bool) → Automaton → Type 0
HaveSameFacts signature a other b = (fact : Fact) → HasFact signature a fact ↔ HasFact other b fact

-- the number of possible facts over so many letters, where there are so many signatures
abbrev pub fact_count : ℕ → ℕ → ℕ
fact_count letters signatures = signatures * signatures * letters + 2 * signatures

-- the states have one signature
abbrev pub HaveSameSignature : (ℕ → List Bool) → ℕ → ℕ → Type 0
HaveSameSignature signature p q = signature p ≡ signature q

-- automata with the same facts have the same words once their states of one signature are merged
abbrev pub FactsDetermineWords : Type 0
FactsDetermineWords =
    (a b : Automaton) (signature other : ℕ → List Bool) → HaveSameFacts signature a other b
    → (w : List ℕ) → IsMerged (HaveSameSignature signature) a w ↔ IsMerged (HaveSameSignature other) b w
