-- Lists of states and of successors, which serve sets as lists too.
use Rattle.std.proofs.Common.{◌<◌, ℕ, List, [], ◌∷◌, ◌++◌, Option, Some, Contains, All, IfSome, length}
use Rattle.std.proofs.lemmas.List.Elements.{All-nil, All-head, All-tail, All-push, All-contains}
use Rattle.word_automata.specs.Path.{edges_of}
use Rattle.word_automata.specs.Nondeterministic.{NondeterministicAutomaton, IsInRange}
use Rattle.word_automata.specs.StateSets.{AreStates}
use Rattle.word_automata.proofs.ForCallers.{All-from_contains, All-edges_of}
use Rattle.exploration.specs.DeterministicSystem.{HasIncreasingLetters}

-- members of a list of states are states
pub AreStates-members : (n : NondeterministicAutomaton) (xs ys : List ℕ) → ((q : ℕ) → Contains ys q → Contains xs q) → AreStates n xs → AreStates n ys
AreStates-members n xs ys from states =
    All-from_contains (λ q. q < length n.states) ys (λ q there. All-contains (λ s. s < length n.states) xs q states (from q there))

-- one more pair, with a greater letter
pub increasing_push : {S : Type 0} (pairs : List (ℕ × S)) (pair : ℕ × S) → HasIncreasingLetters pairs → All (λ before. before.0 < pair.0) pairs → HasIncreasingLetters (pairs ++ pair ∷ [])
increasing_push {S} [] pair h k = (All-nil (λ (later : ℕ × S). pair.0 < later.0), tt)
increasing_push {S} (x ∷ pairs) pair h k = (
  All-push (λ (later : ℕ × S). x.0 < later.0) pairs pair h.0 (All-head (λ (before : ℕ × S). before.0 < pair.0) x pairs k),
  increasing_push pairs pair h.1 (All-tail (λ (before : ℕ × S). before.0 < pair.0) x pairs k),
)

-- the letter of an edge is one of the automaton's
pub letter_within : (n : NondeterministicAutomaton) → IsInRange n → (p a q : ℕ) → Contains (edges_of n.states p) (Some a, q) → a < n.letters
letter_within n range p a q edge =
    let within = All-edges_of (All (λ e. IfSome e.0 (λ a. a < n.letters))) n.states (All-nil (λ (e : Option ℕ × ℕ). IfSome e.0 (λ a. a < n.letters))) range.letters_in_range p in
    All-contains (λ (e : Option ℕ × ℕ). IfSome e.0 (λ a. a < n.letters)) (edges_of n.states p) (Some a, q) within edge
