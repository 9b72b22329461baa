-- How far the key of a round bounds it.
use Rattle.std.specs.Prelude.{◌≡◌, ◌≤◌, ◌^◌, ℕ, Bool, List, [], ◌∷◌, None, Some, length}
use Rattle.std.specs.List.{last_or}
use Rattle.word_automata.specs.Automaton.{Automaton}
use Rattle.safety_problem.specs.Task.{Task}
use Rattle.abstraction.specs.Merging.{Key}
use Rattle.abstraction.specs.Signatures.{AreSignatures, fact_count, width}
use Rattle.search_history.specs.Histories.{RefinableAbstraction, SearchRound, History}
use Rattle.fixpoint.specs.Laws.{AreGrowing}

-- the property holds of each round and its key: the first key, and after a round that refuted a set the key that follows it
abbrev pub HoldOfRounds : RefinableAbstraction → (Key → SearchRound → Type 0) → Key → List SearchRound → Type 0
HoldOfRounds method P key [] = Unit {0}
HoldOfRounds method P key (round ∷ rounds) = P key round × ((x : Automaton) → last_or None round.x ≡ Some x → HoldOfRounds method P (method.next key x) rounds)

-- where each key relates states by signatures of so many truth values, the merged automata of each round grow, and are at most as many as
-- there are sets of possible facts
abbrev pub AreBoundedByKeys : Task → RefinableAbstraction → Type 0
AreBoundedByKeys t method =
    (tests : Key → ℕ) (signature : Key → Automaton → ℕ → List Bool) → ((key : Key) → AreSignatures t.letters (method.related key) (tests key) (signature key))
    → (budget : ℕ) (key : Key) (s z : ℕ) (rounds : List SearchRound) → History t method budget key s rounds z
    → HoldOfRounds method (λ key round. AreGrowing round.m × (length round.m ≤ 2 ^ fact_count t.letters (width (tests key)))) key rounds
