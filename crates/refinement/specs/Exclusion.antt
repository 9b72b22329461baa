-- What becomes of a refuted set in later rounds.
use Rattle.std.specs.Prelude.{◌≡◌, ℕ, List, [], ◌∷◌, None, Some}
use Rattle.std.specs.List.{last_or, AllByRecursion}
use Rattle.word_automata.specs.Automaton.{Automaton}
use Rattle.minimise.specs.Canonical.{SameLanguage}
use Rattle.safety_problem.specs.Task.{Task}
use Rattle.abstraction.specs.Merging.{Key}
use Rattle.abstraction.specs.Excluding.{Misses}
use Rattle.search_history.specs.Replays.{levels}
use Rattle.search_history.specs.Histories.{RefinableAbstraction, SearchRound, History}
use Rattle.search_history.specs.declared.log.LogEnd.TheVariants.{Refuted}

-- the round refutes the set
abbrev pub IsRefutedBy : SearchRound → Automaton → Type 0
IsRefutedBy round x = (round.end ≡ Refuted) × (last_or None round.x ≡ Some x)

-- each merged automaton of the round misses the set where the automaton that was merged does
abbrev pub StaysOut : Automaton → SearchRound → Type 0
StaysOut x round = AllByRecursion (λ level. Misses level.n x → Misses level.m x) (levels round.n round.m)

-- no set with its language is refuted by the round
abbrev pub IsNotRefutedAgain : Automaton → SearchRound → Type 0
IsNotRefutedAgain x round = (y : Automaton) → IsRefutedBy round y → SameLanguage x y → ⊥

-- what a round refutes stays out of every later round, and none refutes its language again
abbrev pub AreRefutedOnce : List SearchRound → Type 0
AreRefutedOnce [] = Unit {0}
AreRefutedOnce (round ∷ rounds) =
    ((x : Automaton) → IsRefutedBy round x → AllByRecursion (λ later. StaysOut x later × IsNotRefutedAgain x later) rounds) × AreRefutedOnce rounds

-- the rounds of each history
abbrev pub RefutesOnce : Task → RefinableAbstraction → Type 0
RefutesOnce t method = (budget : ℕ) (key : Key) (s z : ℕ) (rounds : List SearchRound) → History t method budget key s rounds z → AreRefutedOnce rounds
