-- What it is that an automaton proves a system: it is an inductive invariant that excludes the bad configurations.
use Rattle.std.specs.Prelude.{ℕ, IsTrue}
use Rattle.word_automata.specs.Automaton.{Automaton, accepts}
use Rattle.protocol_model.specs.declared.system.Configuration.{Configuration}
use Rattle.protocol_model.specs.declared.system.Run.{Run}
use Rattle.protocol_model.specs.System.{SystemData}
use Rattle.protocol_model.specs.Patterns.{is_initial, is_bad}
use Rattle.protocol_model.specs.Steps.{IsStep}
use Rattle.protocol_model.specs.Runs.{IsBadRun}
use Rattle.protocol_model.specs.Words.{word_of}

-- the automaton accepts the word of every initial configuration, with a configuration every one to which a step leads, and of no bad one
pub record Proves (s : SystemData) (m : Automaton) : Type 0 where
  pub initial : (c : Configuration) → IsTrue (is_initial s c) → IsTrue (accepts m (word_of s c))
  pub closed : (r : ℕ) (c d : Configuration) → IsTrue (accepts m (word_of s c)) → IsStep s r c d → IsTrue (accepts m (word_of s d))
  pub no_bad : (c : Configuration) → IsTrue (is_bad s c) → IsTrue (accepts m (word_of s c)) → ⊥

-- no run of any length, of any instance, is a bad run
abbrev pub IsSafe : SystemData → Type 0
IsSafe s = (run : Run) → IsBadRun s run → ⊥
