-- What shows that no run of a system ends in a deadlock, and the texts that tell so.
use Rattle.std.specs.Prelude.{◌≡◌, ℕ, List, IsTrue, codes}
use Rattle.word_automata.specs.Automaton.{Automaton, accepts}
use Rattle.protocol_model.specs.declared.system.Configuration.{Configuration}
use Rattle.protocol_model.specs.declared.system.Run.{Run}
use Rattle.protocol_model.specs.System.{SystemData}
use Rattle.protocol_model.specs.Patterns.{is_initial}
use Rattle.protocol_model.specs.Steps.{IsStep}
use Rattle.protocol_model.specs.Words.{word_of}
use Rattle.refinement.specs.declared.verdict.Verdict.{Verdict}
use Rattle.refinement.specs.declared.verdict.Verdict.TheVariants.{Safe, Unsafe, Unknown}
use Rattle.certificate_writing.specs.Writing.{automaton_text, run_text, counted_text}
use Rattle.deadlock_query.specs.StuckConfigurations.{IsStuck}
use Rattle.protocol_search.specs.Runs.{IsRunTo, IsRunThrough}

-- the run ends in a configuration from which no rule leads
abbrev pub IsDeadlock : SystemData → Run → Type 0
IsDeadlock s run = IsRunTo s (IsStuck s) run

-- the automaton accepts the word of every initial configuration, with a configuration every one to which a step leads from it, and of no stuck one
pub record ProvesDeadlockFree (s : SystemData) (m : Automaton) : Type 0 where
  pub initial : (c : Configuration) → IsTrue (is_initial s c) → IsTrue (accepts m (word_of s c))
  pub closed : (r : ℕ) (c d : Configuration) → IsTrue (accepts m (word_of s c)) → IsStep s r c d → IsTrue (accepts m (word_of s d))
  pub no_stuck : (c : Configuration) → IsStuck s c → IsTrue (accepts m (word_of s c)) → ⊥

-- no run of any number of steps ends stuck
abbrev pub IsDeadlockFree : SystemData → Type 0
IsDeadlockFree s = (run : Run) → IsDeadlock s run → ⊥

-- the text tells the verdict, under a first line of its own: the automaton, the run through the words, or the counted states
abbrev pub IsDeadlockText : SystemData → Verdict → List ℕ → Type 0
IsDeadlockText s (Safe proof log) text = text ≡ automaton_text (codes "deadlock free") s proof
IsDeadlockText s (Unsafe words log) text = (run : Run) × IsRunThrough s words run × (text ≡ run_text (codes "deadlock") s run)
IsDeadlockText s (Unknown log) text = text ≡ counted_text (codes "unknown") log.counted log.budget

-- what such a text shows: it is that of an automaton that proves that there is no deadlock, and there is none; or that of a run to one
abbrev pub DeadlockTextShows : SystemData → Verdict → List ℕ → Type 0
DeadlockTextShows s (Safe proof log) text = (text ≡ automaton_text (codes "deadlock free") s proof) × ProvesDeadlockFree s proof × IsDeadlockFree s
DeadlockTextShows s (Unsafe words log) text = (run : Run) × (text ≡ run_text (codes "deadlock") s run) × IsDeadlock s run
DeadlockTextShows s (Unknown log) text = Unit {0}
