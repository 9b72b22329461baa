-- How what was read is kept.
use Rattle.std.specs.Prelude.{◌≡◌, ◌≤◌, ◌↔◌, ℕ, false, true, List, Some, Result, Ok, Err, Contains, IfOk, IsTrue, length}
use Rattle.std.specs.List.{AllByRecursion}
use Rattle.word_automata.specs.Path.{is_accepting}
use Rattle.word_automata.specs.Automaton.{Automaton as AnyAutomaton, target, IsValid}
use Rattle.protocol_model.specs.System.{SystemData}
use Rattle.protocol_model.specs.Patterns.{fits}
use Rattle.protocol_model.specs.Words.{automata_letters}
use Rattle.lines.specs.Document.{Effect, leads, wrong}
use Rattle.lines.specs.Reading.{HasEffect}
use Rattle.lines.specs.declared.text.Next.{Next}
use Rattle.certificate.specs.declared.reading.Reading.{Reading}
use Rattle.certificate.specs.declared.safe.Certificate.{Certificate}
use Rattle.certificate.specs.declared.safe.Certificate.TheVariants.{Automaton, BadRun}
use Rattle.certificate.specs.declared.said.Place.{Place}
use Rattle.certificate.specs.declared.said.Place.TheVariants as At
use Rattle.certificate.specs.declared.said.Said.{Said}
use Rattle.certificate.specs.declared.said.What.{What}
use Rattle.certificate.specs.AutomatonLines.{Line, Final, Edge}
use Rattle.certificate.specs.RunText.{IsStepOf}
use Rattle.certificate.specs.Stages.{Stage, effect, is_run}

-- the letters and states are so many; the accepting states and the edges are those of the lines
pub record HasLines (size count : ℕ) (lines : List Line) (m : AnyAutomaton) : Type 0 where
  pub letters_are : m.letters ≡ size
  pub states_are : length m.states ≡ count
  pub final_lines : (q : ℕ) → IsTrue (is_accepting m.states q) ↔ Contains lines (Final q)
  pub edge_lines : (p a q : ℕ) → (target m p a ≡ Some q) ↔ Contains lines (Edge p a q)

-- what was read is kept so, and what was read of a run fits
pub record IsKept (s : SystemData) (t : Stage) (read : Reading) : Type 0 where
  pub place_is : read.place ≡ t.place
  pub letters_are : read.letters.items ≡ t.letters
  pub built : HasLines (automata_letters s) t.count t.lines read.builder
  pub few : t.count ≤ 1000000
  pub first_is : read.first ≡ t.first
  pub steps_are : read.steps.items ≡ t.steps
  pub first_fits : is_run t.place ≡ true → IsTrue (fits s t.first)
  pub steps_fit : AllByRecursion (IsStepOf s) t.steps

-- what was read is kept after a line that says this, as its effect tells
abbrev pub Takes : {E : Type 0} → SystemData → Reading → Said → Result (Next What) E → Reading → Type 0
Takes s old said result new = (t : Stage) → IsKept s t old → IfOk result (HasEffect (IsKept s) (effect s t said) t new)

-- where the next line stands, which is not among the steps of a run, or what is wrong
abbrev pub IsTitled : Effect Place What → Result Place What → Type 0
IsTitled effect (Ok place) = (effect ≡ leads place) × (is_run place ≡ false)
IsTitled effect (Err what) = effect ≡ wrong what

-- the certificate of what was read: a run where its lines are those of one, and else an automaton
abbrev pub IsBuiltFrom : Reading → Certificate → Type 0
IsBuiltFrom read (Automaton m) = (is_run read.place ≡ false) × (m ≡ read.builder) × IsValid m
IsBuiltFrom read (BadRun run) = (read.place ≡ At.Steps) × (run.first ≡ read.first) × (run.steps ≡ read.steps.items)
