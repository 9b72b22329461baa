-- An automaton that proves a system accepts every configuration of a run that begins in an initial one.
use Rattle.std.proofs.Common.{ℕ, List, [], ◌∷◌, IsTrue}
use Rattle.word_automata.specs.Automaton.{Automaton, accepts}
use Rattle.protocol_model.specs.declared.system.Configuration.{Configuration}
use Rattle.protocol_model.specs.System.{SystemData}
use Rattle.protocol_model.specs.Runs.{AreSteps, last_of}
use Rattle.protocol_model.specs.Words.{word_of}
use Rattle.certificate_checker.specs.Proof.{Proves, IsSafe}

module _ (s : SystemData) (m : Automaton) (proof : Proves s m) where
  last-accepted : (c : Configuration) (steps : List (ℕ × Configuration)) → AreSteps s c steps → IsTrue (accepts m (word_of s c))
      → IsTrue (accepts m (word_of s (last_of c steps)))
  last-accepted c [] are accepted = accepted
  last-accepted c (step ∷ steps) are accepted = last-accepted step.1 steps are.1 (proof.closed step.0 c step.1 accepted are.0)

  pub is_safe : IsSafe s
  is_safe run bad =
      proof.no_bad (last_of run.first run.steps) bad.ends (last-accepted run.first run.steps bad.goes (proof.initial run.first bad.begins))
