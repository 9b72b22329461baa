-- What the reply of `back` promises.
use Rattle.std.specs.Prelude.{◌≡◌, ℕ, List, [], ◌∷◌, None, IsTrue}
use Rattle.word_automata.specs.Automaton.{Automaton, accepts}
use Rattle.protocol_model.specs.declared.system.Configuration.{Configuration}
use Rattle.protocol_model.specs.System.{SystemData}
use Rattle.protocol_model.specs.Patterns.{is_initial, is_bad}
use Rattle.protocol_model.specs.Steps.{IsStep}
use Rattle.protocol_model.specs.Words.{word_of, automata_letters, IsInitialWord}
use Rattle.safety_problem.specs.Task.{IsAutomatonOf}
use Rattle.safety_problem.specs.Reversal.{reversed}
use Rattle.search_history.specs.declared.log.Log.{Log}
use Rattle.protocol_problem.specs.SystemTask.{task_of}
use Rattle.predicate_abstraction.specs.Predicates.{predicates}
use Rattle.refinement.specs.Verdicts.{IsVerdict}
use Rattle.refinement.specs.declared.verdict.Verdict.TheVariants.{Safe}
use Rattle.backward_search.specs.BackwardVerdicts.{IsComplementOf}
use Rattle.certificate.specs.SafeText.{MeansAutomaton}
use Rattle.command_words.specs.declared.Query.TheVariants.{Back}
use Rattle.protocol_search.specs.Methods.{by_predicates}
use Rattle.command_replies.specs.declared.status.Status.TheVariants as status
use Rattle.command_replies.specs.declared.reply.Reply.{Reply}
use Rattle.armc_commands.specs.declared.search_reply.Telling.TheVariants.{Certificate}
use Rattle.armc_commands.specs.SearchPromise.{CertificatePromise}
use Rattle.armc_commands.specs.Commands.Searches.{search_for}

-- the automaton accepts the word of every bad configuration, with a configuration every one from which a step leads to it, and of no initial one
pub record ProvesBackward (s : SystemData) (m : Automaton) : Type 0 where
  pub bad : (c : Configuration) → IsTrue (is_bad s c) → IsTrue (accepts m (word_of s c))
  pub closed : (r : ℕ) (c d : Configuration) → IsTrue (accepts m (word_of s d)) → IsStep s r c d → IsTrue (accepts m (word_of s c))
  pub no_initial : (c : Configuration) → IsTrue (is_initial s c) → IsTrue (accepts m (word_of s c)) → ⊥

-- the search of the reversed problem found an automaton that proves the system backward, and the text means its canonical complement
pub record ShowsComplement (s : SystemData) (budget : ℕ) (text : List ℕ) : Type 0 where
  pub initial : Automaton
  pub is_initial : IsAutomatonOf (automata_letters s) (IsInitialWord s) initial
  pub found : Automaton
  pub log : Log
  pub is_found : IsVerdict (reversed (task_of s)) by_predicates (predicates (initial ∷ [])) budget (Safe found log)
  pub proves : ProvesBackward s found
  pub complement : Automaton
  pub is_complement : IsComplementOf found complement
  pub means : MeansAutomaton s text complement

-- the certificate shows what it says, and at status 0 it is the complement of what was found
pub record BackPromise (s : SystemData) (budget : ℕ) (reply : Reply) : Type 0 where
  pub certificate : CertificatePromise s (Certificate None) (search_for Back budget) reply
  pub complements : reply.status ≡ status.Done → ShowsComplement s budget reply.out
