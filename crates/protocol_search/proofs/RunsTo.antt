-- Runs from an initial configuration to one of some kind, and the words that lead by steps to the word of one.
use Rattle.std.proofs.Common.{◌≡◌, ℕ, List, [], ◌∷◌, IsTrue, length, refl, sym, subst}
use Rattle.protocol_model.specs.declared.system.Configuration.{Configuration}
use Rattle.protocol_model.specs.declared.system.Run.{Run}
use Rattle.protocol_model.specs.System.{SystemData}
use Rattle.protocol_model.specs.Patterns.{fits}
use Rattle.protocol_model.specs.Steps.{IsStep}
use Rattle.protocol_model.specs.Words.{automata_letters, word_of, IsInitialWord, IsWordStep}
use Rattle.protocol_model.specs.Runs.{AreSteps, last_of}
use Rattle.safety_problem.specs.Task.{Task}
use Rattle.trace_replay.specs.Runs.{IsBadChain, IsChainToBad}
use Rattle.refinement.specs.Laws.{LeadsToBad}
use Rattle.configuration_words.proofs.ForCallers.{word_of-injective}
use Rattle.protocol_search.specs.Runs.{IsRunTo, AreStepWords, AreStepsThrough, IsRunThrough}
use Rattle.protocol_search.proofs.StepLemmas.{initial-fits, initial-word}

-- the problem of a system from its initial words to those of configurations of this kind
abbrev pub task_to : SystemData → (Configuration → Type 0) → Task
task_to s is_end = record {
  letters = automata_letters s;
  is_initial = IsInitialWord s;
  is_bad = λ w. (c : Configuration) × is_end c × (w ≡ word_of s c);
  steps = IsWordStep s;
}

module _ (s : SystemData) (is_end : Configuration → Type 0) (end-fits : (c : Configuration) → is_end c → IsTrue (fits s c)) where
  -- the configuration of a word of this kind is of this kind
  end-word : (c : Configuration) → IsTrue (fits s c) → (task_to s is_end).is_bad (word_of s c) → is_end c
  end-word c fit h = let same = word_of-injective s h.0 c (end-fits h.0 h.1) fit (sym h.2) in subst is_end same h.1

  -- words that lead by steps to one of this kind are those of configurations that do
  chain-steps : (c : Configuration) (words : List (List ℕ)) → IsTrue (fits s c) → IsChainToBad (task_to s is_end) (word_of s c ∷ words)
      → (steps : List (ℕ × Configuration)) × AreSteps s c steps × is_end (last_of c steps)
  chain-steps c [] fit chain = ([], tt, end-word c fit chain)
  chain-steps c (w ∷ words) fit chain =
      let step = chain.0 in
      let same = word_of-injective s c step.old fit step.step.fits_before step.word_before in
      let goes = subst (λ x. IsStep s step.rule x step.new) (sym same) step.step in
      let rest = subst (λ x. IsChainToBad (task_to s is_end) (x ∷ words)) step.word_after chain.1 in
      let later = chain-steps step.new words step.step.fits_after rest in
      ((step.rule, step.new) ∷ later.0, (goes, later.1), later.2)

  pub run-to : (words : List (List ℕ)) → IsBadChain (task_to s is_end) words → (run : Run) × IsRunTo s is_end run
  run-to [] chain = absurd chain
  run-to (w ∷ words) chain =
      let first = chain.0.0 in
      let rest = subst (λ x. IsChainToBad (task_to s is_end) (x ∷ words)) chain.0.2 chain.1 in
      let found = chain-steps first words (initial-fits s first chain.0.1) rest in
      (record { first = first; steps = found.0 }, record { begins = chain.0.1; goes = found.1; ends = found.2 })

  -- such words are step words
  words-of-chain : (words : List (List ℕ)) → IsChainToBad (task_to s is_end) words → AreStepWords s words
  words-of-chain [] h = absurd h
  words-of-chain (w ∷ []) h = (h.0, (end-fits h.0 h.1, h.2))
  words-of-chain (w ∷ v ∷ words) h = (h.0, words-of-chain (v ∷ words) h.1)

  pub step-words : (words : List (List ℕ)) → IsBadChain (task_to s is_end) words → AreStepWords s words
  step-words [] h = absurd h
  step-words (w ∷ words) h = words-of-chain (w ∷ words) h.1

  -- and the run through them leads there
  goes-through : (c : Configuration) (words : List (List ℕ)) (steps : List (ℕ × Configuration)) → AreStepsThrough s c words steps → AreSteps s c steps
  goes-through c [] [] h = tt
  goes-through c [] (step ∷ steps) h = absurd h
  goes-through c (w ∷ words) [] h = absurd h
  goes-through c (w ∷ words) (step ∷ steps) h = (h.1.step, goes-through step.1 words steps h.2)

  ends-there : (c : Configuration) (words : List (List ℕ)) (steps : List (ℕ × Configuration)) → IsTrue (fits s c) → AreStepsThrough s c words steps
      → IsChainToBad (task_to s is_end) (word_of s c ∷ words) → is_end (last_of c steps)
  ends-there c [] [] fit h chain = end-word c fit chain
  ends-there c [] (step ∷ steps) fit h chain = absurd h
  ends-there c (w ∷ words) [] fit h chain = absurd h
  ends-there c (w ∷ words) (step ∷ steps) fit h chain =
      ends-there step.1 words steps h.0.0 h.2 (subst (λ x. IsChainToBad (task_to s is_end) (x ∷ words)) h.0.1 chain.1)

  pub run-through-to : (words : List (List ℕ)) (run : Run) → IsBadChain (task_to s is_end) words → IsRunThrough s words run → IsRunTo s is_end run
  run-through-to [] run chain through = absurd chain
  run-through-to (w ∷ words) run chain through = record {
    begins = initial-word s w run.first through.0 chain.0;
    goes = goes-through run.first words run.steps through.1;
    ends = ends-there run.first words run.steps through.0.0 through.1
        (subst (λ x. IsChainToBad (task_to s is_end) (x ∷ words)) through.0.1 chain.1);
  }

  -- the steps of a run lead between the words of its configurations
  leads : (c : Configuration) (steps : List (ℕ × Configuration)) → AreSteps s c steps → is_end (last_of c steps)
      → LeadsToBad (task_to s is_end) (length steps) (word_of s c)
  leads c [] goes at = (c, at, refl)
  leads c (step ∷ steps) goes at = (
    word_of s step.1,
    record { rule = step.0; old = c; new = step.1; word_before = refl; word_after = refl; step = goes.0 },
    leads step.1 steps goes.1 at,
  )

  pub run-leads : (run : Run) → IsRunTo s is_end run
      → (w : List ℕ) × IsInitialWord s w × LeadsToBad (task_to s is_end) (length run.steps) w
  run-leads run h = (word_of s run.first, (run.first, h.begins, refl), leads run.first run.steps h.goes h.ends)
