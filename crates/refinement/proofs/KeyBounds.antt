-- The rounds of a history are bounded by their keys.
use Rattle.std.proofs.Common.{◌≤◌, ◌^◌, ℕ, Bool, List, length, sym, subst, ◌∙◌}
use Rattle.std.proofs.lemmas.Option.{same_Some}
use Rattle.word_automata.specs.Automaton.{Automaton}
use Rattle.safety_problem.specs.Task.{Task}
use Rattle.abstraction.specs.Merging.{Key}
use Rattle.abstraction.specs.Signatures.{AreSignatures, fact_count, width}
use Rattle.search_history.specs.Histories.{RefinableAbstraction, SearchRound, IsSearchRound, History, ends, goes_on}
use Rattle.fixpoint.specs.Laws.{AreGrowing}
use Rattle.fixpoint.proofs.ForCallers.{growing, bounded}
use Rattle.refinement.specs.Bounds.{HoldOfRounds}

module _ (t : Task) (method : RefinableAbstraction) (own : (key : Key) (a : Automaton) (p : ℕ) → method.related key a p p)
    (tests : Key → ℕ) (signature : Key → Automaton → ℕ → List Bool)
    (are : (key : Key) → AreSignatures t.letters (method.related key) (tests key) (signature key)) (budget : ℕ) where
  abbrev IsBounded : Key → SearchRound → Type 0
  IsBounded key round = AreGrowing round.m × (length round.m ≤ 2 ^ fact_count t.letters (width (tests key)))

  round_bounded : (key : Key) (s z : ℕ) (round : SearchRound) → IsSearchRound t (method.related key) budget s round z → IsBounded key round
  round_bounded key s z round h = (
    growing t (method.related key) (own key) budget h.forward.forward,
    bounded t (method.related key) (own key) budget (tests key) (signature key) (are key) s h.z round.n round.m h.forward_end h.forward,
  )

  pub rounds_bounded : {key : Key} {s z : ℕ} {rounds : List SearchRound} → History t method budget key s rounds z → HoldOfRounds method IsBounded key rounds
  rounds_bounded (ends {key = key} {s = s} {sum = z} {round = round} h not_refuted) = (round_bounded key s z round h, λ x last. tt)
  rounds_bounded (goes_on {key = key} {s = s} {z = y} {round = round} {x = set} {rounds = rounds} h refuted last rest) = (
    round_bounded key s y round h,
    λ x is. subst (λ a. HoldOfRounds method IsBounded (method.next key a) rounds) (same_Some set x (sym last ∙ is)) (rounds_bounded rest),
  )
