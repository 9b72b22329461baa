-- The verdict of a history is determined, with its words and its log.
use Rattle.std.proofs.Common.{◌≡◌, ◌∙◌, ℕ, List, [], ◌∷◌, None, Some, refl, sym, subst, ap, reverse}
use Rattle.std.specs.List.{last_or, zip}
use Rattle.word_automata.specs.Automaton.{Automaton}
use Rattle.exploration.proofs.ForCallers.{IsLeastWord-unique}
use Rattle.safety_problem.specs.Task.{Task}
use Rattle.abstraction.specs.Merging.{Key}
use Rattle.search_history.specs.Replays.{IsInBoth, LeadsThrough, arrives, stays, steps, IsLeastRunThrough}
use Rattle.search_history.specs.Histories.{RefinableAbstraction, SearchRound, log_of}
use Rattle.refinement.specs.declared.verdict.Verdict.{Verdict}
use Rattle.refinement.specs.declared.verdict.Verdict.TheVariants.{Safe, Unsafe, Unknown}
use Rattle.refinement.specs.Verdicts.{IsVerdict, IsVerdictOfRound, log_in}
use Rattle.refinement.proofs.Uniqueness.{history-unique}

module _ (t : Task) where
  leads-unique : {w : List ℕ} {levels : List (Automaton × Automaton)} {words words' : List (List ℕ)}
      → LeadsThrough t w levels words → LeadsThrough t w levels words' → words ≡ words'
  leads-unique (arrives {w}) arrives = refl
  leads-unique (stays a rest) (stays b rest') = leads-unique rest rest'
  leads-unique (stays a rest) (steps n least rest') = absurd (n a)
  leads-unique (steps n least rest) (stays b rest') = absurd (n b)
  leads-unique (steps {w} {v} {level} {above} n least rest) (steps {v = v'} {words = words'} n' least' rest') =
      let same = IsLeastWord-unique (λ u. IsInBoth level.0 level.1 u × t.steps w u) v v' least least' in
      let later = leads-unique rest (subst (λ x. LeadsThrough t x above words') (sym same) rest') in
      λ i. w ∷ later i

  run-unique : (levels : List (Automaton × Automaton)) (words words' : List (List ℕ)) → IsLeastRunThrough t levels words → IsLeastRunThrough t levels words' → words ≡ words'
  run-unique [] words words' h k = absurd h
  run-unique (level ∷ above) words words' h k =
      let same = IsLeastWord-unique (IsInBoth level.0 level.1) h.0 k.0 h.1 k.1 in
      leads-unique h.2 (subst (λ x. LeadsThrough t x above words') (sym same) k.2)

some-same : {A : Type 0} (a b : A) → Some a ≡ Some b → a ≡ b
some-same a b h = cc h

by-cases : (t : Task) (round : SearchRound) (v w : Verdict) → IsVerdictOfRound t round v → IsVerdictOfRound t round w → log_in v ≡ log_in w → v ≡ w
by-cases t round (Safe proof log) (Safe proof' log') h k logs =
    let same = some-same proof proof' (sym h.1 ∙ k.1) in λ i. Safe (same i) (logs i)
by-cases t round (Unsafe words log) (Unsafe words' log') h k logs =
    let same = run-unique t (zip (reverse round.x) round.n) words words' h.1 k.1 in λ i. Unsafe (same i) (logs i)
by-cases t round (Unknown log) (Unknown log') h k logs = λ i. Unknown (logs i)
by-cases t round (Safe proof log) (Unsafe words log') h k logs = cc (h.0, k.0)
by-cases t round (Unsafe words log) (Safe proof log') h k logs = cc (h.0, k.0)
by-cases t round (Safe proof log) (Unknown log') h k logs = cc (h.0, k)
by-cases t round (Unknown log) (Safe proof log') h k logs = cc (h, k.0)
by-cases t round (Unsafe words log) (Unknown log') h k logs = cc (h.0, k)
by-cases t round (Unknown log) (Unsafe words log') h k logs = cc (h, k.0)

pub verdict-unique : (t : Task) (method : RefinableAbstraction) (budget : ℕ) (key : Key) (v w : Verdict)
    → IsVerdict t method key budget v → IsVerdict t method key budget w → v ≡ w
verdict-unique t method budget key v w h k =
    let same = history-unique t budget method h.history k.history in
    let last : h.last_round ≡ k.last_round = some-same h.last_round k.last_round (sym h.is_last ∙ ap (λ rounds. last_or None rounds) same.0 ∙ k.is_last) in
    let logs : log_in v ≡ log_in w = h.log_is ∙ ap (λ rounds. log_of budget rounds h.sum) same.0 ∙ ap (λ sum. log_of budget k.rounds sum) same.1 ∙ sym k.log_is in
    by-cases t k.last_round v w (subst (λ round. IsVerdictOfRound t round v) last h.verdict_of) k.verdict_of logs
