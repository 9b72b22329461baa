use Rattle.std.proofs.Common.{◌↔◌, ℕ, List, Option, IfSome, subst}
use Rattle.word_automata.specs.Nondeterministic.{NondeterministicAutomaton, Accepts}
use Rattle.reduction.proofs.trimming.live_part.Goals as goal

pub returns-in-Some-2-clause-language : goal.returns-in-Some-2-clause-language
returns-in-Some-2-clause-language c w =
    let n = c.args.automaton.now in
    let plain = c.in-Some.plain in
    let first = subst (λ (o : Option NondeterministicAutomaton). IfSome o (λ m. (v : List ℕ) → Accepts m v ↔ Accepts n v)) c.in-Some.is c.in_ok-plain.ensures.language w in
    let second = subst (λ (o : Option NondeterministicAutomaton). IfSome o (λ m. (v : List ℕ) → Accepts m v ↔ Accepts plain v)) c.in-Some-2.is
    c.in_ok-live-in-Some.ensures.language w in
    (λ run. first.0 (second.0 run), λ run. second.1 (first.1 run))
