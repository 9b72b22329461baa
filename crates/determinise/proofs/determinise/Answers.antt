use Rattle.std.proofs.Common.{◌↔◌, List, ℕ, IfSome, IsTrue, subst}
use Rattle.std.proofs.lemmas.Result.{IfOk-weaker}
use Rattle.word_automata.specs.Automaton.{accepts}
use Rattle.word_automata.specs.Nondeterministic.{Accepts}
use Rattle.determinise.specs.private.Determinised.{IsDeterminised}
use Rattle.determinise.proofs.determinise.Goals as goal

pub returns-in-Some-clause-language : goal.returns-in-Some-clause-language
returns-in-Some-clause-language c =
    let n = c.args.automaton.now in
    let words = subst (λ found. IfSome found (λ live. (w : List ℕ) → Accepts live w ↔ Accepts n w)) c.in-Some.is c.in_ok-live.ensures.language in
    IfOk-weaker c.subsets_of_live.result (IsDeterminised c.in-Some.live) (λ dfa. (w : List ℕ) → IsTrue (accepts dfa w) ↔ Accepts n w)
    (λ dfa made w. ((λ accepted. (words w).0 ((made.language w).0 accepted)), (λ accepted. (made.language w).1 ((words w).1 accepted))))
    c.subsets_of_live.ensures
