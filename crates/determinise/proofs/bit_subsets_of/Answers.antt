use Rattle.std.proofs.Common.{IfOk, subst}
use Rattle.determinise.specs.private.Determinised.{IsDeterminised}
use Rattle.determinise.proofs.Determinised.{determinised}
use Rattle.determinise.proofs.bit_subsets_of.Goals as goal

pub returns : goal.returns
returns c =
    let dfa = c.explore_languages.ensures in
    subst (λ n. IfOk c.explore_languages.result (IsDeterminised n)) c.in_ok-sets.ensures
    (determinised c.in_ok-sets.sets.automaton.now c.explore_languages.result dfa.language dfa.letters dfa.valid)
