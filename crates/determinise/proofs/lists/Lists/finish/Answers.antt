use Rattle.std.proofs.Common.{IfOk, subst, ◌∙◌}
use Rattle.determinise.specs.private.Determinised.{IsDeterminised}
use Rattle.determinise.proofs.Determinised.{determinised}
use Rattle.determinise.proofs.lists.Lists.finish.Goals as goal

pub returns : goal.returns
returns c =
    let found = c.into_inner.result in
    let dfa = c.finish.ensures in
    subst (λ s. IfOk c.finish.result (IsDeterminised s.automaton.now)) (c.into_inner.ensures ∙ c.args.self.same)
    (determinised found.automaton.now c.finish.result dfa.language dfa.letters dfa.valid)
