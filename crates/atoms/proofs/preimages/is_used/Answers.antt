use Rattle.std.proofs.Common.{sym, ◌∙◌, arith}
use Rattle.std.proofs.lemmas.Bool.Decides.{nat_tests}
use Rattle.atoms.proofs.UsedStates.{unused}
use Rattle.atoms.proofs.preimages.is_used.Goals as goal

pub returns : goal.returns
returns c no_edge =
    unused c.args.automaton.now c.args.state c.edges_from.result.now (sym c.accepting.ensures ∙ c.if-accepting.false) c.edges_from.ensures.edges
    (let e = c.is_empty.ensures in grind (arith, nat_tests))
