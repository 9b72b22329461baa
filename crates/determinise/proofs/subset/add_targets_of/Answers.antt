use Rattle.std.proofs.Common.{true, false, ◌∙◌, arith}
use Rattle.std.proofs.lemmas.List.{get_or_default}
use Rattle.determinise.proofs.Closures.{adds_no_target}
use Rattle.word_automata.specs.Path.{edges_of}
use Rattle.determinise.proofs.subset.add_targets_of.Goals as goal

pub returns-else-silent-state-clause-targets : goal.returns-else-silent-state-clause-targets
returns-else-silent-state-clause-targets c =
    adds_no_target (edges_of c.args.automaton.now.states c.args.state) c.args.set.now.keys (c.requires.plain c.args.state
    (get_or_default c.args.silent.now c.args.state true false (let a = c.requires.state in let b = c.requires.count in omega arith) ∙ c.if-silent-state.false))
