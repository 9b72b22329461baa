use Rattle.std.proofs.Common.{◌≡◌, length, ◌∙◌, arith}
use Rattle.minimise.proofs.Buckets.{numbered_all}
use Rattle.minimise.proofs.numbering.by_least_states.Goals as goal

pub returns : goal.returns
returns c =
    let n = length c.args.automaton.now.states in
    let end : c.states.state ≡ n = (let a = c.states-count.ensures.count in let b = c.states-test.false in let d = c.states.auto.state-end in omega arith) in
    numbered_all c.args.classes.now c.states.least.items n c.states.invariant.numbered (c.states.invariant.count ∙ end) c.requires
