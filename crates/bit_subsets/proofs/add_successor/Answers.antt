use Rattle.std.proofs.Common.{◌+◌, sym, subst}
use Rattle.bit_subsets.specs.private.Successors.{AreSuccessorsBelow}
use Rattle.bit_subsets.proofs.Successors.{successors_same, successors_more}
use Rattle.bit_subsets.proofs.add_successor.Goals as goal

pub returns-then-is_empty : goal.returns-then-is_empty
returns-then-is_empty c set step so =
    successors_same c.args.subsets.now.automaton.now set c.args.targets c.args.letter step c.args.successors.now.items so (c.is_empty.ensures c.if-is_empty.true)

pub returns : goal.returns
returns c set step so =
    let n = c.args.subsets.now.automaton.now in
    subst (AreSuccessorsBelow n set (c.args.letter + 1)) (sym c.in_ok-push.ensures.items)
    (successors_more n set c.args.targets c.args.letter step c.args.successors.now.items so c.args.subsets.now.plain c.in_ok-kept.kept
    (c.in_ok-kept.ensures n c.args.subsets.now.included))
