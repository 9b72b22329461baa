use Rattle.minimise.proofs.LetterRuns.{run_ends}
use Rattle.minimise.proofs.splitters.end_of_run.Goals as goal

pub returns-else-moves-end : goal.returns-else-moves-end
returns-else-moves-end c =
    run_ends c.args.moves.now c.requires.ordered c.args.at c.run.end c.run.invariant.some c.run-test.true c.run.invariant.same c.if-moves-end.false
