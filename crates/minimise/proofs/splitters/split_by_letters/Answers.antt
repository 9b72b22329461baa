use Rattle.std.proofs.Common.{arith}
use Rattle.minimise.proofs.LetterRuns.{run_sources, run_earlier}
use Rattle.minimise.proofs.splitters.split_by_letters.Goals as goal

pub runs-preserved : goal.runs-preserved
runs-preserved c =
    let moves = c.args.moves.now in
    let at = c.runs.at in
    let end = c.end_of_run-end.result in
    let run = c.end_of_run-end.ensures in
    record {
      within = run.within;
      listed = c.in_ok-split.ensures.listed;
      sound = λ m saturated apart.
          c.in_ok-split.ensures.sound m
          (run_sources moves at end run (λ j l. c.runs.invariant.earlier j at l (omega arith) c.runs-test.true) m saturated)
          (c.runs.invariant.sound m saturated apart);
      earlier = run_earlier moves at end run c.runs.invariant.earlier;
    }
