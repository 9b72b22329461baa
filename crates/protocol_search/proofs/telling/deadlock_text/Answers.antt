use Rattle.std.proofs.Common.{sym, subst}
use Rattle.protocol_problem.specs.SystemTask.{deadlock_task}
use Rattle.refinement.specs.Verdicts.{IsSound}
use Rattle.protocol_search.specs.Runs.{AreStepWords}
use Rattle.protocol_search.proofs.ByAnalysis.{deadlock_words}
use Rattle.protocol_search.proofs.StepLemmas.{run-is}
use Rattle.protocol_search.proofs.telling.deadlock_text.Goals as goal

pub run_through-requires : goal.run_through-requires
run_through-requires c =
    let s = c.args.system.now in
    let sound = subst (λ v. IsSound (deadlock_task s) c.args.limit v) c.in-Unsafe.is c.requires in
    subst (AreStepWords s) (sym c.as_slice.ensures) (deadlock_words s c.in-Unsafe.words sound)

pub write_run-requires : goal.write_run-requires
write_run-requires c = run-is c.args.system.now c.as_slice.result.now c.in_ok-run-in-Unsafe.run' c.in_ok-run-in-Unsafe.ensures
