use Rattle.std.proofs.Common.{length, OnOk, Ok, Err}
use Rattle.minimise.specs.private.Splitters.{AreSources, SplitsSoundly, target_of}
use Rattle.minimise.proofs.MovedSources.{moved_soundly}
use Rattle.minimise.proofs.splitters.split.Goals as goal

pub returns-clause-sound : goal.returns-clause-sound
returns-clause-sound c =
    let old = c.args.classes.now.items in
    let new = c.move_sources.new.classes.items in
    let moves = c.args.moves.now in
    let sound = moved_soundly (target_of c.targets.result.now (length c.args.members.now.items)) moves old new c.in_ok-move_sources.ensures.moved in
    elim c.settle.result as (λ r. OnOk r (SplitsSoundly (λ m. AreSources m moves) old new)) [ Ok x ↦ sound | Err e ↦ tt ]
