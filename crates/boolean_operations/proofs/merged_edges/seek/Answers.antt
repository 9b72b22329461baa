use Rattle.std.proofs.Common.{sym}
use Rattle.word_automata.proofs.ForCallers.{find_target_at, find_target_gap}
use Rattle.boolean_operations.proofs.merged_edges.seek.Goals as goal

pub returns-in-Ok : goal.returns-in-Ok
returns-in-Ok c = sym (find_target_at c.args.edges.now c.requires c.args.letter c.in-Ok.at c.in-Ok.ensures.found)

pub returns-in-Err : goal.returns-in-Err
returns-in-Err c = sym (find_target_gap c.args.edges.now c.args.letter _ c.in-Err.ensures.absent)
