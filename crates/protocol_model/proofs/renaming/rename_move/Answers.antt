use Rattle.std.proofs.Common.{subst}
use Rattle.protocol_syntax.specs.MoveLetters.{renamed}
use Rattle.protocol_syntax.specs.declared.protocol.Move.TheVariants.{At, Stack}
use Rattle.protocol_model.specs.Outcome.{IsOutcome}
use Rattle.protocol_model.proofs.MoveFaults.{at_fault, stack_fault}
use Rattle.protocol_model.proofs.renaming.rename_move.Goals as goal

pub returns-in-At : goal.returns-in-At
returns-in-At g c =
    let r = c.args.renaming.now in
    let m = c.in-At in
    rw m.is (subst (λ fault. IsOutcome fault (renamed (g.R.Renaming.number r) (g.R.MoveRenaming.numbers r) (At m.from m.to m.guards m.map)) c.rename_at.result)
    (at_fault (g.R.Renaming.fault r) (g.R.MoveRenaming.left_fault r) (g.R.MoveRenaming.letters r) m.from m.to m.guards m.map)
    (rw (c.as_slice.ensures, c.as_slice-in-At.ensures) at c.rename_at.ensures))

pub returns-in-Stack : goal.returns-in-Stack
returns-in-Stack g c =
    let r = c.args.renaming.now in
    let m = c.in-Stack in
    rw m.is (subst (λ fault. IsOutcome fault (renamed (g.R.Renaming.number r) (g.R.MoveRenaming.numbers r) (Stack m.pop m.push)) c.rename_stack.result)
    (stack_fault (g.R.Renaming.fault r) (g.R.MoveRenaming.left_fault r) (g.R.MoveRenaming.letters r) m.pop m.push) (rw c.as_slice-in-Stack.ensures at c.rename_stack.ensures))
