use Rattle.std.proofs.Common.{◌∙◌, subst, arith, length-set}
use Rattle.std.proofs.lemmas.List.{take_all}
use Rattle.protocol_moves.specs.private.Extents.{HaveExtents}
use Rattle.protocol_moves.proofs.TestedMove.{extents_push}
use Rattle.protocol_moves.proofs.moves.guard_extents.Goals as goal

pub guards-preserved : goal.guards-preserved
guards-preserved c =
    let l = c.guards in (
      extents_push c.args.guards.now l.extents c.args.list.now l.k c.index-guards-k.result c.guard_extent.result
          c.guards-test.true (omega (arith, c.guards-test.true, c.requires, l.invariant.1)) c.index-guards-k.is l.invariant.0 c.guard_extent.ensures,
      length-set l.extents l.k c.guard_extent.result ∙ l.invariant.1,
    )

pub returns : goal.returns
returns c =
    let l = c.guards in
    subst (λ guards. HaveExtents guards l.extents c.args.list.now)
    (take_all l.k c.args.guards.now (omega (arith, c.guards-test.false))) l.invariant.0
