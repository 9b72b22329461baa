use Rattle.std.proofs.Common.{length, subst}
use Rattle.atoms.specs.private.Rows.{AreRowsOf}
use Rattle.atoms.proofs.RowsByState.{rows_atoms}
use Rattle.atoms.proofs.rows.atoms_of.Goals as goal

pub returns : goal.returns
returns c =
    let n = c.args.automaton.now in
    let sets = c.args.sets.now in
    let rows = c.in_ok-rows.rows.items in
    rows_atoms n c.args.used.now sets rows c.requires.covers
    (subst (λ k. AreRowsOf c.args.used.now sets k (length sets) rows) c.states.ensures.count c.in_ok-rows.ensures.rows)
