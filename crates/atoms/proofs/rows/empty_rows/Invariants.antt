use Rattle.atoms.specs.private.Rows.{AreNarrow, AreEmptyRows}
use Rattle.atoms.proofs.rows.empty_rows.Given as goal

abbrev pub invariant-used : goal.invariant-used
invariant-used l = record {
  narrow : AreNarrow l.count l.rows.items;
  rows : AreEmptyRows l.used l.state-index l.states l.count l.rows.items;
}
