use Rattle.std.proofs.Common.{length}
use Rattle.atoms.specs.private.Rows.{AreNarrow, AreRowsOf}
use Rattle.atoms.proofs.RowsByState.{HaveRoom}
use Rattle.atoms.proofs.rows.rows_of.Given as goal

abbrev pub invariant-sets : goal.invariant-sets
invariant-sets l = record {
  narrow : AreNarrow (length l.sets) l.rows.items;
  rows : AreRowsOf l.used l.sets l.states l.number l.rows.items;
  room : HaveRoom l.used (length l.used) (length l.sets) l.rows.items;
}
