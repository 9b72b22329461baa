use Rattle.std.proofs.Common.{◌≤◌, ◌-◌, vec_len}
use Rattle.std.specs.Io.KnownBytes.{Consumes}
use Rattle.armc_io.proofs.file_library.read_up_to.Given as goal

abbrev pub invariant-chunks : goal.invariant-chunks
invariant-chunks g l = record {
  within : vec_len l.bytes ≤ l.most;
  read : Consumes (g.T.Read.remaining l.fn.reader) (g.T.Read.remaining l.reader) l.bytes.items;
}

abbrev pub decreases-chunks : goal.decreases-chunks
decreases-chunks g l = l.most - vec_len l.bytes
