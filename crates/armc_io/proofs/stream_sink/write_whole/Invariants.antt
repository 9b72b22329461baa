use Rattle.std.proofs.Common.{◌≤◌, ◌-◌, length, take}
use Rattle.std.specs.Io.KnownBytes.{Appends}
use Rattle.armc_io.proofs.stream_sink.write_whole.Given as goal

abbrev pub invariant-bytes : goal.invariant-bytes
invariant-bytes g l = record {
  within : l.at ≤ length l.bytes;
  written : Appends (g.W.Write.contents l.fn.writer) (g.W.Write.contents l.writer) (take l.at l.bytes);
}

abbrev pub decreases-bytes : goal.decreases-bytes
decreases-bytes g l = length l.bytes - l.at
