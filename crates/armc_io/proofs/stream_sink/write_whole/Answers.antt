use Rattle.std.proofs.Common.{◌-◌, arith, drop, take, length, take-add, take_all, length-drop, length-take}
use Rattle.std.specs.Io.KnownBytes.{Appends}
use Rattle.std.proofs.KnownBytes.{Appends-trans}
use Rattle.armc_io.proofs.stream_sink.write_whole.Goals as goal

pub bytes-preserved : goal.bytes-preserved
bytes-preserved g c =
    let rest = drop c.bytes.at c.args.bytes.now in
    let whole = take_all (length c.args.bytes.now - c.bytes.at) rest (omega (arith, length-drop c.bytes.at c.args.bytes.now)) in
    let more : Appends (g.W.Write.contents c.bytes.writer) (g.W.Write.contents c.write.new.self) (take c.in-Ok.n rest) =
    rw (← whole) c.in-Ok.ensures.bytes in
    record {
      within = grind (arith, length-drop, length-take, c.in-Ok.ensures.bound);
      written = rw take-add
          (Appends-trans _ _ _ (take c.bytes.at c.args.bytes.now) (take c.in-Ok.n rest) c.bytes.invariant.written more);
    }
