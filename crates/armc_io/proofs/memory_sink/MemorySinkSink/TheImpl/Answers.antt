use Rattle.std.proofs.Common.{◌≤◌, sym, subst}
use Rattle.armc_io.specs.Sink.{PutAnswers, FitsWithoutFault}
use Rattle.armc_io.specs.MemorySink.{SinkContents, sink_state}
use Rattle.armc_io.proofs.MemorySinkLemmas.{after_put-faults, after_put-answer, after_put-no_fault}
use Rattle.armc_io.proofs.memory_sink.MemorySinkSink.TheImpl.Goals as goal

pub put-tells : goal.put-tells
put-tells c =
    let old : SinkContents = c.args.self.now in
    let bytes = c.args.bytes.now in
    let is = sym c.ensures.after in
    record {
      faults = subst (λ (new : SinkContents). old.faults ≤ new.faults) is (after_put-faults old bytes);
      answer = subst (λ new. PutAnswers (sink_state old) (sink_state new) bytes c.result) is
          (after_put-answer old bytes c.result c.ensures.answer);
      no_fault = subst (λ new. FitsWithoutFault (sink_state old) (sink_state new) bytes) is (after_put-no_fault old bytes);
    }
