use Rattle.std.proofs.Common.{ap, length, ◌==◌}
use Rattle.armc_io.specs.MemoryLibrary.{text_of}
use Rattle.armc_io.proofs.MemoryLibraryLemmas.{ReadsContents-kept, ReadsContents-faults, ReadsContents-answer, ReadsContents-no_fault}
use Rattle.armc_io.proofs.memory_library.MemoryLibraryLibrary.TheImpl.Goals as goal

pub read_all-tells : goal.read_all-tells
read_all-tells c =
    let kept = ReadsContents-kept c.args.self.now c.new.self.now c.args.name.now c.args.limit c.result c.ensures in
    record {
      told = ap text_of kept.0;
      reliable = ap (λ failing. length failing == 0) kept.1;
      faults = ReadsContents-faults c.args.self.now c.new.self.now c.args.name.now c.args.limit c.result c.ensures;
      answer = ReadsContents-answer c.args.self.now c.new.self.now c.args.name.now c.args.limit c.result c.ensures;
      no_fault = ReadsContents-no_fault c.args.self.now c.new.self.now c.args.name.now c.args.limit c.result c.ensures;
    }
