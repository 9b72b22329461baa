use Rattle.std.proofs.Common.{refl}
use Rattle.armc_io.proofs.FileLibraryLemmas.{ReadsFile-faults, ReadsFile-answer}
use Rattle.armc_io.proofs.file_library.FileLibraryLibrary.TheImpl.Goals as goal

pub read_all-tells : goal.read_all-tells
read_all-tells g c = record {
  told = refl;
  reliable = refl;
  faults = ReadsFile-faults c.args.self.now c.new.self.now c.args.name.now c.args.limit c.result c.ensures;
  answer = ReadsFile-answer c.args.self.now c.new.self.now c.args.name.now c.args.limit c.result c.ensures;
  no_fault = λ reliable told. absurd (cc);
}
