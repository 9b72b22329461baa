use Rattle.std.proofs.Common.{sym}
use Rattle.armc_io.proofs.MemoryLibraryLemmas.{text_of-named_bytes}
use Rattle.armc_io.proofs.memory_library.MemoryLibrary.find.Goals as goal

pub returns : goal.returns
returns c =
    rw (c.first_text.ensures, c.deref.ensures.value, ← c.self.view_is)
    (sym (text_of-named_bytes c.self.inside.texts.items c.args.name.now))
