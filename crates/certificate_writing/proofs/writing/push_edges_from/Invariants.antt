use Rattle.std.proofs.Common.{◌≡◌, ◌++◌, take}
use Rattle.certificate.specs.SafeText.{lines_text}
use Rattle.certificate_writing.specs.Writing.{lines_from}
use Rattle.certificate_writing.proofs.writing.push_edges_from.Given as goal

abbrev pub invariant-edges : goal.invariant-edges
invariant-edges l = l.text.items ≡ l.fn.text.items ++ lines_text l.alphabet (lines_from l.from (take l.edge-index l.edges))
