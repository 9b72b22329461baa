use Rattle.std.proofs.Common.{◌≡◌, ◌++◌, None, drop}
use Rattle.certificate_writing.specs.private.IndexedWritingParts.{sorted_text}
use Rattle.certificate_writing.proofs.indexed_writing.push_sorted.Given as goal

abbrev pub invariant-edges : goal.invariant-edges
invariant-edges l =
    l.text.items ++ sorted_text l.indices l.from l.line (drop l.edge-index l.edges)
    ≡ l.fn.text.items ++ sorted_text l.indices l.from None l.edges
