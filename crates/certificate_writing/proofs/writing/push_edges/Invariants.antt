use Rattle.std.proofs.Common.{◌≡◌, ◌++◌, flat_map}
use Rattle.std.specs.List.{range_with_len}
use Rattle.certificate_writing.specs.private.WritingParts.{named_text_from}
use Rattle.certificate_writing.proofs.writing.push_edges.Given as goal

abbrev pub invariant-states : goal.invariant-states
invariant-states l = l.text.items ≡ l.fn.text.items ++ flat_map (named_text_from l.alphabet l.proof) (range_with_len 0 l.state)
