use Rattle.std.proofs.Common.{◌≡◌, ◌++◌, take}
use Rattle.lines.proofs.bytes.after_prefix.Given as goal

abbrev pub invariant-bytes : goal.invariant-bytes
invariant-bytes l = l.text ≡ take l.byte-index l.prefix ++ l.rest
