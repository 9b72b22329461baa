use Rattle.std.proofs.Common.{◌≡◌, ◌++◌, string_bytes}
use Rattle.chain_protocol.specs.Chain.{joined, next_letter}
use Rattle.chain_protocol.proofs.write_letters.Given as goal

abbrev pub invariant-letters : goal.invariant-letters
invariant-letters l = string_bytes l.text ≡ string_bytes l.fn.text ++ joined next_letter l.i-counter
