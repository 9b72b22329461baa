use Rattle.std.proofs.Common.{◌≡◌, ◌++◌, string_bytes}
use Rattle.chain_protocol.specs.Chain.{joined, rule_line}
use Rattle.chain_protocol.proofs.write_rules.Given as goal

abbrev pub invariant-rules : goal.invariant-rules
invariant-rules l = string_bytes l.text ≡ string_bytes l.fn.text ++ joined rule_line l.i-counter
