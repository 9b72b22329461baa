use Rattle.std.proofs.Common.{◌≡◌, ◌++◌, take, map}
use Rattle.std.specs.List.{flat_map}
use Rattle.protocol_layout.specs.Layout.{rule_words, line}
use Rattle.protocol_layout.proofs.write_rules.Given as goal

abbrev pub invariant-rules : goal.invariant-rules
invariant-rules l = l.out.items ≡ l.fn.out.items ++ flat_map line (map rule_words (take l.rule-index l.rules))
