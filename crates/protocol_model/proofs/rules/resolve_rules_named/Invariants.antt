use Rattle.std.proofs.Common.{◌≡◌, map, take}
use Rattle.protocol_model.specs.Numbering.{rule_of}
use Rattle.protocol_model.specs.Faults.{rule_fault}
use Rattle.protocol_model.proofs.Walk.{IsWalked}
use Rattle.protocol_model.proofs.rules.resolve_rules_named.Given as goal

abbrev pub invariant-rules : goal.invariant-rules
invariant-rules l =
    IsWalked (rule_fault l.sections) (rule_of l.sections) l.rules l.rule-index l.resolved.items
    × (l.names ≡ map (λ rule. rule.name.text) (take l.rule-index l.rules))
