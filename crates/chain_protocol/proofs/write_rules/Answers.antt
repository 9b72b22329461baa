use Rattle.std.proofs.Common.{◌∙◌, ◌++◌, ◌+◌, ap, string_bytes, decimal}
use Rattle.chain_protocol.specs.Chain.{rule_line}
use Rattle.chain_protocol.proofs.Joined.{joined_more, joined_none, rule_pieces}
use Rattle.chain_protocol.proofs.write_rules.Goals as goal

pub rules-init : goal.rules-init
rules-init c = joined_none rule_line (string_bytes c.args.text.now)

pub rules-preserved : goal.rules-preserved
rules-preserved c =
    let i = c.rules.i-counter in
    let written = c.in_ok-writeln.ensures.bytes ∙ ap (λ t. string_bytes c.rules.text ++ t) (rule_pieces (decimal i) (decimal (i + 1))) in
    joined_more rule_line (string_bytes c.args.text.now) (string_bytes c.rules.text) _ i c.rules.invariant written
