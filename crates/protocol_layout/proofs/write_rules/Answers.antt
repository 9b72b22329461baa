use Rattle.protocol_layout.specs.Layout.{line, rule_words}
use Rattle.protocol_layout.proofs.WordsWritten.{each_more, each_all}
use Rattle.protocol_layout.proofs.write_rules.Goals as goal

pub rules-preserved : goal.rules-preserved
rules-preserved c =
    each_more line rule_words c.args.rules.now c.rules.rule-index c.rule-item.result c.args.out.now.items c.rules.out.items c.write_rule.new.out.items
    c.rules-test.true c.rule-item.is c.rules.invariant c.in_ok-write_rule.ensures

pub returns : goal.returns
returns c = each_all line rule_words c.args.rules.now c.rules.rule-index c.args.out.now.items c.rules.out.items c.rules-test.false c.rules.invariant
