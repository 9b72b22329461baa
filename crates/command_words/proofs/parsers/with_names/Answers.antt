use Rattle.std.proofs.Common.{◌∙◌, ap}
use Rattle.clap.specs.Simple.{app_of, with_rule}
use Rattle.command_words.specs.Parsing.{rule_for}
use Rattle.command_words.proofs.FormRules.{one_name}
use Rattle.command_words.proofs.parsers.with_names.Goals as goal

pub loop-name-preserved : goal.loop-name-preserved
loop-name-preserved c =
    one_name (rule_for c.args.role) (λ name. name.now) (app_of c.loop-name.parser) (app_of c.in_ok-parser.parser) _ c.args.names.now
    c.loop-name.name-index c.loop-name-test.true
    (c.in_ok-parser.ensures.shape c.argument.ensures.own ∙ ap (with_rule (app_of c.loop-name.parser)) c.argument.ensures.rule) ∙ c.loop-name.invariant
