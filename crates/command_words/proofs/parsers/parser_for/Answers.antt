use Rattle.std.proofs.Common.{◌≡◌, [], true, rules, codes}
use Rattle.std.proofs.lemmas.Result.{IfOk-weaker}
use Rattle.clap.specs.Simple.{app_of, new_shape}
use Rattle.command_words.specs.Parsing.{form_as_words, parser_of}
use Rattle.command_words.proofs.FormRules.{made, with_rules}
use Rattle.command_words.proofs.parsers.parser_for.Goals as goal

pub returns : goal.returns
returns c =
    let form = form_as_words c.args.form in
    let start : app_of c.disable_help_flag-parser.result ≡ with_rules (record (new_shape (codes "armc")) { disable_help_flag = true }) [] = search rules in
    IfOk-weaker c.with_names-3.result _ (λ parser. app_of parser ≡ parser_of form)
    (λ parser is. made form _ _ _ _ start c.in_ok-parser.ensures c.in_ok-parser-2.ensures is) c.with_names-3.ensures
