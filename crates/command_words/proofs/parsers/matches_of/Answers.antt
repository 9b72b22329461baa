use Rattle.std.proofs.Common.{◌∙◌, ap}
use Rattle.std.proofs.lemmas.Result.{IfOk-weaker}
use Rattle.clap.specs.Faults.{is_simple_and_free}
use Rattle.command_words.specs.Parsing.{form_as_words}
use Rattle.command_words.proofs.FormMatches.{formed}
use Rattle.command_words.proofs.Given.{from_matches}
use Rattle.command_words.proofs.parsers.matches_of.Goals as goal

pub matches_on-requires : goal.matches_on-requires
matches_on-requires c =
    ap is_simple_and_free c.in_ok-parser.ensures ∙ (formed c.requires.0 (form_as_words c.args.form) c.requires.1).is_simple

pub returns : goal.returns
returns c =
    IfOk-weaker c.matches_on.result _ _
    (λ found has.
    from_matches c.requires.0 (form_as_words c.args.form) c.in_ok-parser.parser c.args.words.now found c.in_ok-parser.ensures c.requires.1 has)
    c.matches_on.ensures.refused
