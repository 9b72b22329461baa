use Rattle.std.proofs.Common.{◌∙◌, sym}
use Rattle.command_words.proofs.Digits.{parsed}
use Rattle.command_words.proofs.values.number_of.Goals as goal

pub unreachable-requires : goal.unreachable-requires
unreachable-requires c = cc (sym c.in-Err.is ∙ parsed c.args.word.now c.parse.result c.parse.ensures.value.0 c.requires)

pub returns : goal.returns
returns c = cc (sym c.in-Ok.is ∙ parsed c.args.word.now c.parse.result c.parse.ensures.value.0 c.requires)
