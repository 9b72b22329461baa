use Rattle.std.proofs.Common.{◌∙◌, ap, codes}
use Rattle.command_words.specs.Words.{is_true}
use Rattle.command_words.proofs.values.report_in.Goals as goal

pub returns : goal.returns
returns c bound has = c.is_given.ensures ∙ ap is_true c.get_str.ensures ∙ has.flags (codes "report")
