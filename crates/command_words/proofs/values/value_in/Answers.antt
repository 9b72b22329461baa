use Rattle.std.proofs.Common.{◌∙◌}
use Rattle.command_words.proofs.values.value_in.Goals as goal

pub returns : goal.returns
returns c bound has plain = c.get_str.ensures ∙ has.values c.args.name.now plain
