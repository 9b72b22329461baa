use Rattle.std.proofs.lemmas.List.Elements.{Contains-append_right}
use Rattle.determinise.proofs.maximal.has_one.Goals as goal

pub returns-else-has : goal.returns-else-has
returns-else-has c t = Contains-append_right c.args.before.now c.args.after.now c.args.state (c.has-else-has.ensures t)
