use Rattle.std.proofs.Common.{rules}
use Rattle.std.specs.Str.{bytes_eq}
use Rattle.protocol_model.proofs.Lists.{list_any_map}
use Rattle.protocol_model.proofs.names.Names.add.Goals as goal

pub returns-clause-added : goal.returns-clause-added
returns-clause-added c =
    rw (← c.self.view_is, list_any_map (bytes_eq c.args.name.now) (λ key. key.now) c.self.inside.set.keys) (search rules)
