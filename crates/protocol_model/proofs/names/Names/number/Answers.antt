use Rattle.std.proofs.Common.{rules}
use Rattle.std.specs.Str.{bytes_eq}
use Rattle.protocol_model.proofs.Lists.{position_is}
use Rattle.protocol_model.proofs.names.Names.number.Goals as goal

pub returns-in-Some : goal.returns-in-Some
returns-in-Some c =
    rw (← c.self.view_is, ← position_is (bytes_eq c.args.name.now) (λ key. key.now) c.self.inside.set.keys) (search rules)

pub returns-in-None : goal.returns-in-None
returns-in-None c =
    rw (← c.self.view_is, ← position_is (bytes_eq c.args.name.now) (λ key. key.now) c.self.inside.set.keys) (search rules)
