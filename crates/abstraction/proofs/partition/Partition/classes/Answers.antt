use Rattle.std.proofs.Common.{rules}
use Rattle.std.proofs.lemmas.Result.{IfOk-weaker}
use Rattle.abstraction.specs.FirstStates.{AreFirsts}
use Rattle.abstraction.specs.Partitions.{IsNumbering}
use Rattle.abstraction.proofs.Blocks.{numbered}
use Rattle.abstraction.proofs.partition.Partition.classes.Goals as goal

pub returns : goal.returns
returns c =
    IfOk-weaker c.first_states.result (λ firsts. AreFirsts c.args.self.now firsts.items) (λ classes. IsNumbering c.args.self.now classes.items)
    (λ firsts. numbered c.args.self.now firsts.items) (search rules)
