use Rattle.std.proofs.lemmas.Result.{IfOk-weaker}
use Rattle.bit_set.proofs.set_lists.empty_sets.Goals as goal

pub returns : goal.returns
returns c = IfOk-weaker c.copies.result _ _ (λ sets told. told c.args.bound c.in_ok-none.ensures.room) c.copies.ensures
