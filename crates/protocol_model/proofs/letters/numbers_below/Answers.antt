use Rattle.std.proofs.Common.{add-one, zero-add, refl}
use Rattle.protocol_model.proofs.Lists.{range_with_len_push}
use Rattle.protocol_model.proofs.letters.numbers_below.Goals as goal

pub numbers-preserved : goal.numbers-preserved
numbers-preserved c =
    rw (c.in_ok-push.ensures.items, c.numbers.invariant, add-one c.numbers.number, range_with_len_push 0 c.numbers.number, zero-add c.numbers.number) refl
