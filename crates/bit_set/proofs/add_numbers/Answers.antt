use Rattle.std.proofs.Common.{ℕ, List, sym, subst}
use Rattle.bit_set.proofs.Sets.{HasNumbers, numbers_pushed}
use Rattle.bit_set.proofs.add_numbers.Goals as goal

pub bits-preserved : goal.bits-preserved
bits-preserved c =
    let old = c.args.numbers.now.items in
    let new = c.bits.numbers.items in
    let bit = c.lowest_bit-bit.result in
    let rest = c.without_bit-rest.result in
    let lowest = c.lowest_bit-bit.ensures in
    subst (λ (xs : List ℕ). HasNumbers old xs c.args.first c.args.word rest) (sym c.in_ok-push.ensures.items)
    (numbers_pushed old new c.args.first c.args.word c.bits.rest bit rest c.bits.invariant lowest.within lowest.bit c.without_bit-rest.ensures)
