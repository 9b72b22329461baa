use Rattle.std.proofs.Common.{IsPermutation, sym, subst}
use Rattle.determinise.proofs.subset.in_order.Goals as goal

pub returns : goal.returns
returns c =
    subst (IsPermutation c.args.states.now) (sym c.from_vec.ensures)
    (subst (λ xs. IsPermutation xs c.sort_unstable.new.self.items) c.in_ok-ordered.ensures.items c.sort_unstable.ensures.permutation)
