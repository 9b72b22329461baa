use Rattle.std.proofs.Common.{IsPermutation, ℕ, List, subst}
use Rattle.std.proofs.lemmas.Result.{IfOk-weaker}
use Rattle.determinise.specs.private.Subsets.{IsSubsetFrom}
use Rattle.bit_subsets.proofs.ForCallers.{AreStates-members}
use Rattle.determinise.proofs.Closures.{closed_in_order}
use Rattle.determinise.proofs.subset.subset_from.Goals as goal

pub close-requires-clause-states : goal.close-requires-clause-states
close-requires-clause-states c = AreStates-members c.args.automaton.now c.args.from.now c.in_ok-set.set.keys (λ q. (c.in_ok-set.ensures q).0) c.requires.states

pub returns : goal.returns
returns c =
    let n = c.args.automaton.now in
    let closed = c.close.new.set.keys in
    IfOk-weaker c.in_order.result (IsPermutation c.as_slice.result.now) (IsSubsetFrom n c.args.from.now)
    (λ ordered turned. closed_in_order n c.args.from.now c.in_ok-set.set.keys closed ordered c.in_ok-set.ensures c.in_ok-close.ensures.states c.in_ok-close.ensures.closure
    (subst (λ (xs : List ℕ). IsPermutation xs ordered) c.as_slice.ensures.keys turned)) c.in_order.ensures
