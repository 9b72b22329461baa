use Rattle.std.proofs.Common.{◌≡◌, ◌+◌, ℕ, List, [], Some, get_or, length, slice_get, sym, ap, subst, arith}
use Rattle.std.proofs.lemmas.Option.{slice_get-get_or}
use Rattle.boolean_operations.specs.private.Search.{Gathers}
use Rattle.boolean_operations.specs.private.PairGraph.{IsPair, IsStartPair, IsAmong, StartsAt}
use Rattle.boolean_operations.proofs.PairWalks.{gathers_none, gathered_states, gathered_members, start_more, starts_all}
use Rattle.boolean_operations.proofs.inclusion.PairGraphGraph.starts.Goals as goal

pub starts-init : goal.starts-init
starts-init g c =
    let n = g.A.FiniteAutomaton.automaton c.args.self.now.left.now in
    let m = c.args.self.now.right.now in
    subst (Gathers (IsPair n m) (IsAmong (StartsAt m) n.starts 0) []) (sym c.new-pairs.ensures.items)
    (gathers_none (IsPair n m) (IsAmong (StartsAt m) n.starts 0) [] (λ x is. let l = is.below in omega arith))

pub starts-preserved : goal.starts-preserved
starts-preserved g c =
    let n = g.A.FiniteAutomaton.automaton c.args.self.now.left.now in
    let m = c.args.self.now.right.now in
    let starts = c.starts-left-items.result.now in
    let k = c.starts.left-index in
    let p = get_or starts k 0 in
    let at : slice_get n.starts k ≡ Some p = subst (λ xs. slice_get xs k ≡ Some p) c.starts-left-items.ensures.starts (slice_get-get_or starts k 0 c.starts-test.true) in
    subst (Gathers (IsPair n m) (IsAmong (StartsAt m) n.starts (k + 1)) []) (sym c.in_ok-push.ensures.items)
    (start_more n m c.starts-left-items.ensures.in_range c.start_of-right.ensures.valid (rw c.start_of-right.ensures.value at c.start_of-right.ensures.state) c.starts.pairs.items k p
    c.start_of-right.result
    c.start_of-right.ensures.value at c.starts.invariant)

pub returns-clause-states : goal.returns-clause-states
returns-clause-states g c =
    let n = g.A.FiniteAutomaton.automaton c.args.self.now.left.now in
    let m = c.args.self.now.right.now in
    gathered_states (IsPair n m) (IsStartPair n m) c.starts.pairs.items
    (starts_all n m c.starts.pairs.items c.starts.left-index (omega (arith, ap (λ (xs : List ℕ). length xs) c.starts-left-items.ensures.starts, c.starts-test.false)) c.starts.invariant)

pub returns-clause-starts : goal.returns-clause-starts
returns-clause-starts g c =
    let n = g.A.FiniteAutomaton.automaton c.args.self.now.left.now in
    let m = c.args.self.now.right.now in
    gathered_members (IsPair n m) (IsStartPair n m) c.starts.pairs.items
    (starts_all n m c.starts.pairs.items c.starts.left-index (omega (arith, ap (λ (xs : List ℕ). length xs) c.starts-left-items.ensures.starts, c.starts-test.false)) c.starts.invariant)
