use Rattle.std.proofs.Common.{rules, ◌+◌, ℕ, sym, subst}
use Rattle.std.proofs.lemmas.List.Sorted.{IsNonDecreasingBy-from_sort_by_key}
use Rattle.predicate_abstraction.specs.private.SharedWords.{AreEdgesByTarget}
use Rattle.predicate_abstraction.proofs.Sharing.{list_into, lists_none, lists_more}
use Rattle.predicate_abstraction.proofs.shared_words.edges_into.Goals as goal

pub states-init : goal.states-init
states-init c = lists_none c.args.a.now c.in_ok-incoming.ensures.valid c.in_ok-lists.lists.items c.in_ok-lists.ensures.items

pub states-preserved : goal.states-preserved
states-preserved c =
    let a = c.args.a.now in
    let edges = c.sort_unstable_by_key.new.self in
    subst (λ lists. AreEdgesByTarget a lists (c.states.state + 1)) (sym c.in_ok-push.ensures.items)
    (lists_more a c.states.lists.items c.states.state edges c.states.invariant
    (list_into a c.in_ok-incoming.incoming c.in_ok-incoming.ensures c.states.state c.new-edges.result.items c.put_into.new.found.items edges.items
    c.new-edges.ensures.items c.in_ok-put_into.ensures c.sort_unstable_by_key.ensures.permutation
    (IsNonDecreasingBy-from_sort_by_key (λ (move : ℕ × ℕ). move.0) _ c.sort_unstable_by_key.ensures.sorted (λ a r q k. search rules))))
