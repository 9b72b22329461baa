use Rattle.std.proofs.Common.{rules}
use Rattle.std.proofs.lemmas.List.Sorted.{IsNonDecreasingBy-from_sort_by_key}
use Rattle.boolean_operations.proofs.SearchCalls.{in_order_sorted}
use Rattle.boolean_operations.proofs.search.sort.Goals as goal

pub returns-clause-in_order : goal.returns-clause-in_order
returns-clause-in_order g c =
    in_order_sorted c.sort_by_key.new.self.items (IsNonDecreasingBy-from_sort_by_key (λ step. step.0) _ c.in_ok-sort_by_key.ensures.sorted (λ a r q k. search rules))
