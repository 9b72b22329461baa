use Rattle.std.proofs.Common.{◌≡◌, ℕ, List, IsPermutation, filter, rules, subst}
use Rattle.std.specs.List.Sorted.{IsStableByKey}
use Rattle.std.specs.Ordering.{nat_cmp}
use Rattle.std.proofs.lemmas.List.Sorted.{answers_always, IsNonDecreasingBy-from_sort_by_key}
use Rattle.certificate_writing.specs.private.IndexedWritingParts.{has_target}
use Rattle.certificate_writing.proofs.IndexedTextLemmas.{stable_by_target}
use Rattle.certificate_writing.proofs.indexed_writing.by_target.Goals as goal

pub returns : goal.returns
returns c =
    let sorted = c.sort_by_key.new.self.items in
    let stable : IsStableByKey (λ (edge : ℕ × ℕ). edge.1) nat_cmp c.in_ok-sorted.sorted.items sorted =
    c.sort_by_key.ensures.stable (λ edge. edge.1) (answers_always _ _ _ (λ f a r next called. search rules)) in
    record {
      permutation = subst (λ (edges : List (ℕ × ℕ)). IsPermutation edges sorted) c.in_ok-sorted.ensures.items c.sort_by_key.ensures.permutation;
      in_order = IsNonDecreasingBy-from_sort_by_key (λ edge. edge.1) c.sort_by_key.new.self.items c.in_ok-sort_by_key.ensures.sorted (λ a r q k. search rules);
      stable =
          subst (λ (edges : List (ℕ × ℕ)). (q : ℕ) → filter (has_target q) sorted ≡ filter (has_target q) edges) c.in_ok-sorted.ensures.items
          (stable_by_target c.in_ok-sorted.sorted.items sorted stable);
    }
