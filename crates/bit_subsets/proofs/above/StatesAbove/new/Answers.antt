use Rattle.std.proofs.lemmas.List.Sorted.{Contains-permutation, IsPermutation-sym}
use Rattle.bit_subsets.proofs.above.StatesAbove.new.Goals as goal

pub invariant_of-result : goal.invariant_of-result
invariant_of-result c =
    let old = c.in_ok-listed.listed.items in
    let new = c.sort_unstable_by_key.new.self.items in
    record { different = λ p q there. (c.in_ok-listed.ensures p q (Contains-permutation new old (p, q) (IsPermutation-sym old new c.sort_unstable_by_key.ensures.permutation) there)).1 }

pub returns : goal.returns
returns c p q there =
    let old = c.in_ok-listed.listed.items in
    let new = c.sort_unstable_by_key.new.self.items in
    (c.in_ok-listed.ensures p q (Contains-permutation new old (p, q) (IsPermutation-sym old new c.sort_unstable_by_key.ensures.permutation) there)).0
