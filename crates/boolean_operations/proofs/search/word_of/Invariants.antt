use Rattle.std.proofs.Common.{length, ◌≤◌, ◌++◌, ℕ, List}
use Rattle.boolean_operations.specs.private.Search.{Spells}
use Rattle.boolean_operations.proofs.search.word_of.Given as goal

abbrev pub invariant-back : goal.invariant-back
invariant-back l = record {
  within : l.at ≤ length l.steps;
  rest : (u : List ℕ) → Spells l.steps u l.at → Spells l.steps (l.word.items ++ u) l.group;
}

abbrev pub decreases-back : goal.decreases-back
decreases-back l = l.at
