use Rattle.std.proofs.Common.{◌≡◌}
use Rattle.determinise.proofs.lists_in_turns.Given as goal

abbrev pub invariant-turns : goal.invariant-turns
invariant-turns l = l.turns.lists.subsets.now ≡ l.fn.found.subsets.now
