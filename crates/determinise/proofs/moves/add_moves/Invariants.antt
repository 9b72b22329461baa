use Rattle.std.proofs.Common.{◌≡◌, ◌++◌, take}
use Rattle.std.specs.List.{filter_map}
use Rattle.determinise.specs.private.Subsets.{lettered_move}
use Rattle.determinise.proofs.moves.add_moves.Given as goal

abbrev pub invariant-edges : goal.invariant-edges
invariant-edges l = l.moves.items ≡ l.fn.moves.items ++ filter_map lettered_move (take l.letter-index l.edges)
