use Rattle.std.proofs.Common.{◌≡◌, drop}
use Rattle.std.specs.List.{list_any, AllByRecursion}
use Rattle.protocol_model.specs.Patterns.{row_matches}
use Rattle.protocol_steps.proofs.Fitting.{HasShortPatterns}
use Rattle.protocol_steps.proofs.rows.some_row_matches.Given as goal

-- whether some row matches is decided by the rows that are left
abbrev pub invariant-rows : goal.invariant-rows
invariant-rows l =
    (list_any (row_matches l.c) l.rows ≡ list_any (row_matches l.c) (drop l.row-index l.rows))
    × AllByRecursion HasShortPatterns (drop l.row-index l.rows)
