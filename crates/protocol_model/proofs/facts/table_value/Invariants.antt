use Rattle.std.proofs.Common.{◌≡◌, drop}
use Rattle.protocol_model.specs.Moves.{table_value}
use Rattle.protocol_model.proofs.facts.table_value.Given as goal

-- what the table makes of the letter is decided by the entries that are left
abbrev pub invariant-entries : goal.invariant-entries
invariant-entries l = table_value l.table l.letter ≡ table_value (drop l.entry-index l.table) l.letter
