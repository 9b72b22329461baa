use Rattle.std.proofs.Common.{◌≡◌, length, ◌+◌, ◌≤◌}
use Rattle.protocol_lexer.proofs.Taking.{Leads}
use Rattle.protocol_lexer.proofs.tokens.Given as goal

abbrev pub invariant-tokens : goal.invariant-tokens
invariant-tokens l = record {
  within : l.at + length l.rest ≡ length l.text;
  line : l.place.line ≤ l.at + 1;
  column : l.place.column ≤ l.at + 1;
  leads : Leads l.text l.found.items l.rest l.at l.place;
}

abbrev pub decreases-tokens : goal.decreases-tokens
decreases-tokens l = length l.rest
