use Rattle.std.proofs.Common.{◌≡◌, ◌+◌, ◌≤◌, drop}
use Rattle.protocol_lexer.specs.Place.{place_after}
use Rattle.protocol_lexer.proofs.Place.after.Given as goal

abbrev pub invariant-bytes : goal.invariant-bytes
invariant-bytes l = record {
  rest : place_after l.place (drop l.b-index l.bytes) ≡ place_after l.fn.self l.bytes;
  line : l.place.line ≤ l.fn.self.line + l.b-index;
  column : l.place.column ≤ l.fn.self.column + l.b-index;
}
