use Rattle.std.proofs.Common.{◌≡◌, ◌+◌, ◌/◌, length}
use Rattle.atoms.proofs.RowsByState.{IsSignatureOfFirst}
use Rattle.atoms.proofs.rows.Atoms.signature.Given as goal

abbrev pub invariant-states : goal.invariant-states
invariant-states l = record {
  numbers : IsSignatureOfFirst l.self l.states l.state-index l.signature;
  room : length l.signature ≡ l.self-inside.count / 64 + 1;
}
