use Rattle.std.proofs.Common.{◌≡◌, ◌<◌, ℕ, false}
use Rattle.protocol_moves.specs.private.Gathering.{can_change_two}
use Rattle.protocol_moves.proofs.enabled.has_partner.Given as goal

-- no position before j is the partner
abbrev pub invariant-partners : goal.invariant-partners
invariant-partners l = (k : ℕ) → k < l.j → can_change_two l.a l.b l.list l.i k ≡ false
