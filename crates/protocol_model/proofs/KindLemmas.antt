-- What the kinds tell of the sections to which a move belongs.
use Rattle.std.proofs.Common.{◌≡◌, Bool, true, false, refl}
use Rattle.protocol_syntax.specs.declared.protocol.Kind.{Kind}
use Rattle.protocol_syntax.specs.declared.protocol.Kind.TheVariants.{Cell, Array, Channel, Stack, LossyChannel}
use Rattle.protocol_model.specs.Patterns.{has_any_length}

clash : (b : Bool) → b ≡ false → b ≡ true → ⊥
clash b fails holds = cc

-- a kind that passes a test which cells do not pass has lists of any length
pub any_length : (test : Kind → Bool) (kind : Kind) → test Cell ≡ false → test kind ≡ true → has_any_length kind ≡ true
any_length test Cell fails holds = absurd (clash (test Cell) fails holds)
any_length test Array fails holds = refl
any_length test Channel fails holds = refl
any_length test Stack fails holds = refl
any_length test LossyChannel fails holds = refl
