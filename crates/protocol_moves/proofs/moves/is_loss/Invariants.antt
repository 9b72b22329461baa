use Rattle.std.proofs.Common.{◌↔◌, length}
use Rattle.protocol_model.specs.Moves.{IsLoss}
use Rattle.protocol_moves.proofs.moves.is_loss.Given as goal

-- what is left of the lists differs as the lists do
abbrev pub invariant-same : goal.invariant-same
invariant-same l = IsLoss l.letters l.left l.kept ↔ IsLoss l.letters l.longer l.shorter

abbrev pub decreases-same : goal.decreases-same
decreases-same l = length l.left
