use Rattle.std.proofs.Common.{◌↔◌, IsTrue, sym, subst}
use Rattle.protocol_model.specs.Moves.{IsMove}
use Rattle.protocol_model.proofs.ForCallers.{cut_is_loss}
use Rattle.protocol_moves.proofs.moves.is_move.Goals as goal

pub returns-in-Exit : goal.returns-in-Exit
returns-in-Exit c =
    let same = cut_is_loss c.in-Exit.letter c.args.old.now c.args.new.now in
    subst (λ m. IsTrue c.is_loss.result ↔ IsMove m c.args.old.now c.args.new.now) (sym c.in-Exit.is)
    (λ h. same.1 (c.is_loss.ensures.0 h), λ m. c.is_loss.ensures.1 (same.0 m))
