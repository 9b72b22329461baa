use Rattle.std.proofs.Common.{◌↔◌, ◌+◌, ℕ, List, ◌∷◌, [], None, IfOk, subst}
use Rattle.std.proofs.lemmas.Result.{IfOk-weaker}
use Rattle.transducers.specs.Transducer.{Relates}
use Rattle.transducers.specs.Combination.{exchange}
use Rattle.protocol_syntax.specs.declared.protocol.Move.TheVariants.{Set}
use Rattle.protocol_model.specs.Moves.{IsMove}
use Rattle.protocol_model.specs.Raised.{IsRaisedMove}
use Rattle.memory_moves.specs.private.Machine.{IsCopiedBetween}
use Rattle.memory_moves.proofs.MoveLemmas.{cell_relates}
use Rattle.memory_moves.proofs.compile_cell.Goals as goal
use Rattle.sequence.proofs.ForCallers.{joined}

pub returns-clause-relates : goal.returns-clause-relates
returns-clause-relates c =
    let alphabet = c.args.alphabet in
    let a = c.args.from in
    let b = c.args.to in
    IfOk-weaker c.copy_between.result
    (λ t. (u w : List ℕ) → Relates t u w ↔ IsCopiedBetween (exchange (a + alphabet.offset) (b + alphabet.offset) ∷ []) None alphabet.offset 0 u w)
    (λ t. (u w : List ℕ) → Relates t u w ↔ IsRaisedMove (IsMove (Set a b)) alphabet.offset alphabet.count u w)
    (λ t h u w. joined (h u w) (cell_relates alphabet.offset alphabet.count u w a b c.requires.valid.in_range))
    (subst (λ label. IfOk c.copy_between.result (λ t. (u w : List ℕ) → Relates t u w ↔ IsCopiedBetween (label ∷ []) None alphabet.offset 0 u w))
    c.exchange-change.ensures c.copy_between.ensures.relates)
