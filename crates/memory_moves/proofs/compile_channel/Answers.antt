use Rattle.std.proofs.Common.{◌↔◌, ◌+◌, ◌<◌, ℕ, List, ◌∷◌, [], Some, None, IfOk, sym, subst}
use Rattle.std.proofs.lemmas.Result.{IfOk-weaker}
use Rattle.transducers.specs.Transducer.{Relates}
use Rattle.protocol_syntax.specs.declared.protocol.Move.TheVariants.{Send, Recv}
use Rattle.protocol_model.specs.System.{IsValidMove}
use Rattle.protocol_model.specs.Moves.{IsMove, IsLoss}
use Rattle.protocol_model.specs.Raised.{IsRaisedMove}
use Rattle.memory_moves.specs.private.Machine.{IsCopiedBetween, reading, writing}
use Rattle.memory_moves.proofs.MoveLemmas.{send_relates, receive_relates}
use Rattle.memory_moves.proofs.compile_channel.Goals as goal
use Rattle.sequence.proofs.ForCallers.{joined}

pub returns-in-Send-clause-relates : goal.returns-in-Send-clause-relates
returns-in-Send-clause-relates c =
    let alphabet = c.args.alphabet in
    let a = c.in-Send.letter in
    let valid : a < alphabet.count = (subst (IsValidMove alphabet.count) c.in-Send.is c.requires.valid).in_range.0 in
    subst (λ m. IfOk c.copy_between.result (λ t. (u w : List ℕ) → Relates t u w ↔ IsRaisedMove (IsMove m) alphabet.offset alphabet.count u w))
    (sym c.in-Send.is)
    (IfOk-weaker c.copy_between.result
    (λ t. (u w : List ℕ) → Relates t u w ↔ IsCopiedBetween [] (Some (writing (a + alphabet.offset))) alphabet.offset alphabet.count u w)
    (λ t. (u w : List ℕ) → Relates t u w ↔ IsRaisedMove (IsMove (Send a)) alphabet.offset alphabet.count u w)
    (λ t h u w. joined (h u w) (send_relates alphabet.offset alphabet.count u w a valid))
    (subst (λ label. IfOk c.copy_between.result (λ t. (u w : List ℕ) → Relates t u w
    ↔ IsCopiedBetween [] (Some label) alphabet.offset alphabet.count u w)) c.writing-sent.ensures c.copy_between.ensures.relates))

pub returns-in-Recv-clause-relates : goal.returns-in-Recv-clause-relates
returns-in-Recv-clause-relates c =
    let alphabet = c.args.alphabet in
    let a = c.in-Recv.letter in
    let result = c.copy_between-in-Recv.result in
    let valid : a < alphabet.count = (subst (IsValidMove alphabet.count) c.in-Recv.is c.requires.valid).in_range.0 in
    subst (λ m. IfOk result (λ t. (u w : List ℕ) → Relates t u w ↔ IsRaisedMove (IsMove m) alphabet.offset alphabet.count u w)) (sym c.in-Recv.is)
    (IfOk-weaker result
    (λ t. (u w : List ℕ) → Relates t u w ↔ IsCopiedBetween (reading (a + alphabet.offset) ∷ []) None alphabet.offset alphabet.count u w)
    (λ t. (u w : List ℕ) → Relates t u w ↔ IsRaisedMove (IsMove (Recv a)) alphabet.offset alphabet.count u w)
    (λ t h u w. joined (h u w) (receive_relates alphabet.offset alphabet.count u w a valid))
    (subst (λ label. IfOk result (λ t. (u w : List ℕ) → Relates t u w
    ↔ IsCopiedBetween (label ∷ []) None alphabet.offset alphabet.count u w)) c.reading-received.ensures c.copy_between-in-Recv.ensures.relates))

pub returns-in-Lose-clause-relates : goal.returns-in-Lose-clause-relates
returns-in-Lose-clause-relates c =
    let alphabet = c.args.alphabet in
    subst (λ m. IfOk c.compile_cut.result (λ t. (u w : List ℕ) → Relates t u w ↔ IsRaisedMove (IsMove m) alphabet.offset alphabet.count u w))
    (sym c.in-Lose.is)
    (subst (λ set. IfOk c.compile_cut.result (λ t. (u w : List ℕ) → Relates t u w ↔ IsRaisedMove (IsLoss set) alphabet.offset alphabet.count u w))
    c.as_slice.ensures c.compile_cut.ensures.relates)
