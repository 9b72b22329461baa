use Rattle.std.proofs.Common.{◌↔◌, ◌∷◌, [], ℕ, List, IfOk, sym, subst}
use Rattle.std.proofs.lemmas.Result.{IfOk-weaker}
use Rattle.sequence.proofs.ForCallers.{joined}
use Rattle.protocol_syntax.specs.declared.protocol.Move.TheVariants.{Exit}
use Rattle.protocol_model.specs.System.{IsValidMove}
use Rattle.protocol_model.specs.Moves.{IsMove, IsAtMove, IsLoss}
use Rattle.protocol_model.proofs.ForCallers.{raised_cut}
use Rattle.transducers.specs.Transducer.{Relates}
use Rattle.protocol_model.specs.Raised.{IsRaisedMove}
use Rattle.array_moves.proofs.compile_array.Goals as goal

pub returns-in-At-clause-relates : goal.returns-in-At-clause-relates
returns-in-At-clause-relates c =
    subst (λ m. IfOk c.compile_at.result (λ t. (u w : List ℕ) → Relates t u w ↔ IsRaisedMove (IsMove m) c.args.alphabet.offset c.args.alphabet.count u w))
    (sym c.in-At.is)
    (subst (λ guards. IfOk c.compile_at.result (λ t. (u w : List ℕ) → Relates t u w
    ↔ IsRaisedMove (IsAtMove c.in-At.from c.in-At.to guards c.in-At.map) c.args.alphabet.offset c.args.alphabet.count u w)) c.as_slice.ensures
    (subst (λ table. IfOk c.compile_at.result (λ t. (u w : List ℕ) → Relates t u w
    ↔ IsRaisedMove (IsAtMove c.in-At.from c.in-At.to c.as_slice.result.now table) c.args.alphabet.offset c.args.alphabet.count u w))
    c.as_slice-in-At.ensures
    c.compile_at.ensures.relates))

pub compile_channel-requires-clause-valid : goal.compile_channel-requires-clause-valid
compile_channel-requires-clause-valid c =
    let valid = subst (IsValidMove c.args.alphabet.count) c.in-Spawn.is c.requires.valid in
    record { in_range = valid.in_range; table_in_range = valid.table_in_range; table_distinct = valid.table_distinct; limits = valid.limits }

pub returns-in-Spawn-clause-relates : goal.returns-in-Spawn-clause-relates
returns-in-Spawn-clause-relates c =
    subst (λ m. IfOk c.compile_channel.result (λ t. (u w : List ℕ) → Relates t u w ↔ IsRaisedMove (IsMove m) c.args.alphabet.offset c.args.alphabet.count u w))
    (sym c.in-Spawn.is) c.compile_channel.ensures.relates

pub returns-in-Exit-clause-relates : goal.returns-in-Exit-clause-relates
returns-in-Exit-clause-relates c =
    let alphabet = c.args.alphabet in
    let a = c.in-Exit.letter in
    subst (λ m. IfOk c.compile_cut.result (λ t. (u w : List ℕ) → Relates t u w ↔ IsRaisedMove (IsMove m) alphabet.offset alphabet.count u w))
    (sym c.in-Exit.is)
    (IfOk-weaker c.compile_cut.result
    (λ t. (u w : List ℕ) → Relates t u w ↔ IsRaisedMove (IsLoss (a ∷ [])) alphabet.offset alphabet.count u w)
    (λ t. (u w : List ℕ) → Relates t u w ↔ IsRaisedMove (IsMove (Exit a)) alphabet.offset alphabet.count u w)
    (λ t h u w. joined (h u w) (raised_cut a alphabet.offset alphabet.count u w)) c.compile_cut.ensures.relates)
