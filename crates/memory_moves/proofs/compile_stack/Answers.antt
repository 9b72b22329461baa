use Rattle.std.proofs.Common.{◌↔◌, ℕ, List, None, IfOk, All, sym, ap, subst, ◌∙◌}
use Rattle.std.proofs.lemmas.Result.{IfOk-weaker}
use Rattle.transducers.specs.Transducer.{Relates}
use Rattle.protocol_syntax.specs.declared.protocol.Move.TheVariants.{Stack}
use Rattle.protocol_model.specs.System.{IsValidMove}
use Rattle.protocol_model.specs.Moves.{IsMove}
use Rattle.protocol_model.specs.Raised.{IsRaisedMove}
use Rattle.memory_moves.specs.private.Machine.{IsLabel, IsCopiedBetween, stack_prefix}
use Rattle.memory_moves.proofs.MoveLemmas.{stack_relates, stack_in_range}
use Rattle.memory_moves.proofs.compile_stack.Goals as goal
use Rattle.sequence.proofs.ForCallers.{joined}

pub copy_between-requires-clause-prefix : goal.copy_between-requires-clause-prefix
copy_between-requires-clause-prefix c = let alphabet = c.args.alphabet in
    subst (All (IsLabel alphabet.letters)) (sym (c.as_slice-in-Stack.ensures.value ∙ c.in_ok-prefix-in-Stack.ensures
    ∙ ap (λ push. stack_prefix alphabet.offset c.in-Stack.pop push) c.as_slice.ensures))
    (stack_in_range alphabet.offset alphabet.count alphabet.letters c.in-Stack.pop c.in-Stack.push c.requires.fits
    (subst (IsValidMove alphabet.count) c.in-Stack.is c.requires.valid).in_range)

pub returns-clause-relates : goal.returns-clause-relates
returns-clause-relates c =
    let alphabet = c.args.alphabet in
    subst (λ m. IfOk c.copy_between.result (λ t. (u w : List ℕ) → Relates t u w ↔ IsRaisedMove (IsMove m) alphabet.offset alphabet.count u w))
    (sym c.in-Stack.is)
    (IfOk-weaker c.copy_between.result
    (λ t. (u w : List ℕ) → Relates t u w
    ↔ IsCopiedBetween (stack_prefix alphabet.offset c.in-Stack.pop c.in-Stack.push) None alphabet.offset alphabet.count u w)
    (λ t. (u w : List ℕ) → Relates t u w ↔ IsRaisedMove (IsMove (Stack c.in-Stack.pop c.in-Stack.push)) alphabet.offset alphabet.count u w)
    (λ t h u w. joined (h u w) (stack_relates alphabet.offset alphabet.count u w c.in-Stack.pop c.in-Stack.push
    (subst (IsValidMove alphabet.count) c.in-Stack.is c.requires.valid).in_range))
    (subst (λ labels. IfOk c.copy_between.result (λ t. (u w : List ℕ) → Relates t u w
    ↔ IsCopiedBetween labels None alphabet.offset alphabet.count u w)) (c.as_slice-in-Stack.ensures.value ∙ c.in_ok-prefix-in-Stack.ensures
    ∙ ap (λ push. stack_prefix alphabet.offset c.in-Stack.pop push) c.as_slice.ensures) c.copy_between.ensures.relates))
