use Rattle.std.proofs.Common.{sym, subst, ◌∙◌}
use Rattle.transducers.specs.Transducer.{IsValid, Relates}
use Rattle.memory_moves.specs.private.Machine.{IsCopiedBetween}
use Rattle.memory_moves.proofs.MachineLemmas.{is_machine, IsValid-machine, Relates-machine}
use Rattle.memory_moves.proofs.machine.copy_between.Goals as goal

pub from_states-requires : goal.from_states-requires
from_states-requires c = let alphabet = c.args.alphabet in
    subst IsValid (sym (is_machine alphabet.letters alphabet.offset alphabet.count c.args.prefix.now c.args.suffix _ _ _
    c.in_ok-starts.ensures.items c.in_ok-states.ensures c.in_ok-push_end.ensures))
    (IsValid-machine alphabet.letters alphabet.offset alphabet.count c.args.prefix.now c.args.suffix c.requires.prefix c.requires.suffix
    c.requires.fits)

pub returns-clause-relates : goal.returns-clause-relates
returns-clause-relates c u w =
    let alphabet = c.args.alphabet in
    subst (λ t. (Relates t u w → IsCopiedBetween c.args.prefix.now c.args.suffix alphabet.offset alphabet.count u w)
    × (IsCopiedBetween c.args.prefix.now c.args.suffix alphabet.offset alphabet.count u w → Relates t u w))
    (sym (c.from_states.ensures ∙ is_machine alphabet.letters alphabet.offset alphabet.count c.args.prefix.now c.args.suffix _ _ _
    c.in_ok-starts.ensures.items c.in_ok-states.ensures c.in_ok-push_end.ensures))
    (Relates-machine alphabet.letters alphabet.offset alphabet.count c.args.prefix.now c.args.suffix u w)
