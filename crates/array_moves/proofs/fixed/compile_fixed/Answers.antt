use Rattle.std.proofs.Common.{◌↔◌, ◌∙◌, sym, subst}
use Rattle.transducers.specs.Transducer.{IsValid, Relates}
use Rattle.protocol_model.specs.Moves.{IsMove}
use Rattle.protocol_model.specs.Raised.{IsRaisedMove}
use Rattle.array_moves.proofs.FixedLemmas.{fixed_machine}
use Rattle.array_moves.proofs.LetterLemmas.{machine_is}
use Rattle.array_moves.proofs.fixed.compile_fixed.Goals as goal

pub from_states-requires : goal.from_states-requires
from_states-requires c =
    let alphabet = c.args.alphabet in
    subst IsValid (machine_is alphabet.letters _ _ _ c.in_ok-starts.ensures.items c.in_ok-states.ensures)
    (fixed_machine c.args.step.now alphabet.offset alphabet.count alphabet.letters c.requires.two c.requires.valid c.requires.fits).0

pub returns-clause-relates : goal.returns-clause-relates
returns-clause-relates c u w =
    let alphabet = c.args.alphabet in
    subst (λ t. Relates t u w ↔ IsRaisedMove (IsMove c.args.step.now) alphabet.offset alphabet.count u w)
    (machine_is alphabet.letters _ _ _ c.in_ok-starts.ensures.items c.in_ok-states.ensures ∙ sym c.from_states.ensures)
    ((fixed_machine c.args.step.now alphabet.offset alphabet.count alphabet.letters c.requires.two c.requires.valid c.requires.fits).1 u w)
