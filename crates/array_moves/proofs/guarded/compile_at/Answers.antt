use Rattle.std.proofs.Common.{◌↔◌, length, arith, sym, ap, subst, ◌∙◌}
use Rattle.transducers.specs.Transducer.{Relates}
use Rattle.protocol_model.specs.Moves.{IsAtMove}
use Rattle.protocol_model.specs.Raised.{IsRaisedMove}
use Rattle.array_moves.specs.private.ControlStates.{starts_of}
use Rattle.array_moves.proofs.MachineLemmas.{has_room, at_machine}
use Rattle.array_moves.proofs.guarded.compile_at.Goals as goal

pub states-requires : goal.states-requires
states-requires c =
    has_room c.args.from c.args.into c.args.guards.now c.args.table.now c.args.alphabet.offset c.args.alphabet.count c.in_ok-guard_table.guard_table
    c.in_ok-guard_table.ensures c.requires.valid (omega (arith, c.requires.fits))

pub from_states-requires : goal.from_states-requires
from_states-requires c =
    let alphabet = c.args.alphabet in
    (at_machine c.args.from c.args.into c.args.guards.now c.args.table.now alphabet.count c.in_ok-guard_table.guard_table
    c.in_ok-guard_table.ensures alphabet.offset c.in_ok-states.ensures.0 c.in_ok-states.states.items c.in_ok-states.ensures.1 c.requires.valid
    alphabet.letters c.requires.fits c.in_ok-starts.starts.items
    (c.in_ok-starts.ensures ∙ ap (λ l. starts_of (length l)) c.as_slice.ensures.value)).0

pub returns-clause-relates : goal.returns-clause-relates
returns-clause-relates c u w =
    let alphabet = c.args.alphabet in
    subst (λ t. Relates t u w ↔ IsRaisedMove (IsAtMove c.args.from c.args.into c.args.guards.now c.args.table.now) alphabet.offset alphabet.count u w)
    (sym c.from_states.ensures)
    ((at_machine c.args.from c.args.into c.args.guards.now c.args.table.now alphabet.count c.in_ok-guard_table.guard_table
    c.in_ok-guard_table.ensures alphabet.offset c.in_ok-states.ensures.0 c.in_ok-states.states.items c.in_ok-states.ensures.1 c.requires.valid
    alphabet.letters c.requires.fits c.in_ok-starts.starts.items
    (c.in_ok-starts.ensures ∙ ap (λ l. starts_of (length l)) c.as_slice.ensures.value)).1 u w)
