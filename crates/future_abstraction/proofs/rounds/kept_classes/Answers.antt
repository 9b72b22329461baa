use Rattle.std.proofs.Common.{◌≡◌, true, length, slice_index, below_more, arith}
use Rattle.future_abstraction.specs.private.Numbers.{is_kept, IsUnmoved}
use Rattle.future_abstraction.proofs.KeptClasses.{kept_stable}
use Rattle.future_abstraction.proofs.rounds.kept_classes.Goals as goal

pub states-preserved-then-is_unmoved : goal.states-preserved-then-is_unmoved
states-preserved-then-is_unmoved c =
    let m = c.args.automaton.now in
    let classes = c.args.classes.now in
    below_more (λ q. is_kept c.states.kept.items (slice_index classes q) ≡ true → IsUnmoved m c.args.older.now classes q) c.states.state c.states.invariant
    (λ noted. c.is_unmoved.ensures c.if-is_unmoved.true)

pub returns : goal.returns
returns c =
    let m = c.args.automaton.now in
    let end : c.states.state ≡ length m.states = (let a = c.states-state-end.ensures.count in omega arith) in
    kept_stable m c.args.older.now c.args.classes.now c.requires.older c.requires.split c.states.kept.items (λ q l noted. c.states.invariant q (omega arith) noted)
