use Rattle.std.proofs.Common.{◌≡◌, length, arith, ◌∷◌, [], ◌++◌, sym, slice_get, Some, ap, subst, ◌∙◌}
use Rattle.word_automata.specs.Path.{Node}
use Rattle.transducers.specs.declared.Label.{Label}
use Rattle.array_moves.proofs.ControlLemmas.{IsGrowing, IsGrowing-start, IsGrowing-more, IsMachine-end}
use Rattle.array_moves.proofs.guarded.reached_states.Goals as goal

pub controls-init : goal.controls-init
controls-init c = rw c.new-states.ensures.items (IsGrowing-start c.args.guard_table.now c.args.alphabet.offset c.args.alphabet.count _
    c.in_ok-number_first.ensures)

pub controls-preserved : goal.controls-preserved
controls-preserved c =
    let node : Node Label = record { accepting = c.is_final.result; edges = c.in_ok-edges.edges.items } in
    let at : slice_get c.controls.controls.keys (length c.controls.states.items) ≡ Some c.control_at-control.result =
    subst (λ n. slice_get c.controls.controls.keys n ≡ Some c.control_at-control.result) (c.len-in-controls-2.ensures
    ∙ c.controls.states.ok.0) c.control_at-control.ensures in
    subst (IsGrowing c.args.guard_table.now c.args.alphabet.offset c.args.alphabet.count c.control_edges.new.controls.keys)
    (sym (c.in_ok-push.ensures.items ∙ ap (λ n. c.controls.states.items ++ n ∷ []) c.new.ensures))
    (IsGrowing-more c.args.guard_table.now c.args.alphabet.offset c.args.alphabet.count c.controls.controls.keys c.control_edges.new.controls.keys
    c.controls.states.items c.control_at-control.result node
    c.controls.invariant at c.is_final.ensures c.in_ok-edges.ensures)

pub returns : goal.returns
returns c = (
  c.controls.controls.keys,
  IsMachine-end c.args.guard_table.now c.args.alphabet.offset c.args.alphabet.count _ _ c.controls.invariant (omega (arith, c.controls.states.ok.0)),
)
