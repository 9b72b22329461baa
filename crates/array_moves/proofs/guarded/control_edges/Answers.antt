use Rattle.std.proofs.Common.{◌∷◌, [], ◌++◌, sym, ap, subst, ◌∙◌}
use Rattle.array_moves.specs.private.ControlStates.{ControlEdges}
use Rattle.array_moves.proofs.ControlLemmas.{ControlEdges-still, ControlEdges-moving}
use Rattle.array_moves.proofs.guarded.control_edges.Goals as goal
use Rattle.array_moves.proofs.guarded.control_edges.Goals.{in-Some+in_ok-target+in_ok-push, in_default}

pub returns : goal.returns
returns c =
    elim c.match-after_move.branch [
      | in-Some+in_ok-target+in_ok-push w ↦ rw (w.controls-is, w.edges-is)
          (subst (ControlEdges c.args.guard_table.now c.args.alphabet.offset c.args.alphabet.count c.args.control c.args.controls.now.keys
          w.number.new.controls.keys)
          (sym (w.in_ok-push.ensures.items ∙ ap (λ l. c.in_ok-edges.edges.items ++ (l, w.in_ok-target.target)
          ∷ []) w.exchange-label.ensures))
          (ControlEdges-moving c.args.guard_table.now c.args.alphabet.offset c.args.control c.args.alphabet.count _ _ _ c.in_ok-edges.ensures _ _ _
          (sym w.in-Some.ensures) w.in_ok-target.ensures))
      | in_default w ↦ rw (w.controls-is, w.edges-is)
          (ControlEdges-still c.args.guard_table.now c.args.alphabet.offset c.args.control c.args.alphabet.count _ _ _ c.in_ok-edges.ensures
          (sym w.in_default.ensures))
    ]
