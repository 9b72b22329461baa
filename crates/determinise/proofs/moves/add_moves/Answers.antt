use Rattle.std.proofs.Common.{ℕ, [], ◌∷◌, ◌++◌, ap, ◌∙◌}
use Rattle.determinise.proofs.MoveLists.{lettered_more, silent_more}
use Rattle.determinise.proofs.moves.add_moves.Goals as goal
use Rattle.determinise.proofs.moves.add_moves.Goals.{in-Some+in_ok-to+in_ok-push, in_default}

pub edges-preserved : goal.edges-preserved
edges-preserved c =
    elim c.match-letter.branch [
      | in-Some+in_ok-to+in_ok-push w ↦
          ap (λ moves. moves.items) w.moves-is ∙ w.in_ok-push.ensures.items
          ∙ ap (λ (to : ℕ). c.edges.moves.items ++ (w.in-Some.letter, to) ∷ []) w.in_ok-to.ensures
          ∙ lettered_more c.args.moves.now.items c.args.edges.now c.edges.letter-index c.edges-test.true c.edges.moves.items c.edges.invariant w.in-Some.letter w.in-Some.is
      | in_default w ↦
          ap (λ moves. moves.items) w.moves-is
          ∙ silent_more c.args.moves.now.items c.args.edges.now c.edges.letter-index c.edges-test.true c.edges.moves.items c.edges.invariant w.in_default.is
    ]
