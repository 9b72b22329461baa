use Rattle.std.proofs.Common.{◌<◌, ◌++◌, ◌∷◌, [], None, eqb, length, take, get_or, sym, ap, subst, ◌∙◌, arith}
use Rattle.std.specs.Option.{option_eq}
use Rattle.std.proofs.lemmas.Bool.{not-false, not-true}
use Rattle.std.proofs.lemmas.List.{take_more, take_all}
use Rattle.reduction.specs.private.SilentMoves.{AddsLettered}
use Rattle.reduction.proofs.SilentMoves.{no_letter, some_letter, lettered_skip, lettered_more}
use Rattle.reduction.proofs.silent_edges.add_lettered.Goals as goal
use Rattle.reduction.proofs.silent_edges.add_lettered.Goals.{then-ne+in_ok-push, else-ne}

pub edges-preserved : goal.edges-preserved
edges-preserved c =
    let edges = c.args.edges.now in
    let old = c.args.moves.now.items in
    let i = c.edges.letter-index in
    let edge = get_or edges i (None, 0) in
    let lt : i < length edges = omega arith in
    elim c.if-ne.branch [
      | then-ne+in_ok-push w ↦
          rw (take_more edges i (None, 0) lt)
          (subst (λ xs. AddsLettered (take i edges ++ edge ∷ []) old xs) (sym (ap (λ v. v.items) w.moves-is ∙ w.in_ok-push.ensures.items))
          (lettered_more (take i edges) old c.edges.moves.items edge c.edges.invariant
          (some_letter edge.0 (not-true (option_eq eqb edge.0 None) (sym c.ne.ensures ∙ w.if-ne.true)))))
      | else-ne w ↦
          rw (take_more edges i (None, 0) lt)
          (subst (λ xs. AddsLettered (take i edges ++ edge ∷ []) old xs) (sym (ap (λ v. v.items) w.moves-is))
          (lettered_skip (take i edges) old c.edges.moves.items edge c.edges.invariant
          (no_letter edge.0 (not-false (option_eq eqb edge.0 None) (sym c.ne.ensures ∙ w.if-ne.false)))))
    ]

pub returns : goal.returns
returns c =
    subst (λ xs. AddsLettered xs c.args.moves.now.items c.edges.moves.items) (take_all c.edges.letter-index c.args.edges.now (omega arith)) c.edges.invariant
