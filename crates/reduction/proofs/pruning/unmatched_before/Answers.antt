use Rattle.std.proofs.Common.{◌<◌, ◌++◌, ◌∷◌, [], ℕ, List, Option, None, length, take, get_or, sym, ap, subst, ◌∙◌, arith}
use Rattle.std.proofs.lemmas.List.{take_more, take_all}
use Rattle.reduction.specs.Simulation.{IsMatched}
use Rattle.reduction.specs.private.Pruning.{DropsMatched}
use Rattle.reduction.proofs.Simulations.{drops_skip, drops_more}
use Rattle.reduction.proofs.pruning.unmatched_before.Goals as goal
use Rattle.reduction.proofs.pruning.unmatched_before.Goals.{then-not-is_matched+in_ok-push, else-not-is_matched}

pub edges-preserved : goal.edges-preserved
edges-preserved c =
    let pairs = c.args.pairs.now in
    let edges = c.args.edges.now in
    let i = c.edges.letter-index in
    let edge = get_or edges i (None, 0) in
    let lt : i < length edges = omega arith in
    elim c.if-not-is_matched.branch [
      | then-not-is_matched+in_ok-push w ↦
          rw (take_more edges i (None, 0) lt)
          (subst (λ xs. DropsMatched pairs (take i edges ++ edge ∷ []) xs) (sym (ap (λ v. v.items) w.kept-is ∙ w.in_ok-push.ensures.items))
          (drops_more pairs (take i edges) c.edges.kept.items edge c.edges.invariant))
      | else-not-is_matched w ↦
          rw (take_more edges i (None, 0) lt)
          (subst (λ xs. DropsMatched pairs (take i edges ++ edge ∷ []) xs) (sym (ap (λ v. v.items) w.kept-is))
          (drops_skip pairs (take i edges) c.edges.kept.items edge c.edges.invariant
          (subst (λ (xs : List (Option ℕ × ℕ)). IsMatched pairs xs edge) c.deref-in-edges.ensures.value (c.is_matched.ensures w.if-not-is_matched.false))))
    ]

pub returns : goal.returns
returns c =
    subst (λ xs. DropsMatched c.args.pairs.now xs c.edges.kept.items) (take_all c.edges.letter-index c.args.edges.now (omega arith)) c.edges.invariant
