use Rattle.std.proofs.Common.{◌≡◌, ◌+◌, ℕ, Contains, get_or, map, sym, ap, subst, ◌∙◌, arith}
use Rattle.std.proofs.lemmas.List.{get_or_default}
use Rattle.word_automata.proofs.ForCallers.{Contains-map, Contains-map_cases}
use Rattle.determinise.proofs.MoveLists.{HasTargets, targets_same, targets_more}
use Rattle.determinise.proofs.moves.targets.Goals as goal
use Rattle.determinise.proofs.moves.targets.Goals.{then-not-ends_with+in_ok-push, else-not-ends_with}

pub moves-preserved : goal.moves-preserved
moves-preserved c =
    let moves = c.args.moves.now in
    let i = c.moves.to-index in
    elim c.if-not-ends_with.branch [
      | then-not-ends_with+in_ok-push w ↦
          subst (λ xs. HasTargets moves xs (i + 1)) (sym (ap (λ v. v.items) w.targets-is ∙ w.in_ok-push.ensures.items))
          (targets_more moves c.moves.targets.items i c.moves.invariant c.moves-test.true)
      | else-not-ends_with w ↦
          subst (λ xs. HasTargets moves xs (i + 1)) (sym (ap (λ v. v.items) w.targets-is))
          (targets_same moves c.moves.targets.items i c.moves.invariant
          (subst (λ xs. Contains xs (get_or moves i (0, 0)).1) c.deref.ensures.value (c.ends_with.ensures w.if-not-ends_with.false)))
    ]

pub returns : goal.returns
returns c q = (to, from)
  where
    to : Contains c.moves.targets.items q → Contains (map (λ (move : ℕ × ℕ). move.1) c.args.moves.now) q
    to there = let k = c.moves.invariant.only q there in
        subst (Contains (map (λ (move : ℕ × ℕ). move.1) c.args.moves.now)) k.2
        (Contains-map (λ (move : ℕ × ℕ). move.1) c.args.moves.now (get_or c.args.moves.now k.0 (0, 0)) (k.0, k.1, get_or_default c.args.moves.now k.0 (get_or c.args.moves.now k.0 (0, 0)) (0, 0) k.1))

    from : Contains (map (λ (move : ℕ × ℕ). move.1) c.args.moves.now) q → Contains c.moves.targets.items q
    from there = let move = Contains-map_cases (λ (move : ℕ × ℕ). move.1) c.args.moves.now q there in
        let place = move.1 in
        let is : get_or c.args.moves.now place.0 (0, 0) ≡ move.0 = get_or_default c.args.moves.now place.0 (0, 0) move.0 place.1 ∙ place.2 in
        subst (Contains c.moves.targets.items) (ap (λ (m : ℕ × ℕ). m.1) is ∙ move.2) (c.moves.invariant.added place.0 (let l = place.1 in let e = c.moves-test.false in omega arith))
