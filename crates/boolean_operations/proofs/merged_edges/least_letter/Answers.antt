use Rattle.std.proofs.Common.{◌≡◌, ◌<◌, Some, get_or, inl, inr, length, slice_get, arith}
use Rattle.std.proofs.lemmas.Option.{slice_get-get_or, slice_get_within}
use Rattle.boolean_operations.proofs.EdgeTargets.{least_left, least_right, above_first}
use Rattle.boolean_operations.proofs.merged_edges.least_letter.Goals as goal
use Rattle.boolean_operations.proofs.merged_edges.least_letter.Goals.{then-j-right-via-then-j-right, then-j-right-via-else-j-right+then-left-i}

-- the first list is at its end
pub returns-then-i-left : goal.returns-then-i-left
returns-then-i-left c =
    let left = c.args.left.now in
    let right = c.args.right.now in
    let i = c.args.i in
    let j = c.args.j in
    let within : j < length right = elim c.requires.some [ inl some ↦ absurd (omega (arith, some, c.if-i-left.true)) | inr some ↦ some ] in
    least_right left right c.requires.right i j (get_or right j (0, 0)) (slice_get-get_or right j (0, 0) within)
    (λ k e l at. absurd (omega (arith, slice_get_within left k e at, l, c.if-i-left.true)))

-- the second list is at its end, or has a greater letter
pub returns-then-j-right : goal.returns-then-j-right
returns-then-j-right c =
    let left = c.args.left.now in
    let right = c.args.right.now in
    let i = c.args.i in
    let j = c.args.j in
    let within : i < length left = omega (arith, c.if-i-left.false) in
    let here : slice_get left i ≡ Some (get_or left i (0, 0)) = slice_get-get_or left i (0, 0) within in
    elim c.then-j-right.branch [
      | then-j-right-via-then-j-right w ↦
          least_left left right c.requires.left i j (get_or left i (0, 0)) here (λ k e l at. absurd (omega (arith, slice_get_within right k e at, l, w.if-j-right.true)))
      | then-j-right-via-else-j-right+then-left-i w ↦
          least_left left right c.requires.left i j (get_or left i (0, 0)) here
          (above_first right c.requires.right j (get_or left i (0, 0)).0 (get_or right j (0, 0)) (slice_get-get_or right j (0, 0) (omega (arith, w.if-j-right.false)))
          (omega (arith, w.if-left-i.true)))
    ]

-- the second has one that is not greater
pub returns : goal.returns
returns c =
    let left = c.args.left.now in
    let right = c.args.right.now in
    let i = c.args.i in
    let j = c.args.j in
    least_right left right c.requires.right i j (get_or right j (0, 0)) (slice_get-get_or right j (0, 0) (omega (arith, c.if-j-right.false)))
    (above_first left c.requires.left i (get_or right j (0, 0)).0 (get_or left i (0, 0)) (slice_get-get_or left i (0, 0) (omega (arith, c.if-i-left.false))) (omega (arith, c.if-left-i.false)))
