use Rattle.std.proofs.Common.{◌≡◌, ◌+◌, ◌-◌, ◌≤◌, get_or, inl, inr, subst, arith}
use Rattle.std.proofs.lemmas.Bool.{cases_lt}
use Rattle.determinise.specs.private.Subsets.{letter_of, order_key}
use Rattle.determinise.proofs.MoveLists.{letter_from_key}
use Rattle.determinise.proofs.moves.are_ordered.Goals as goal

pub moves-preserved : goal.moves-preserved
moves-preserved c k below =
    let moves = c.args.moves.now in
    let at = c.moves.at in
    let before = get_or moves (at - 1) (0, 0) in
    let here = get_or moves at (0, 0) in
    let keys : order_key before ≤ order_key here =
    subst (λ x. x ≤ order_key here) c.order_key.ensures (subst (λ x. c.order_key.result ≤ x) c.order_key-in-moves.ensures c.if-order_key.false) in
    let letters : letter_of moves (at - 1) ≤ letter_of moves at = letter_from_key before here keys in
    elim (cases_lt (k + 1) at) [
      | inl less ↦ c.moves.invariant k less
      | inr more ↦
          let first : at - 1 ≡ k = omega arith in
          let second : at ≡ k + 1 = omega arith in
          subst (λ j. letter_of moves k ≤ letter_of moves j) second (subst (λ j. letter_of moves j ≤ letter_of moves at) first letters)
    ]

pub returns : goal.returns
returns c all k within = c.moves.invariant k (let past = c.moves-test.false in omega arith)
