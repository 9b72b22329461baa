use Rattle.std.proofs.Common.{◌≡◌, ◌<◌, ◌+◌, ℕ, length, slice_index, sym, subst, arith}
use Rattle.predicate_abstraction.specs.private.Splitting.{IsSplitByRows}
use Rattle.predicate_abstraction.proofs.Parts.{rows_more, rows_all, rows_alone}
use Rattle.predicate_abstraction.proofs.splitting.split_by_pairs.Goals as goal

pub returns-then-are_single : goal.returns-then-are_single
returns-then-are_single c =
    rows_alone c.args.set.now c.rows.row c.args.classes.now c.rows.split.items c.rows.invariant
    (subst (λ xs. (p : ℕ) → p < length xs → slice_index xs p ≡ p) c.deref.ensures.value (c.are_single.ensures c.if-are_single.true))

pub rows-preserved : goal.rows-preserved
rows-preserved c =
    let set = c.args.set.now in
    let next : c.in-Some.next ≡ c.rows.row + 3 = omega (arith, c.in-Some.ensures) in
    subst (λ end. IsSplitByRows set 0 end c.args.classes.now c.in_ok-split-2.split.items) (sym next)
    (rows_more set c.rows.row (c.rows.row + 3) c.args.classes.now c.rows.split.items c.in_ok-split-2.split.items (omega arith) c.rows.invariant
    (subst (λ classes. IsSplitByRows set c.rows.row (c.rows.row + 3) classes c.in_ok-split-2.split.items) c.deref-in-rows.ensures.value c.in_ok-split-2.ensures))

pub returns : goal.returns
returns c =
    let rows = c.rows-in-rows.ensures in
    rows_all c.args.set.now c.rows.row c.args.classes.now c.rows.split.items c.rows.invariant (let past = c.rows-test.false in omega arith)
