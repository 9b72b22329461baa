use Rattle.std.proofs.Common.{◌≡◌, ◌<◌, ℕ, List, true, false, Contains, length, get_or, slice_set, sym, ap, subst, ◌∙◌, arith}
use Rattle.std.proofs.lemmas.List.{get_or_default}
use Rattle.predicate_abstraction.specs.private.Pairs.{Pairs, AreMarked, AddsPairs}
use Rattle.predicate_abstraction.proofs.Marks.{marked_more, adds_known, adds_new}
use Rattle.predicate_abstraction.proofs.pair_set.PairSet.insert.Goals as goal

pub invariant_of-self-then-not-index : goal.invariant_of-self-then-not-index
invariant_of-self-then-not-index c =
    let rows = c.self.inside.rows in
    let columns = c.self.inside.columns in
    let marks = c.self.inside.marks.items in
    let pairs = c.self.inside.pairs.items in
    let lr : c.args.row < rows = (let v = ap (λ (p : Pairs). p.rows) c.self.view_is in let r = c.requires.row in omega arith) in
    let lc : c.args.column < columns = (let v = ap (λ (p : Pairs). p.columns) c.self.view_is in let r = c.requires.column in omega arith) in
    subst (AreMarked rows columns (slice_set marks c.place-at.result true)) (sym c.in_ok-push.ensures.items)
    (marked_more rows columns c.args.row c.args.column c.place-at.result marks pairs lr lc c.place-at.ensures.value c.self.invariant)

pub returns-in_ok-push : goal.returns-in_ok-push
returns-in_ok-push c =
    let rows = c.self.inside.rows in
    let columns = c.self.inside.columns in
    let pairs = c.self.inside.pairs.items in
    let pair : ℕ × ℕ = (c.args.row, c.args.column) in
    subst (λ (old : Pairs). AddsPairs (λ (x : ℕ × ℕ). x ≡ pair) old (record { rows = rows; columns = columns; pairs = c.push.new.self.items })) c.self.view_is
    (subst (λ (ps : List (ℕ × ℕ)). AddsPairs (λ (x : ℕ × ℕ). x ≡ pair) (record { rows = rows; columns = columns; pairs = pairs }) (record { rows = rows; columns = columns; pairs = ps }))
    (sym c.in_ok-push.ensures.items) (adds_new rows columns pairs pair))

pub returns-else-not-index : goal.returns-else-not-index
returns-else-not-index c =
    let rows = c.self.inside.rows in
    let columns = c.self.inside.columns in
    let lr : c.args.row < rows = (let v = ap (λ (p : Pairs). p.rows) c.self.view_is in let r = c.requires.row in omega arith) in
    let lc : c.args.column < columns = (let v = ap (λ (p : Pairs). p.columns) c.self.view_is in let r = c.requires.column in omega arith) in
    let at = c.place-at.result in
    let marks = c.self.inside.marks.items in
    let within : at < length marks = (let w = c.place-at.ensures.within in let n = c.self.invariant.count in omega arith) in
    let marked : get_or marks at false ≡ true = get_or_default marks at false c.index.result.now within ∙ sym c.index.ensures ∙ c.if-not-index.false in
    let there = (c.self.invariant.marked c.args.row c.args.column lr lc).0 (ap (λ k. get_or marks k false) (sym c.place-at.ensures.value) ∙ marked) in
    adds_known c.args.self.now (c.args.row, c.args.column) (subst (λ (p : Pairs). Contains p.pairs (c.args.row, c.args.column)) c.self.view_is there)
