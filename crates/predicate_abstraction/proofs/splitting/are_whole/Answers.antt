use Rattle.std.proofs.Common.{rules, ◌≡◌, ◌+◌, true, below_more, get_or, arith}
use Rattle.predicate_abstraction.specs.private.Splitting.{HaveSameRows}
use Rattle.predicate_abstraction.proofs.Parts.{rows_whole}
use Rattle.predicate_abstraction.proofs.splitting.are_whole.Goals as goal

pub columns-preserved : goal.columns-preserved
columns-preserved c =
    let holds : c.have_same_marks.result ≡ true = search rules in
    below_more (λ p. HaveSameRows c.args.set.now c.args.row (c.args.row + 3) (get_or c.args.classes.now p 0) p) c.columns.column c.columns.invariant
    (c.have_same_marks.ensures holds)

pub returns : goal.returns
returns c = λ is.
    rows_whole c.args.set.now c.args.row (c.args.row + 3) c.args.classes.now c.requires.classes
    (λ p there. c.columns.invariant p (let count = c.requires.classes.count in let past = c.columns-test.false in omega arith))
