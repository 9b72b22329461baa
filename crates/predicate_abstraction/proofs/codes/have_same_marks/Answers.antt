use Rattle.std.proofs.Common.{rules, ◌≡◌, true, subst}
use Rattle.predicate_abstraction.specs.private.Splitting.{HaveSame}
use Rattle.predicate_abstraction.proofs.CodeLemmas.{three_rows}
use Rattle.predicate_abstraction.proofs.codes.have_same_marks.Goals as goal

pub returns-then-one-other : goal.returns-then-one-other
returns-then-one-other c = λ is. record {
  same = λ row from below within. subst (HaveSame c.args.set.now row c.args.one) c.if-one-other.true (λ h. h, λ h. h);
}

pub returns : goal.returns
returns c = λ is.
    let first : c.have_same_mark.result ≡ true = search rules in
    let second : c.have_same_mark-2.result ≡ true = search rules in
    three_rows c.args.set.now c.args.row c.args.one c.args.other (c.have_same_mark.ensures first) (c.have_same_mark-2.ensures second) (c.have_same_mark-3.ensures is)
