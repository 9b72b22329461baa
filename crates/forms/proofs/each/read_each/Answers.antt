use Rattle.std.proofs.lemmas.Result.{err_from_is_err_and}
use Rattle.std.proofs.lemmas.List.{nil_from_length}
use Rattle.forms.specs.Symbol.{source_of}
use Rattle.forms.proofs.EachLaws.{each_start, each_next, each_fails, each_ends}
use Rattle.forms.proofs.each.read_each.Goals as goal

pub values-init : goal.values-init
values-init g c = each_start _ _ c.new-found.ensures.items

pub values-preserved : goal.values-preserved
values-preserved g c =
    let s = source_of c.args.source.now.text.now c.args.source.now.tokens.now in
    each_next s (g.X.FormOf.grammar c.args.form.now) c.in-Some.value.now c.in-Some.others.now c.values.left.now c.values.found.items _ c.values.at
    c.read_for.new.at c.in_ok-meaning.meaning _ c.values.invariant c.in-Some.ensures.cases.0 c.in_ok-meaning.ensures c.in_ok-push.ensures.ok

pub returns-in_err-meaning : goal.returns-in_err-meaning
returns-in_err-meaning g c =
    let s = source_of c.args.source.now.text.now c.args.source.now.tokens.now in
    let p = err_from_is_err_and c.from_residual.result c.from_residual.ensures.1 in
    rw p.1 (each_fails s (g.X.FormOf.grammar c.args.form.now) c.in-Some.value.now c.in-Some.others.now c.values.left.now c.values.found.items c.values.at
    p.0 _ c.values.invariant c.in-Some.ensures.cases.0 (rw p.2 c.in_err-meaning.ensures))

pub returns : goal.returns
returns g c =
    let s = source_of c.args.source.now.text.now c.args.source.now.tokens.now in
    rw c.from_vec.ensures
    (each_ends s (g.X.FormOf.grammar c.args.form.now) c.values.left.now c.values.found.items c.values.at _ c.values.invariant (nil_from_length _ c.in_default.ensures.cases))
