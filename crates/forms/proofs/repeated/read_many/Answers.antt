use Rattle.std.proofs.Common.{◌≡◌, Ok, sym}
use Rattle.std.proofs.lemmas.Result.{err_from_is_err_and}
use Rattle.forms.specs.Symbol.{source_of}
use Rattle.forms.specs.Reading.{begins, read}
use Rattle.forms.proofs.Loops.{onward_start, onward_next, onward_fails, onward_ends}
use Rattle.forms.proofs.repeated.read_many.Goals as goal

pub items-init : goal.items-init
items-init g c =
    let s = source_of c.args.source.now.text.now c.args.source.now.tokens.now in
    let x = g.I.Items.next c.args.items.now in
    onward_start s (λ before. begins (x before) s) (λ before. read s (x before)) _ _ c.new-found.ensures.items

pub items-preserved : goal.items-preserved
items-preserved g c =
    let s = source_of c.args.source.now.text.now c.args.source.now.tokens.now in
    let x = g.I.Items.next c.args.items.now in
    let found : read s (x c.items.found.items) c.items.at ≡ Ok (c.in_ok-item.item, c.read_next.new.at) =
    rw c.as_slice.ensures.value at c.in_ok-item.ensures in
    onward_next s (λ before. begins (x before) s) (λ before. read s (x before)) c.items.found.items c.items.at _ c.items.invariant
    (sym c.items-test.ensures) c.in_ok-item.item c.read_next.new.at found _ c.in_ok-push.ensures.ok

pub returns-in_err-item : goal.returns-in_err-item
returns-in_err-item g c =
    let s = source_of c.args.source.now.text.now c.args.source.now.tokens.now in
    let x = g.I.Items.next c.args.items.now in
    let p = err_from_is_err_and c.from_residual.result c.from_residual.ensures.1 in
    let f = rw c.as_slice.ensures.value at c.in_err-item.ensures in
    rw p.1 (onward_fails s (λ before. begins (x before) s) (λ before. read s (x before)) c.items.found.items c.items.at _ c.items.invariant
    (sym c.items-test.ensures) p.0 (rw p.2 f))

pub returns : goal.returns
returns g c =
    let s = source_of c.args.source.now.text.now c.args.source.now.tokens.now in
    let x = g.I.Items.next c.args.items.now in
    rw c.from_vec.ensures
    (onward_ends s (λ before. begins (x before) s) (λ before. read s (x before)) c.items.found.items c.items.at _ c.items.invariant (sym c.items-test.ensures))
