use Rattle.std.proofs.Common.{◌≡◌, ◌∙◌, get_or, sym, inl, inr, arith}
use Rattle.std.proofs.lemmas.List.{get_or_default}
use Rattle.abstraction.proofs.Firsts.{is_known_first, is_new_first}
use Rattle.abstraction.proofs.class_numbers.first_in.Goals as goal

pub returns-then-first-gt0-clause-first : goal.returns-then-first-gt0-clause-first
returns-then-first-gt0-clause-first c =
    let table = c.args.known.now.items in
    let first = c.index-first.result.now in
    let read : get_or table c.args.class 0 ≡ first = get_or_default table c.args.class 0 first c.requires.class ∙ sym c.index-first.ensures in
    inl (is_known_first table c.args.class first read c.if-first-gt0.true)

pub returns-clause-first : goal.returns-clause-first
returns-clause-first c =
    let table = c.args.known.now.items in
    let first = c.index-first.result.now in
    let read : get_or table c.args.class 0 ≡ first = get_or_default table c.args.class 0 first c.requires.class ∙ sym c.index-first.ensures in
    inr (is_new_first table c.args.class first read c.args.state c.requires.class (let none = c.if-first-gt0.false in omega arith))
