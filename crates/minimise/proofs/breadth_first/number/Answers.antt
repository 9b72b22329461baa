use Rattle.std.proofs.Common.{◌≡◌, ◌<◌, length, slice_index, sym, ◌∙◌, arith}
use Rattle.std.proofs.lemmas.List.{get_or_default}
use Rattle.minimise.proofs.LeastNumbers.{places_added}
use Rattle.minimise.proofs.breadth_first.number.Goals as goal

pub returns-clause-places : goal.returns-clause-places
returns-clause-places c =
    let numbers = c.args.numbers.now.items in
    let state = c.args.state in
    let there : state < length numbers = (let t = c.requires.table in let s = c.requires.state in omega arith) in
    let free : slice_index numbers state ≡ 0 =
    sym (c.index-known.ensures ∙ get_or_default numbers state c.index-known.result.now 0 there) ∙ c.if-known-ne0.false in
    places_added c.args.found.now.items numbers c.requires.places state free c.push.new.self.items c.len-number.result there
    (let n = c.len-number.ensures in omega arith) c.in_ok-push.ensures.items
