use Rattle.std.proofs.Common.{◌≡◌, ◌<◌, ◌≤◌, ◌+◌, ◌/◌, [], length, get_or, subst, ap, ◌∙◌, arith}
use Rattle.std.proofs.lemmas.List.{get_or_default}
use Rattle.std.proofs.lemmas.List.Elements.{All-get_or}
use Rattle.atoms.proofs.RowsByState.{signature_none, signature_more, signature_all}
use Rattle.atoms.proofs.rows.Atoms.signature.Goals as goal

pub states-init : goal.states-init
states-init c = record {
  numbers = signature_none c.args.self.now c.args.states.now c.in_ok-signature.signature c.in_ok-signature.ensures.none;
  room = c.in_ok-signature.ensures.room;
}

pub states-preserved : goal.states-preserved
states-preserved c =
    let rows = c.args.self.now in
    let states = c.args.states.now in
    let i = c.states.state-index in
    let q = get_or states i 0 in
    let row = c.index.result.now in
    let before = c.states.invariant in
    let within : q < length rows = All-get_or (λ x. x < length rows) states i 0 c.states-test.true c.requires in
    let is : row ≡ get_or rows q [] = c.index.ensures ∙ ap (λ xs. get_or xs q row) c.self.view_is ∙ get_or_default rows q row [] within in
    let narrow : length (get_or rows q []) ≤ c.self.inside.count / 64 + 1 = subst (λ xs. length (get_or xs q []) ≤ c.self.inside.count / 64 + 1) c.self.view_is (c.self.invariant q) in
    let fits : length row ≤ length c.states.signature = (let e = ap length is in let r = before.room in omega arith) in
    record {
      numbers = signature_more rows states i row c.states.signature c.add_all.new.self is c.add_all.ensures.only c.add_all.ensures.kept (c.add_all.ensures.added fits) before.numbers;
      room = c.add_all.ensures.room ∙ before.room;
    }

pub returns : goal.returns
returns c = signature_all c.args.self.now c.args.states.now c.states.state-index c.states.signature (let t = c.states-test.false in omega arith) c.requires c.states.invariant.numbers
