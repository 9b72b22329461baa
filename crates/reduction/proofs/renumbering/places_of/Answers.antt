use Rattle.std.proofs.Common.{◌<◌, ◌∙◌, ℕ, List, length, get_or, subst, arith}
use Rattle.std.proofs.lemmas.List.{length-set, take_all}
use Rattle.std.proofs.lemmas.List.Elements.{All-get_or}
use Rattle.reduction.specs.private.Renumbering.{HavePlaces}
use Rattle.reduction.proofs.Parts.{places_more}
use Rattle.reduction.proofs.renumbering.places_of.Goals as goal

pub states-preserved : goal.states-preserved
states-preserved c =
    let states = c.args.states.now in
    let place = c.states.place in
    let places = c.states.places.items in
    let before = c.states.invariant in
    let here : place < length states = omega arith in
    let within : get_or states place 0 < c.args.count = All-get_or (λ q. q < c.args.count) states place 0 here c.requires in
    record {
      size = length-set places (get_or states place 0) place ∙ before.size;
      placed = places_more states places place here (let e = before.size in omega arith) before.placed;
    }

pub returns : goal.returns
returns c =
    subst (λ (xs : List ℕ). HavePlaces xs c.args.states.now c.states.places.items)
    (take_all c.states.place c.args.states.now (omega arith)) c.states.invariant.placed
