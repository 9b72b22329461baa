use Rattle.std.proofs.Common.{◌≡◌, length, subst, arith}
use Rattle.atoms.specs.private.Adding.{AreNone}
use Rattle.atoms.specs.private.Places.{AreTurnedBelow}
use Rattle.atoms.proofs.Turning.{turned_none, turned_more}
use Rattle.atoms.proofs.turned_edges.edges_into.Goals as goal

pub places-init : goal.places-init
places-init c =
    turned_none c.args.automaton.now c.args.used.now c.in_ok-into.into.items (subst (λ k. AreNone k c.in_ok-into.into.items) c.states.ensures.count c.in_ok-into.ensures)

pub places-preserved : goal.places-preserved
places-preserved c =
    turned_more c.args.automaton.now c.args.used.now c.edges_from.ensures.in_range c.places.place c.edges_from.result.now c.places.into.items c.add_edges_from.new.into.items
    c.edges_from.ensures.edges c.places.invariant c.in_ok-add_edges_from.ensures

pub returns : goal.returns
returns c =
    let end : c.places.place ≡ length c.args.used.now = (let t = c.places-test.false in let e = c.places.auto.place-end in omega arith) in
    subst (λ k. AreTurnedBelow c.args.automaton.now c.args.used.now k c.places.into.items) end c.places.invariant
