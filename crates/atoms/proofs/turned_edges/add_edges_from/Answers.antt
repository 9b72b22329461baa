use Rattle.std.proofs.Common.{◌≡◌, None, get_or, subst, arith}
use Rattle.atoms.specs.private.Adding.{IsListed, IsPlace, AddsEntries}
use Rattle.bit_set.proofs.ForCallers.{adds_first, adds_more, adds_all}
use Rattle.atoms.proofs.Turning.{IsEntryFor, entries_of}
use Rattle.atoms.proofs.turned_edges.add_edges_from.Goals as goal

pub edges-init : goal.edges-init
edges-init c = adds_first IsListed IsPlace (λ m. IsEntryFor c.args.place (get_or c.args.edges.now m (None, 0))) c.args.into.now.items

pub edges-preserved : goal.edges-preserved
edges-preserved c =
    let i = c.edges.letter-index in
    let to = (get_or c.args.edges.now i (None, 0)).1 in
    adds_more IsListed IsPlace (λ m. IsEntryFor c.args.place (get_or c.args.edges.now m (None, 0))) i c.args.into.now.items c.edges.into.items c.push_at.new.into.items
    c.edges.invariant (subst (λ k. AddsEntries (λ p x. (p ≡ to) × (x ≡ (k, c.args.place))) c.edges.into.items c.push_at.new.into.items) c.label_number.ensures c.in_ok-push_at.ensures)

pub returns : goal.returns
returns c =
    entries_of c.args.place c.args.edges.now c.args.into.now.items c.edges.into.items
    (adds_all IsListed IsPlace (IsEntryFor c.args.place) c.args.edges.now (None, 0) c.edges.letter-index c.args.into.now.items c.edges.into.items
    (let t = c.edges-test.false in omega arith) c.edges.invariant)
