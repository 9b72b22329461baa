use Rattle.std.proofs.Common.{◌≡◌, ◌<◌, ◌+◌, [], length, get_or, sym, subst, arith}
use Rattle.bit_set.specs.SetLists.{AreEmpty}
use Rattle.atoms.specs.private.Adding.{IsListed}
use Rattle.atoms.specs.private.Family.{AddsPreimages}
use Rattle.atoms.proofs.Growth.{closed_more}
use Rattle.atoms.proofs.search.AtomSearch.advance.Goals as goal

pub expand-requires-clause-sources : goal.expand-requires-clause-sources
expand-requires-clause-sources c = λ p a j there.
    subst (λ u. j < length u) (sym c.deref-in-sets.ensures.value) (c.sets.invariant.turned.sound p (a, j) (subst (λ xs. IsListed xs p (a, j)) c.deref.ensures.value there)).0

pub sets-preserved : goal.sets-preserved
sets-preserved c =
    let n = c.self.inside.automaton.now in
    let used = c.self.inside.used.items in
    let into = c.self.inside.into.items in
    let old = c.sets.family.sets.items in
    let new = c.expand.new.self.sets.items in
    let set = get_or old c.sets.next [] in
    let before = c.sets.invariant in
    let letters : length c.sets.preimages.items ≡ n.letters + 1 = before.empty.count in
    let added =
    subst (λ k. AddsPreimages into used set k old new) letters
    (subst (λ u. AddsPreimages into u set (length c.sets.preimages.items) old new) c.deref-in-sets.ensures.value
    (subst (λ xs. AddsPreimages xs c.deref-in-sets.result.now set (length c.sets.preimages.items) old new) c.deref.ensures.value c.in_ok-expand.ensures.added)) in
    record {
      places = before.places;
      turned = before.turned;
      empty = subst (λ u. AreEmpty (n.letters + 1) (length u) c.expand.new.preimages.items) c.deref-in-sets.ensures.value
          (subst (λ k. AreEmpty k (length c.deref-in-sets.result.now) c.expand.new.preimages.items) letters c.in_ok-expand.ensures.empty);
      unions = c.in_ok-expand.ensures.seen;
      closed = closed_more n into used (n.letters + 1) old new c.sets.next (let t = c.sets-test.true in let e = c.len.ensures in omega arith) added before.closed;
    }
