use Rattle.std.proofs.Common.{◌↔◌, ◌+◌, ℕ, length, subst, ◌∙◌}
use Rattle.bit_set.specs.Bits.{Has}
use Rattle.bit_set.specs.SetLists.{AreEmpty}
use Rattle.atoms.specs.private.Places.{AreTurned, AcceptsAt}
use Rattle.atoms.proofs.Growth.{closed_none}
use Rattle.atoms.proofs.search.AtomSearch.begin.Goals as goal

pub invariant_of-result : goal.invariant_of-result
invariant_of-result c =
    let n = c.args.automaton.now in
    let used = c.in_ok-used.used.items in
    record {
      places = c.in_ok-used.ensures;
      turned = subst (λ u. AreTurned n u c.in_ok-into.into.items) c.deref.ensures.value c.in_ok-into.ensures;
      empty = subst (λ k. AreEmpty (k + 1) (length used) c.in_ok-preimages.preimages.items) c.letters.ensures
          (subst (λ k. AreEmpty (c.letters.result + 1) k c.in_ok-preimages.preimages.items) (c.len.ensures ∙ c.in_ok-used.used.ok.0) c.in_ok-preimages.ensures);
      unions = c.in_ok-family.ensures.seen;
      closed = closed_none n c.in_ok-into.into.items used (n.letters + 1) c.in_ok-family.family.sets.items c.in_ok-accepting.accepting
          (subst (λ u. (place : ℕ) → Has c.in_ok-accepting.accepting place ↔ AcceptsAt n u place) c.deref-2.ensures.value c.in_ok-accepting.ensures) c.in_ok-family.ensures.union;
    }
