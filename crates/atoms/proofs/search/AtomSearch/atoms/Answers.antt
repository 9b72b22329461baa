use Rattle.std.proofs.Common.{◌≤◌, ◌+◌, length, sym, subst, arith}
use Rattle.atoms.specs.private.Family.{Covers}
use Rattle.atoms.proofs.Families.{closed_covers}
use Rattle.atoms.proofs.Growth.{closed_all, letter_in_range}
use Rattle.atoms.proofs.search.AtomSearch.atoms.Goals as goal

pub atoms_of-requires-clause-covers : goal.atoms_of-requires-clause-covers
atoms_of-requires-clause-covers c =
    let n = c.self.inside.automaton.now in
    let into = c.self.inside.into.items in
    let used = c.self.inside.used.items in
    let sets = c.self.inside.family.sets.items in
    let kept = c.self.invariant in
    let past : length sets ≤ c.self.inside.next = (let t = c.if-self-len.false in let e = c.len.ensures in omega arith) in
    subst (λ u. Covers n u c.as_slice-sets.result.now) (sym c.deref.ensures.value)
    (subst (λ xs. Covers n used xs) (sym c.as_slice-sets.ensures.value)
    (closed_covers n into used kept.turned kept.places (n.letters + 1) (letter_in_range n c.states-in_range.ensures.in_range) sets
    (closed_all n into used (n.letters + 1) sets c.self.inside.next past kept.closed)))
