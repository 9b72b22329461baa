use Rattle.std.proofs.Common.{ℕ, List, length, slice_index, subst}
use Rattle.minimise.specs.Refinement.{AreGrouped}
use Rattle.minimise.specs.private.Rounds.{AreAlike}
use Rattle.minimise.proofs.Refining.{least_coarse, stable}
use Rattle.minimise.proofs.refinement.classes.Goals as goal

pub returns-then-branch : goal.returns-then-branch
returns-then-branch c =
    let m = c.args.automaton.now in
    let classes = c.in_ok-classes.classes.items in
    let grouped = subst (λ (xs : List ℕ). AreGrouped (slice_index xs) (length m.states) classes) c.deref.ensures.value c.in_ok-classes.ensures in
    stable m c.in_ok-hashed.ensures.valid classes (least_coarse m c.in_ok-hashed.hashed.items classes c.in_ok-hashed.ensures.apart grouped)
    (subst (AreAlike m) c.deref-2.ensures.value (c.in_ok-is_stable.ensures c.if-branch.true))

pub split_further-requires-clause-coarse : goal.split_further-requires-clause-coarse
split_further-requires-clause-coarse c =
    let m = c.args.automaton.now in
    least_coarse m c.in_ok-hashed.hashed.items c.in_ok-classes.classes.items c.in_ok-hashed.ensures.apart
    (subst (λ (xs : List ℕ). AreGrouped (slice_index xs) (length m.states) c.in_ok-classes.classes.items) c.deref.ensures.value c.in_ok-classes.ensures)
