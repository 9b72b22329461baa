use Rattle.std.proofs.Common.{◌+◌, length, subst, sym, ap, ◌∙◌}
use Rattle.bit_set.specs.Bits.{Has}
use Rattle.bit_set.specs.SetLists.{AreEmpty}
use Rattle.bit_set.proofs.SetsAtPlaces.{empty_none, empty_more}
use Rattle.bit_set.proofs.set_lists.copies.Goals as goal

pub sets-init : goal.sets-init
sets-init c = λ bound room. subst (AreEmpty 0 bound) (sym c.in_ok-sets.ensures.items) (empty_none bound)

pub sets-preserved : goal.sets-preserved
sets-preserved c = λ bound room.
    let copied = c.in_ok-set.ensures in
    subst (AreEmpty (c.sets.counter + 1) bound) (sym c.in_ok-push.ensures.items)
    (empty_more c.sets.counter bound c.sets.sets.items c.in_ok-set.set (c.sets.invariant bound room)
    (λ k has. c.requires k (subst (λ s. Has s k) copied has)) (ap length copied ∙ room))
