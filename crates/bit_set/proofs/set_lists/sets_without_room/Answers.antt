use Rattle.std.proofs.Common.{◌+◌, ℕ, List, length, subst, sym, ap, ◌∙◌}
use Rattle.std.proofs.lemmas.List.{length_push}
use Rattle.bit_set.specs.SetLists.{HasAt}
use Rattle.bit_set.proofs.SetsAtPlaces.{empty_none, none_more}
use Rattle.bit_set.proofs.set_lists.sets_without_room.Goals as goal

pub sets-init : goal.sets-init
sets-init c = record {
  count = ap length c.in_ok-sets.ensures.items;
  none = λ k number. subst (λ (sets : List (List ℕ)). HasAt sets k number → ⊥) (sym c.in_ok-sets.ensures.items) ((empty_none 0).none k number);
}

pub sets-preserved : goal.sets-preserved
sets-preserved c = record {
  count = ap length c.in_ok-push.ensures.items ∙ length_push c.sets.sets.items c.without_room.result ∙ ap (λ k. k + 1) c.sets.invariant.count;
  none = λ k number. subst (λ (sets : List (List ℕ)). HasAt sets k number → ⊥) (sym c.in_ok-push.ensures.items)
      (none_more c.sets.sets.items c.without_room.result c.sets.invariant.none c.without_room.ensures k number);
}
