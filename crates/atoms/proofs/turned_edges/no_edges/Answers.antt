use Rattle.std.proofs.Common.{◌+◌, ◌++◌, ◌∷◌, [], subst, sym, ap, ◌∙◌}
use Rattle.atoms.specs.private.Adding.{AreNone}
use Rattle.atoms.proofs.Turning.{none_none, none_more}
use Rattle.atoms.proofs.turned_edges.no_edges.Goals as goal

pub states-init : goal.states-init
states-init c = subst (AreNone 0) (sym c.in_ok-into.ensures.items) none_none

pub states-preserved : goal.states-preserved
states-preserved c =
    subst (AreNone (c.states.counter + 1)) (sym (c.in_ok-push.ensures.items ∙ ap (λ x. c.states.into.items ++ x ∷ []) c.new-none.ensures))
    (none_more c.states.counter c.states.into.items c.states.invariant)
