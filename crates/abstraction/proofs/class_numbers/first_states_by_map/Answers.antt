use Rattle.std.proofs.Common.{◌≡◌, ◌+◌, length, nat_eq, sym, subst, arith}
use Rattle.std.specs.HashMap.{get}
use Rattle.abstraction.proofs.Firsts.{HasFirsts, has_firsts_more, has_firsts_all}
use Rattle.abstraction.proofs.class_numbers.first_states_by_map.Goals as goal

pub states-preserved : goal.states-preserved
states-preserved c =
    subst (λ items. HasFirsts (get nat_eq c.first_of.new.known) c.args.classes.now items (c.states.state + 1)) (sym c.in_ok-push.ensures.items)
    (has_firsts_more (get nat_eq c.states.known) (get nat_eq c.first_of.new.known) c.args.classes.now c.states.firsts.items c.states.state c.in_ok-first_of.field-0
    c.states.invariant c.in_ok-first_of.ensures)

pub returns : goal.returns
returns c =
    let end : c.states.state ≡ length c.args.classes.now = omega arith in
    has_firsts_all (get nat_eq c.states.known) c.args.classes.now c.states.firsts.items
    (subst (HasFirsts (get nat_eq c.states.known) c.args.classes.now c.states.firsts.items) end c.states.invariant)
