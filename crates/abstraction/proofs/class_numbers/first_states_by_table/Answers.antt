use Rattle.std.specs.Prelude.{replicate}
use Rattle.std.proofs.Common.{◌≡◌, ◌+◌, length, rules, sym, ap, subst, ◌∙◌, arith}
use Rattle.std.proofs.lemmas.List.{length-replicate}
use Rattle.abstraction.specs.ClassAutomata.{known_at}
use Rattle.abstraction.proofs.Firsts.{HasFirsts, has_firsts_none, has_firsts_more, has_firsts_all, known_none}
use Rattle.abstraction.proofs.class_numbers.first_states_by_table.Goals as goal

pub states-init : goal.states-init
states-init c =
    let zeros : c.in_ok-known.known.items ≡ replicate c.args.places 0 = search rules in
    record {
      count = ap length zeros ∙ length-replicate c.args.places 0;
      firsts = has_firsts_none (known_at c.in_ok-known.known.items) c.args.classes.now c.in_ok-firsts.firsts.items
          (known_none c.args.places c.in_ok-known.known.items zeros) c.in_ok-firsts.ensures.items;
    }

pub states-preserved : goal.states-preserved
states-preserved c = record {
  count = c.first_in.ensures.count ∙ c.states.invariant.count;
  firsts = subst (λ items. HasFirsts (known_at c.first_in.new.known.items) c.args.classes.now items (c.states.state + 1)) (sym c.in_ok-push.ensures.items)
      (has_firsts_more (known_at c.states.known.items) (known_at c.first_in.new.known.items) c.args.classes.now c.states.firsts.items c.states.state c.first_in.result
      c.states.invariant.firsts c.first_in.ensures.first);
}

pub returns : goal.returns
returns c =
    let end : c.states.state ≡ length c.args.classes.now = omega arith in
    has_firsts_all (known_at c.states.known.items) c.args.classes.now c.states.firsts.items
    (subst (HasFirsts (known_at c.states.known.items) c.args.classes.now c.states.firsts.items) end c.states.invariant.firsts)
