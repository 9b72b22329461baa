use Rattle.std.proofs.Common.{◌≡◌, length, sym, subst, arith}
use Rattle.abstraction.specs.ClassAutomata.{HasClassMoves}
use Rattle.abstraction.proofs.class_automaton.add_all_edges.Goals as goal

pub states-init : goal.states-init
states-init c = subst (λ seen. HasClassMoves c.args.a.now c.args.firsts.now seen c.args.builder.now 0 0) (sym c.in_ok-seen.ensures) c.requires.before

pub states-preserved : goal.states-preserved
states-preserved c = c.in_ok-add_edges.ensures

pub returns : goal.returns
returns c =
    let end : c.states.state ≡ length c.args.a.now.states = (let count = c.states-state-end.ensures.count in omega arith) in
    record {
      valid = c.states-state-end.ensures.valid;
      seen = c.states.seen.states.items;
      moves = subst (λ i. HasClassMoves c.args.a.now c.args.firsts.now c.states.seen.states.items c.states.builder i 0) end c.states.invariant;
    }
