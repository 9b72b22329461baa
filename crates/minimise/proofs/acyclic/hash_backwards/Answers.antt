use Rattle.std.proofs.Common.{◌-◌, sym, subst, arith}
use Rattle.minimise.proofs.HashesFromTheEnd.{AreHashesFrom, hashes_none, read, hashes_more, hashes_from_apart}
use Rattle.minimise.proofs.acyclic.hash_backwards.Goals as goal

pub states-init : goal.states-init
states-init c = subst (AreHashesFrom c.args.automaton.now c.args.classes.now.items) (sym c.states-state.ensures.count) (hashes_none c.args.automaton.now c.args.classes.now.items c.requires)

pub states-preserved : goal.states-preserved
states-preserved c =
    let m = c.args.automaton.now in
    let classes = c.states.classes.items in
    let i = c.states.state - 1 in
    hashes_more m classes c.states.state i c.hash_of.result (let t = c.states-test.true in omega arith) c.states.invariant
    (read m classes c.deref.result.now i c.hash_of.result c.accepting.result c.lead_on.result c.edges_from-edges.result.now c.deref.ensures.value c.accepting.ensures
    c.edges_from-edges.ensures.edges c.if-not-lead_on.false c.lead_on.ensures c.hash_of.ensures)

pub returns-clause-apart : goal.returns-clause-apart
returns-clause-apart c answer =
    let m = c.args.automaton.now in
    hashes_from_apart m c.states-state.ensures.valid c.states.classes.items
    (subst (AreHashesFrom m c.states.classes.items) (let t = c.states-test.false in omega arith) c.states.invariant)
