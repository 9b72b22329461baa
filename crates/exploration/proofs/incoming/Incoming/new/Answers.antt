use Rattle.std.proofs.Common.{ap, subst, ◌∙◌, arith, slice_index, length}
use Rattle.std.proofs.lemmas.List.{length-replicate}
use Rattle.exploration.specs.private.Chains.{AddsEdges}
use Rattle.exploration.proofs.Chains.{index-zeros, incoming_none, incoming_more, incoming_all}
use Rattle.exploration.proofs.incoming.Incoming.new.Goals as goal

pub states-init : goal.states-init
states-init c =
    let last = c.in_ok-last.last.items in
    let zeros = c.in_ok-last.ensures.items_if_clones_equal (λ y h. h) in
    incoming_none c.args.automaton.now last c.in_ok-edges.edges.items (ap length zeros ∙ length-replicate c.states-2.result 0 ∙ c.states-2.ensures.count)
    (λ q. ap (λ xs. slice_index xs q) zeros ∙ index-zeros c.states-2.result q) c.in_ok-edges.ensures.items

pub states-preserved : goal.states-preserved
states-preserved c =
    let last = c.states.last.items in
    let edges = c.states.edges.items in
    let more = c.add_edges.new.last.items in
    let longer = c.add_edges.new.edges.items in
    incoming_more c.args.automaton.now last edges more longer c.states.state c.states.invariant c.edges_from.ensures.valid
    (subst (λ leaving. AddsEdges last edges more longer leaving c.states.state) c.edges_from.ensures.edges c.in_ok-add_edges.ensures)

pub returns : goal.returns
returns c =
    incoming_all c.args.automaton.now c.states.last.items c.states.edges.items c.states.state
    (let e = c.states-state-end.ensures.count in let t = c.states-test.false in omega arith) c.states-state-end.ensures.valid c.states.invariant
