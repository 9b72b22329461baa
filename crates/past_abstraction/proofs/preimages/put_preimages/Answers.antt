use Rattle.std.proofs.Common.{◌<◌, ℕ, List, All, length, refl, sym, subst, ◌∙◌, arith}
use Rattle.std.proofs.lemmas.List.{take_all}
use Rattle.word_automata.proofs.ForCallers.{All-from_contains}
use Rattle.past_abstraction.specs.private.PastSets.{ArePreimages}
use Rattle.past_abstraction.specs.private.WordSets.{PutsEdges}
use Rattle.past_abstraction.proofs.PreimageStates.{preimages_of_none, preimages_of_more, edges_of_state}
use Rattle.past_abstraction.proofs.preimages.put_preimages.Goals as goal

pub states-init : goal.states-init
states-init c = record {
  count = refl;
  preimages = preimages_of_none c.args.into.now (length c.args.lists.now.items) c.args.lists.now.items c.requires.before;
}

pub put_edges-requires : goal.put_edges-requires
put_edges-requires c =
    let edges = c.put_into.new.found.items in
    let are = edges_of_state c.args.into.now _ c.clear.new.self.items edges c.clear.ensures.items c.in_ok-put_into.ensures in
    subst (All (λ edge. edge.0 < length c.states.lists.items)) (sym c.deref.ensures.value)
    (All-from_contains (λ (edge : ℕ × ℕ). edge.0 < length c.states.lists.items) edges
    (λ edge there. subst (λ n. edge.0 < n) (sym c.states.invariant.count) (c.requires.letters _ edge ((are edge).0 there))))

pub states-preserved : goal.states-preserved
states-preserved c =
    let edges = c.put_into.new.found.items in
    let set = c.args.set.now in
    let i = c.states.state-index in
    let within : i < length set = omega arith in
    let lists = c.states.lists.items in
    let more = c.put_edges.new.lists.items in
    let are = edges_of_state c.args.into.now _ c.clear.new.self.items edges c.clear.ensures.items c.in_ok-put_into.ensures in
    let puts = subst (λ (edges : List (ℕ × ℕ)). PutsEdges edges lists more) c.deref.ensures.value c.in_ok-put_edges.ensures in
    record {
      count = puts.count ∙ c.states.invariant.count;
      preimages = preimages_of_more c.args.into.now set edges lists more i within are c.states.invariant.preimages puts;
    }

pub returns-clause-preimages : goal.returns-clause-preimages
returns-clause-preimages c =
    subst (λ xs. ArePreimages c.args.into.now xs c.states.lists.items) (take_all c.states.state-index c.args.set.now (omega arith))
    c.states.invariant.preimages
