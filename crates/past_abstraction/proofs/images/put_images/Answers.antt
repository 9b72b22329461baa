use Rattle.std.proofs.Common.{◌<◌, ℕ, List, All, length, sym, subst, ◌∙◌, arith}
use Rattle.std.proofs.lemmas.List.{take_all}
use Rattle.past_abstraction.specs.private.WordSets.{AreImages, PutsEdges}
use Rattle.past_abstraction.proofs.ImageStates.{letters_within, images_of_no_state, images_of_state}
use Rattle.past_abstraction.proofs.images.put_images.Goals as goal

pub states-init : goal.states-init
states-init c = record {
  count = c.requires.before.count;
  images = images_of_no_state c.args.a.now c.args.lists.now.items c.requires.before;
}

pub put_edges-requires : goal.put_edges-requires
put_edges-requires c =
    subst (λ n. All (λ edge. edge.0 < n) c.edges_from.result.now) (sym c.states.invariant.count)
    (subst (λ (edges : List (ℕ × ℕ)). All (λ edge. edge.0 < c.args.a.now.letters) edges) (sym c.edges_from.ensures.edges) (letters_within c.args.a.now c.edges_from.ensures.valid _))

pub states-preserved : goal.states-preserved
states-preserved c =
    let a = c.args.a.now in
    let set = c.args.set.now in
    let i = c.states.state-index in
    let within : i < length set = omega arith in
    let lists = c.states.lists.items in
    let more = c.put_edges.new.lists.items in
    let puts = subst (λ (edges : List (ℕ × ℕ)). PutsEdges edges lists more) c.edges_from.ensures.edges c.in_ok-put_edges.ensures in
    record {
      count = puts.count ∙ c.states.invariant.count;
      images = images_of_state a c.edges_from.ensures.valid set lists more i within c.states.invariant.images puts;
    }

pub returns-clause-images : goal.returns-clause-images
returns-clause-images c =
    subst (λ xs. AreImages c.args.a.now xs c.states.lists.items) (take_all c.states.state-index c.args.set.now (omega arith)) c.states.invariant.images
