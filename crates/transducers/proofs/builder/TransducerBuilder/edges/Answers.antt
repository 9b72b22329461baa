use Rattle.std.proofs.Common.{◌≡◌, ◌<◌, List, All, length, get_or, set, sym, ap, subst, ◌∙◌}
use Rattle.word_automata.specs.Path.{Node}
use Rattle.transducers.specs.declared.Label.{Label}
use Rattle.transducers.specs.Transducer.{Transducer, IsEdge}
use Rattle.transducers.specs.Builder.{with_edges}
use Rattle.transducers.proofs.BuilderLemmas.{set-add_edges, IsValid-set}
use Rattle.transducers.proofs.builder.TransducerBuilder.edges.Goals as goal

pub returns-clause-added : goal.returns-clause-added
returns-clause-added c =
    let items = c.self.inside.states.items in
    let edges = c.args.edges.now in
    let node : Node Label = record { accepting = c.state.inside.accepting; edges = c.state.inside.edges.items } in
    let with_states = λ (states : List (Node Label)). let t : Transducer = record {
      letters = c.self.inside.letters;
      starts = c.self.inside.starts.items;
      states = states;
    } in t in
    let lt : c.args.from < length items = subst (λ t. c.args.from < length t.states) (sym c.self.view_is) c.requires.from_in_range in
    let at : node ≡ get_or items c.args.from node = subst (λ n. n ≡ get_or items c.args.from n) (sym c.state.view_is)
    c.index_mut-state.ensures.value in
    ap (λ after. with_states (set items c.args.from (record { accepting = node.accepting; edges = after })))
    c.in_ok-extend_from_slice.ensures.items
    ∙ ap with_states (set-add_edges items c.args.from node edges lt at)
    ∙ ap (λ t. with_edges t c.args.from edges) c.self.view_is

pub invariant_of-self-2 : goal.invariant_of-self-2
invariant_of-self-2 c =
    let items = c.self.inside.states.items in
    let t : Transducer = record { letters = c.self.inside.letters; starts = c.self.inside.starts.items; states = items } in
    let node : Node Label = record { accepting = c.state.inside.accepting; edges = c.state.inside.edges.items } in
    let lt : c.args.from < length items = subst (λ t. c.args.from < length t.states) (sym c.self.view_is) c.requires.from_in_range in
    let at : node ≡ get_or items c.args.from node = subst (λ n. n ≡ get_or items c.args.from n) (sym c.state.view_is)
    c.index_mut-state.ensures.value in
    let good : All (IsEdge t.letters (length items)) c.args.edges.now = subst
    (λ t. All (IsEdge t.letters (length t.states)) c.args.edges.now) (sym c.self.view_is) c.requires.edges_in_range in
    IsValid-set t c.args.from node c.args.edges.now _ c.self.invariant lt at good c.in_ok-extend_from_slice.ensures.items
