use Rattle.std.proofs.Common.{◌≡◌, ◌<◌, ◌∷◌, [], zero, suc, List, ℕ, length, get_or, set, All, sym, ap, subst, ◌∙◌, arith}
use Rattle.word_automata.specs.Path.{Node}
use Rattle.transducers.specs.declared.Label.{Label}
use Rattle.transducers.specs.Transducer.{Transducer, IsEdge}
use Rattle.transducers.specs.Builder.{with_edges}
use Rattle.transducers.proofs.BuilderLemmas.{set-add_edges, IsValid-set}
use Rattle.transducers.proofs.builder.TransducerBuilder.edge.Goals as goal

pub returns-clause-added : goal.returns-clause-added
returns-clause-added c =
    let items = c.self.inside.states.items in
    let edges : List (Label × ℕ) = (record { read = c.args.read; write = c.args.write }, c.args.to) ∷ [] in
    let node : Node Label = record { accepting = c.state.inside.accepting; edges = c.state.inside.edges.items } in
    let with_states = λ (states : List (Node Label)). let t : Transducer = record {
      letters = c.self.inside.letters;
      starts = c.self.inside.starts.items;
      states = states;
    } in t in
    let lt : c.args.from < length items = subst (λ t. c.args.from < length t.states) (sym c.self.view_is) c.requires.from_in_range in
    let at : node ≡ get_or items c.args.from node = subst (λ n. n ≡ get_or items c.args.from n) (sym c.state.view_is)
    c.index_mut-state.ensures.value in
    ap (λ after. with_states (set items c.args.from (record { accepting = node.accepting; edges = after }))) c.in_ok-push.ensures.items
    ∙ ap with_states (set-add_edges items c.args.from node edges lt at)
    ∙ ap (λ t. with_edges t c.args.from edges) c.self.view_is

one_edge : (letters n : ℕ) (edge : Label × ℕ) → IsEdge letters n edge → All (IsEdge letters n) (edge ∷ [])
one_edge letters n edge is zero d within = is
one_edge letters n edge is (suc k) d within = absurd (omega arith)

pub invariant_of-self-2 : goal.invariant_of-self-2
invariant_of-self-2 c =
    let items = c.self.inside.states.items in
    let t : Transducer = record { letters = c.self.inside.letters; starts = c.self.inside.starts.items; states = items } in
    let edge : Label × ℕ = (record { read = c.args.read; write = c.args.write }, c.args.to) in
    let node : Node Label = record { accepting = c.state.inside.accepting; edges = c.state.inside.edges.items } in
    let lt : c.args.from < length items = subst (λ t. c.args.from < length t.states) (sym c.self.view_is) c.requires.from_in_range in
    let at : node ≡ get_or items c.args.from node = subst (λ n. n ≡ get_or items c.args.from n) (sym c.state.view_is)
    c.index_mut-state.ensures.value in
    let is : IsEdge c.args.self.now.letters (length c.args.self.now.states) edge = record {
      read_in_range = c.requires.read_in_range;
      write_in_range = c.requires.write_in_range;
      target_in_range = c.requires.to_in_range;
    } in
    IsValid-set t c.args.from node (edge ∷ []) _ c.self.invariant lt at
    (one_edge t.letters (length items) edge (subst (λ t. IsEdge t.letters (length t.states) edge) (sym c.self.view_is) is)) c.in_ok-push.ensures.items
