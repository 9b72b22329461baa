use Rattle.std.proofs.Common.{◌≡◌, ◌+◌, ℕ, true, [], Option, None, Some, length, slice_get, refl, sym, ap, subst, ◌∙◌, arith}
use Rattle.std.specs.Option.{is_some}
use Rattle.std.proofs.lemmas.Bool.{true≢false}
use Rattle.std.proofs.lemmas.Option.{slice_get_read}
use Rattle.word_automata.specs.Path.{edges_of}
use Rattle.boolean_operations.specs.private.Search.{Gathers}
use Rattle.boolean_operations.specs.private.PairGraph.{IsPair, IsAmong, LeadsSilently}
use Rattle.sequence.proofs.ForCallers.{none_from_test}
use Rattle.boolean_operations.proofs.PairWalks.{gathers_none, silent_more, silent_other, silent_all}
use Rattle.boolean_operations.proofs.ReadEdges.{read_at, read_all}
use Rattle.boolean_operations.proofs.inclusion.PairGraphGraph.silent_targets.Given.{Over}
use Rattle.boolean_operations.proofs.inclusion.PairGraphGraph.silent_targets.Goals as goal
use Rattle.boolean_operations.proofs.inclusion.PairGraphGraph.silent_targets.Goals.{After-read-letter}

pub edges-init : goal.edges-init
edges-init g c =
    let n = g.A.FiniteAutomaton.automaton c.args.self.now.left.now in
    let m = c.args.self.now.right.now in
    let p = c.args.state.now.0 in
    let q = c.args.state.now.1 in
    subst (Gathers (IsPair n m) (IsAmong (LeadsSilently c.args.self.now.dead.now q) (edges_of n.states p) 0) []) (sym c.new-targets.ensures.items)
    (gathers_none (IsPair n m) (IsAmong (LeadsSilently c.args.self.now.dead.now q) (edges_of n.states p) 0) [] (λ x is. let l = is.below in omega arith))

-- the move that is read
is_read : (g : Over) (c : After-read-letter g)
    → slice_get (edges_of (g.A.FiniteAutomaton.automaton c.args.self.now.left.now).states c.args.state.now.0) c.edges.edge-index ≡ Some c.read-letter.result
is_read g c =
    let edges = c.edges_from-edge-items.result.now in
    read_at g.A.FiniteAutomaton.move_of edges (edges_of (g.A.FiniteAutomaton.automaton c.args.self.now.left.now).states c.args.state.now.0) c.edges.edge-index c.edge-item.result
    c.read-letter.result c.edges_from-edge-items.ensures
    (slice_get_read edges (length edges) c.edges.edge-index c.edge-item.result refl (omega (arith, c.edges-test.true)) c.edge-item.is) c.read-letter.ensures

pub edges-preserved : goal.edges-preserved
edges-preserved g c =
    let n = g.A.FiniteAutomaton.automaton c.args.self.now.left.now in
    let m = c.args.self.now.right.now in
    let p = c.args.state.now.0 in
    let q = c.args.state.now.1 in
    let to = c.read-letter.result.1 in
    let silent : c.read-letter.result.0 ≡ None = none_from_test c.read-letter.result.0 true (sym c.is_some.ensures ∙ c.if-is_some.false) refl in
    subst (Gathers (IsPair n m) (IsAmong (LeadsSilently c.args.self.now.dead.now q) (edges_of n.states p) (c.edges.edge-index + 1)) []) (sym c.in_ok-push.ensures.items)
    (silent_more n m c.args.self.now.dead.now c.requires.0 c.requires.1 p q c.requires.3 c.edges.targets.items c.edges.edge-index to
    (is_read g (goal.at.edges-preserved g c).After-read-letter ∙ ap (λ (l : Option ℕ). Some (l, to)) silent)
    (sym c.has_flag.ensures ∙ c.if-has_flag.false) c.edges.invariant)

pub edges-preserved-then-is_some : goal.edges-preserved-then-is_some
edges-preserved-then-is_some g c =
    let n = g.A.FiniteAutomaton.automaton c.args.self.now.left.now in
    let m = c.args.self.now.right.now in
    silent_other n m c.args.self.now.dead.now c.requires.0 c.requires.1 c.args.state.now.0 c.args.state.now.1 c.requires.3 c.edges.targets.items c.edges.edge-index
    c.read-letter.result.0 c.read-letter.result.1 (is_read g (goal.at.edges-preserved-then-is_some g c).After-read-letter)
    (λ none live. true≢false (sym c.if-is_some.true ∙ c.is_some.ensures ∙ ap is_some none)) c.edges.invariant

pub edges-preserved-then-has_flag : goal.edges-preserved-then-has_flag
edges-preserved-then-has_flag g c =
    let n = g.A.FiniteAutomaton.automaton c.args.self.now.left.now in
    let m = c.args.self.now.right.now in
    silent_other n m c.args.self.now.dead.now c.requires.0 c.requires.1 c.args.state.now.0 c.args.state.now.1 c.requires.3 c.edges.targets.items c.edges.edge-index
    c.read-letter.result.0 c.read-letter.result.1 (is_read g (goal.at.edges-preserved-then-has_flag g c).After-read-letter)
    (λ none live. true≢false (sym c.if-has_flag.true ∙ c.has_flag.ensures ∙ live)) c.edges.invariant

pub returns : goal.returns
returns g c =
    let n = g.A.FiniteAutomaton.automaton c.args.self.now.left.now in
    let m = c.args.self.now.right.now in
    let edges = c.edges_from-edge-items.result.now in
    silent_all n m c.args.self.now.dead.now c.requires.0 c.requires.1 c.args.state.now.0 c.args.state.now.1 c.requires.3 c.edges.targets.items c.edges.edge-index
    (read_all g.A.FiniteAutomaton.move_of edges (edges_of n.states c.args.state.now.0) c.edges.edge-index c.edges_from-edge-items.ensures
    (omega (arith, c.edges-test.false))) c.edges.invariant
