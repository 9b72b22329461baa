use Rattle.std.proofs.Common.{◌≡◌, ◌+◌, ℕ, None, Some, length, slice_get, refl, sym, ap, subst, ◌∙◌, arith, Option}
use Rattle.std.proofs.lemmas.Bool.{true≢false}
use Rattle.std.proofs.lemmas.Option.{slice_get_read}
use Rattle.word_automata.specs.Path.{edges_of}
use Rattle.word_automata.specs.Automaton.{HasIncreasingLetters, find_target}
use Rattle.boolean_operations.specs.private.Search.{Gathers}
use Rattle.boolean_operations.specs.private.PairGraph.{IsPair, IsAmong, LeadsByLetter}
use Rattle.boolean_operations.proofs.OptionalStates.{edges_at-increasing, follow-edges}
use Rattle.boolean_operations.proofs.PairWalks.{gathers_none, step_more, step_other, steps_all}
use Rattle.boolean_operations.proofs.ReadEdges.{read_at, read_all}
use Rattle.boolean_operations.proofs.inclusion.PairGraphGraph.add_steps.Given.{Over}
use Rattle.boolean_operations.proofs.inclusion.PairGraphGraph.add_steps.Goals as goal
use Rattle.boolean_operations.proofs.inclusion.PairGraphGraph.add_steps.Goals.{After-read-letter, in-Some+in_ok-push, in_default}

pub edges-init : goal.edges-init
edges-init g c =
    let n = g.A.FiniteAutomaton.automaton c.args.self.now.left.now in
    let m = c.args.self.now.right.now in
    gathers_none {X = ℕ × (ℕ × Option ℕ)} (λ step. IsPair n m step.1) (IsAmong (LeadsByLetter c.args.self.now.dead.now m c.args.state.now.1) (edges_of n.states c.args.state.now.0) 0)
    c.args.steps.now.items
    (λ x is. let l = is.below in omega arith)

-- the move that is read
is_read : (g : Over) (c : After-read-letter g)
    → slice_get (edges_of (g.A.FiniteAutomaton.automaton c.args.self.now.left.now).states c.args.state.now.0) c.edges.edge-index ≡ Some c.read-letter.result
is_read g c =
    let edges = c.edges_from-edge-items.result.now in
    read_at g.A.FiniteAutomaton.move_of edges (edges_of (g.A.FiniteAutomaton.automaton c.args.self.now.left.now).states c.args.state.now.0) c.edges.edge-index c.edge-item.result
    c.read-letter.result c.edges_from-edge-items.ensures
    (slice_get_read edges (length edges) c.edges.edge-index c.edge-item.result refl (omega (arith, c.edges-test.true)) c.edge-item.is) c.read-letter.ensures

pub edges-preserved : goal.edges-preserved
edges-preserved g c =
    let n = g.A.FiniteAutomaton.automaton c.args.self.now.left.now in
    let m = c.args.self.now.right.now in
    let p = c.args.state.now.0 in
    let q = c.args.state.now.1 in
    let flags = c.args.self.now.dead.now in
    let k = c.edges.edge-index in
    let to = c.read-letter.result.1 in
    elim c.match-letter.branch [
      | in-Some+in_ok-push w ↦
          subst (Gathers {X = ℕ × (ℕ × Option ℕ)} (λ step. IsPair n m step.1) (IsAmong (LeadsByLetter flags m q) (edges_of n.states p) (k + 1)) c.args.steps.now.items)
          (sym (ap (λ steps. steps.items) w.steps-is ∙ w.in_ok-push.ensures.items))
          (step_more n m flags c.requires.0 c.requires.1 p q c.requires.3 c.args.steps.now.items c.edges.steps.items k w.in-Some.letter to
          w.seek-target.result.0
          (w.seek-target.ensures ∙ ap (λ es. find_target es w.in-Some.letter) c.edges_at-edges.ensures ∙ sym (follow-edges m q w.in-Some.letter))
          (is_read g (goal.at.edges-preserved g c).After-read-letter ∙ ap (λ (l : Option ℕ). Some (l, to)) w.in-Some.is)
          (sym c.has_flag.ensures ∙ c.if-has_flag.false) c.edges.invariant)
      | in_default w ↦
          subst (Gathers {X = ℕ × (ℕ × Option ℕ)} (λ step. IsPair n m step.1) (IsAmong (LeadsByLetter flags m q) (edges_of n.states p) (k + 1)) c.args.steps.now.items)
          (sym (ap (λ steps. steps.items) w.steps-is))
          (step_other n m flags c.requires.0 c.requires.1 p q c.requires.3 c.args.steps.now.items c.edges.steps.items k None to
          (is_read g (goal.at.edges-preserved g c).After-read-letter ∙ ap (λ (l : Option ℕ). Some (l, to)) w.in_default.is)
          (λ a is. absurd (no_letter a is)) c.edges.invariant)
    ]
  where
    no_letter : (a : ℕ) → None ≡ Some a → ⊥
    no_letter a is = (cc)

pub edges-preserved-then-has_flag : goal.edges-preserved-then-has_flag
edges-preserved-then-has_flag g c =
    let n = g.A.FiniteAutomaton.automaton c.args.self.now.left.now in
    let m = c.args.self.now.right.now in
    let p = c.args.state.now.0 in
    let q = c.args.state.now.1 in
    let flags = c.args.self.now.dead.now in
    let k = c.edges.edge-index in
    let to = c.read-letter.result.1 in
    step_other n m flags c.requires.0 c.requires.1 p q c.requires.3 c.args.steps.now.items c.edges.steps.items k c.read-letter.result.0 to
    (is_read g (goal.at.edges-preserved-then-has_flag g c).After-read-letter)
    (λ a is live. true≢false (sym c.if-has_flag.true ∙ c.has_flag.ensures ∙ live)) c.edges.invariant

pub returns : goal.returns
returns g c =
    let n = g.A.FiniteAutomaton.automaton c.args.self.now.left.now in
    let m = c.args.self.now.right.now in
    steps_all n m c.args.self.now.dead.now c.requires.0 c.requires.1 c.args.state.now.0 c.args.state.now.1 c.requires.3 c.args.steps.now.items c.edges.steps.items c.edges.edge-index
    (read_all g.A.FiniteAutomaton.move_of c.edges_from-edge-items.result.now (edges_of n.states c.args.state.now.0) c.edges.edge-index c.edges_from-edge-items.ensures
    (omega (arith, c.edges-test.false))) c.edges.invariant

pub seek-target-requires : goal.seek-target-requires
seek-target-requires g c = subst HasIncreasingLetters (sym c.edges_at-edges.ensures) (edges_at-increasing c.args.self.now.right.now c.requires.1 c.args.state.now.1)
