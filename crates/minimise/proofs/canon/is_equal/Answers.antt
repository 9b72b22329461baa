use Rattle.std.proofs.Common.{◌≡◌, ◌<◌, ℕ, length, sym, ap, ◌∙◌, refl, arith, below_more}
use Rattle.std.proofs.lemmas.Bool.{true≢false}
use Rattle.word_automata.specs.Path.{edges_of, is_accepting}
use Rattle.word_automata.specs.Automaton.{Automaton}
use Rattle.minimise.proofs.Comparisons.{other_flag, same_flag, other_edges, same_edges_test}
use Rattle.minimise.proofs.Unique.{same_nodes}
use Rattle.minimise.proofs.canon.is_equal.Goals as goal
use Rattle.minimise.proofs.canon.is_equal.Goals.{then-accepting-via-then-accepting, then-accepting-via-else-accepting+then-ne}

pub returns-then-accepting : goal.returns-then-accepting
returns-then-accepting c = (
  λ h. absurd (true≢false (sym h)),
  λ e. absurd (elim c.then-accepting.branch [
    | then-accepting-via-then-accepting w ↦
        other_flag c.accepting.result c.accepting-in-states.result w.if-accepting.true
        (c.accepting.ensures ∙ ap (λ (m : Automaton). is_accepting m.states c.states.state) e ∙ sym c.accepting-in-states.ensures)
    | then-accepting-via-else-accepting+then-ne w ↦
        other_edges w.edges_from.result.now w.edges_from-else-accepting.result.now w.if-ne.ensures
        (w.edges_from.ensures.edges ∙ ap (λ (m : Automaton). edges_of m.states c.states.state) e ∙ sym w.edges_from-else-accepting.ensures.edges)
  ]),
)

pub states-preserved : goal.states-preserved
states-preserved c =
    below_more (λ q. (is_accepting c.args.a.now.states q ≡ is_accepting c.args.b.now.states q) × (edges_of c.args.a.now.states q ≡ edges_of c.args.b.now.states q)) c.states.state c.states.invariant (
      sym c.accepting.ensures ∙ same_flag c.accepting.result c.accepting-in-states.result c.if-accepting.false ∙ c.accepting-in-states.ensures,
      sym c.edges_from.ensures.edges ∙ same_edges_test c.edges_from.result.now c.edges_from-else-accepting.result.now c.if-ne.ensures ∙ c.edges_from-else-accepting.ensures.edges,
    )

pub returns : goal.returns
returns c = (
  λ h.
      let letters : c.args.a.now.letters ≡ c.args.b.now.letters = (let x = c.letters.ensures in let y = c.letters-2.ensures in let z = c.if-letters.false in omega arith) in
      let count : length c.args.a.now.states ≡ length c.args.b.now.states =
      (let x = c.states-else-letters.ensures.count in let y = c.states-else-letters-2.ensures.count in let z = c.if-states.false in omega arith) in
      let there : (q : ℕ) → q < length c.args.a.now.states → q < c.states.state = λ q l. (let x = c.states-state-end.ensures.count in let z = c.states-test.false in omega arith) in
      let nodes = same_nodes c.args.a.now.states c.args.b.now.states count (λ q l. (c.states.invariant q (there q l)).0) (λ q l. (c.states.invariant q (there q l)).1) in
      λ i. record { letters = letters i; states = nodes i },
  λ e. refl,
)
