use Rattle.std.proofs.Common.{length, inl, inr, arith, below_more}
use Rattle.std.proofs.lemmas.Bool.{cases_lt}
use Rattle.boolean_operations.specs.private.DeadStates.{IsRejectingAt}
use Rattle.boolean_operations.proofs.DeadStates.{rejecting_past}
use Rattle.boolean_operations.proofs.dead_states.are_rejecting.Goals as goal

pub states-preserved : goal.states-preserved
states-preserved g c =
    below_more (λ p. IsRejectingAt (g.A.FiniteAutomaton.automaton c.args.automaton.now) c.args.flags.now p) c.states.state c.states.invariant (c.rejects_at.ensures c.if-not-rejects_at.false)

pub returns : goal.returns
returns g c t p = elim (cases_lt p (length (g.A.FiniteAutomaton.automaton c.args.automaton.now).states)) [
  | inl there ↦ c.states.invariant p (let e = c.states-state-end.ensures.count in let x = c.states-test.false in omega arith)
  | inr past ↦ rejecting_past (g.A.FiniteAutomaton.automaton c.args.automaton.now) c.args.flags.now p (let e = c.requires in omega arith)
]
