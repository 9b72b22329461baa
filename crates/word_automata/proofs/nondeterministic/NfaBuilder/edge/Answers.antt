use Rattle.std.proofs.Common.{sym, subst}
use Rattle.std.proofs.lemmas.Result.{on_ok_weaker}
use Rattle.word_automata.specs.Nondeterministic.{NondeterministicAutomaton, IsMoveInRange}
use Rattle.word_automata.proofs.NfaBuilding.{adds_move, in_range_after}
use Rattle.word_automata.proofs.nondeterministic.NfaBuilder.edge.Goals as goal

-- all is in range, with the edge or without it
pub invariant_of-self : goal.invariant_of-self
invariant_of-self c =
    let n : NondeterministicAutomaton = record { letters = c.self.inside.letters; starts = c.self.inside.starts.items; states = c.self.inside.states } in
    in_range_after n c.args.from c.args.letter c.args.to (subst (λ m. IsMoveInRange m c.args.from c.args.letter c.args.to) (sym c.self.view_is) c.requires)
    c.push_edge.new.self c.push_edge.result c.self.invariant c.push_edge.ensures.ok c.push_edge.ensures.err

-- the edge was added
pub returns-clause-ok : goal.returns-clause-ok
returns-clause-ok c =
    let n : NondeterministicAutomaton = record { letters = c.self.inside.letters; starts = c.self.inside.starts.items; states = c.self.inside.states } in
    rw (← c.self.view_is)
    (on_ok_weaker c.push_edge.result
    (adds_move n c.args.from c.args.letter c.args.to (subst (λ m. IsMoveInRange m c.args.from c.args.letter c.args.to) (sym c.self.view_is) c.requires) c.push_edge.new.self)
    c.push_edge.ensures.ok)
