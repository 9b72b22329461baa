use Rattle.std.proofs.Common.{◌∙◌, sym, arith}
use Rattle.word_automata.specs.Automaton.{Automaton}
use Rattle.word_automata.proofs.Building.{makes_accepting, valid_accepting, edge_count-accepting}
use Rattle.word_automata.proofs.deterministic.DfaBuilder.accept.Goals as goal

-- the automaton stays valid
pub invariant_of-self : goal.invariant_of-self
invariant_of-self c =
    let m : Automaton = record { letters = c.self.inside.letters; states = c.self.inside.states.items } in
    rw c.accept.ensures.accepting
    record {
      valid = valid_accepting m c.args.state c.index_mut-state.result.now (omega arith) c.index_mut-state.ensures.value c.self.invariant.valid;
      counted = c.self.invariant.counted ∙ sym (edge_count-accepting m c.args.state c.index_mut-state.result.now (omega arith) c.index_mut-state.ensures.value);
    }

-- the state was made accepting
pub returns-clause-ok : goal.returns-clause-ok
returns-clause-ok c =
    let m : Automaton = record { letters = c.self.inside.letters; states = c.self.inside.states.items } in
    rw (← c.self.view_is, c.accept.ensures.accepting) (makes_accepting m c.args.state c.index_mut-state.result.now (omega arith) c.index_mut-state.ensures.value)
