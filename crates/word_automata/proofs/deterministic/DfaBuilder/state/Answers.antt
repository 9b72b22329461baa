use Rattle.std.proofs.Common.{◌∙◌, sym}
use Rattle.word_automata.specs.Automaton.{Automaton}
use Rattle.word_automata.proofs.Building.{valid_state, edge_count-state}
use Rattle.word_automata.proofs.deterministic.DfaBuilder.state.Goals as goal

-- one more state keeps the automaton valid
pub invariant_of-self-2 : goal.invariant_of-self-2
invariant_of-self-2 c =
    let m : Automaton = record { letters = c.self.inside.letters; states = c.self.inside.states.items } in
    rw (c.in_ok-push.ensures.items, c.new.ensures)
    record { valid = valid_state m c.args.accepting c.self.invariant.valid; counted = c.self.invariant.counted ∙ sym (edge_count-state m c.args.accepting) }
