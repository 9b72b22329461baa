use Rattle.word_automata.proofs.Building.{valid_state}
use Rattle.word_automata.proofs.row_builder.RowBuilder.state.Goals as goal

-- one more state keeps the automaton valid
pub invariant_of-self-2 : goal.invariant_of-self-2
invariant_of-self-2 c =
    rw c.in_ok-push.ensures.ok (valid_state (record { letters = c.self.inside.letters; states = c.self.inside.rows }) c.args.accepting c.self.invariant)
