use Rattle.section_patterns.proofs.StateLemmas.{loop_after}
use Rattle.section_patterns.proofs.states.add_loop.Goals as goal

pub returns : goal.returns
returns c =
    loop_after c.args.builder.now c.state.new.self c.add_edges.new.builder c.states-state.result c.args.next c.args.letters.now
    c.states-state.ensures.in_range c.requires.next c.states-state.ensures.count c.in_ok-state.ensures.ok c.edge.new.self c.in_ok-edge.ensures.ok
    c.in_ok-add_edges.ensures
