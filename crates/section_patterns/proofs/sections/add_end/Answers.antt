use Rattle.section_patterns.proofs.StateLemmas.{end_after}
use Rattle.section_patterns.proofs.sections.add_end.Goals as goal

pub returns : goal.returns
returns c =
    end_after c.args.builder.now c.state.new.self c.states-state.result c.states-state.ensures.in_range c.states-state.ensures.count
    c.in_ok-state.ensures.ok
