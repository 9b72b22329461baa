use Rattle.protocol_model.specs.Steps.{move_of}
use Rattle.step_compiler.proofs.SectionLemmas.{moved_transducer, staying_transducer}
use Rattle.step_compiler.proofs.RuleLemmas.{ok_from_both}
use Rattle.step_compiler.proofs.sections.compile_section.Goals as goal

pub returns-in-Some : goal.returns-in-Some
returns-in-Some c = ok_from_both c.compile_move.result _ _ _
    (λ t same related. moved_transducer c.args.section.now c.in-Some.step.now (move_of c.args.moves.now c.args.number) c.args.letters
    c.args.offset c.letter_count.result t c.in-Some.ensures c.letter_count.ensures (c.requires.valid c.in-Some.step.now c.in-Some.ensures) same related)
    c.compile_move.ensures.letters c.compile_move.ensures.relates

pub returns-in-None : goal.returns-in-None
returns-in-None c = ok_from_both c.compile_copy.result _ _ _
    (λ t same related. staying_transducer c.args.section.now (move_of c.args.moves.now c.args.number) c.args.letters
    c.args.offset c.letter_count.result t c.in-None.ensures c.letter_count.ensures same related)
    c.compile_copy.ensures.letters c.compile_copy.ensures.relates
