use Rattle.std.proofs.Common.{◌++◌, [], cond, ap, ◌∙◌}
use Rattle.word_automata.specs.Path.{is_accepting}
use Rattle.certificate_writing.specs.private.WritingParts.{final_text}
use Rattle.certificate_writing.proofs.TextLemmas.{finals_more}
use Rattle.certificate_writing.proofs.writing.push_final_states.Goals as goal

pub states-preserved : goal.states-preserved
states-preserved c =
    let accepts = is_accepting c.args.proof.now.states in
    let i = c.states.state in
    c.in_ok-push_if_final.ensures
    ∙ ap (λ text. text ++ cond (accepts i) (final_text i) []) c.states.invariant
    ∙ finals_more c.args.text.now.items accepts i
