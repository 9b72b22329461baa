use Rattle.std.proofs.Common.{[], ◌∷◌, ◌++◌, flat_map, length, ap, ◌∙◌}
use Rattle.certificate.specs.SafeText.{letters_text, states_line}
use Rattle.certificate_writing.specs.Writing.{final_states}
use Rattle.certificate_writing.specs.private.WritingParts.{final_text}
use Rattle.certificate_writing.proofs.writing.opening.Goals as goal

pub returns : goal.returns
returns c =
    let named = letters_text c.args.alphabet.now c.args.letters.now in
    c.in_ok-push_final_states.ensures
    ∙ ap (λ text. text ++ flat_map final_text (final_states c.args.proof.now))
    (c.in_ok-push_states_line.ensures
    ∙ ap (λ count. c.push_letters.new.text.items ++ (states_line count ++ 10 ∷ [])) c.states-count.ensures.count
    ∙ ap (λ text. text ++ (states_line (length c.args.proof.now.states) ++ 10 ∷ []))
    (c.in_ok-push_letters.ensures
    ∙ ap (λ text. text ++ named) (c.in_ok-push.ensures.items ∙ ap (λ text. text ++ 10 ∷ []) (c.in_ok-text.ensures.items ∙ c.as_bytes.ensures.value))))
