use Rattle.std.proofs.Common.{◌∷◌, [], ◌++◌, codes, ap, ◌∙◌}
use Rattle.configuration_words.specs.Texts.{configuration_text}
use Rattle.certificate.specs.RunText.{steps_text}
use Rattle.certificate_writing.proofs.TextLemmas.{run_text-is}
use Rattle.certificate_writing.proofs.run_writing.write_run.Goals as goal

pub returns : goal.returns
returns c =
    let s = c.args.system.now in
    let run = c.args.run.now in
    c.in_ok-extend_from_slice-2.ensures.items
    ∙ ap (λ text. text ++ (codes "end" ++ 10 ∷ []))
    (c.in_ok-push_steps.ensures
    ∙ ap (λ steps. c.push_configuration.new.text.items ++ steps_text s steps) c.as_slice.ensures
    ∙ ap (λ text. text ++ steps_text s run.steps)
    (c.in_ok-push_configuration.ensures
    ∙ ap (λ text. text ++ (configuration_text s run.first ++ 10 ∷ []))
    (c.in_ok-extend_from_slice.ensures.items ∙ ap (λ text. text ++ (10 ∷ codes "start ")) (c.in_ok-text.ensures.items ∙ c.as_bytes.ensures.value))))
    ∙ run_text-is c.args.first.now s run
