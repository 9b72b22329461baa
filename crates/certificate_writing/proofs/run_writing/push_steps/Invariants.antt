use Rattle.std.proofs.Common.{◌≡◌, ◌++◌, take}
use Rattle.certificate.specs.RunText.{steps_text}
use Rattle.certificate_writing.proofs.run_writing.push_steps.Given as goal

abbrev pub invariant-steps : goal.invariant-steps
invariant-steps l = l.text.items ≡ l.fn.text.items ++ steps_text l.system (take l.step-index l.steps)
