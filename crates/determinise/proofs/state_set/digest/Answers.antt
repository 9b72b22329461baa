use Rattle.std.proofs.Common.{◌<◌, length, take, get_or, ap, sym, ◌∙◌, arith}
use Rattle.std.proofs.lemmas.List.{take_more}
use Rattle.determinise.specs.Digest.{mixed, digest}
use Rattle.determinise.proofs.Digests.{digest_more}
use Rattle.determinise.proofs.state_set.digest.Goals as goal

pub states-preserved : goal.states-preserved
states-preserved c =
    let states = c.args.states.now in
    let i = c.states.state-index in
    let lt : i < length states = omega arith in
    c.mixed-number.ensures ∙ ap (λ number. mixed number (get_or states i 0)) c.states.invariant
    ∙ sym (digest_more 0 (take i states) (get_or states i 0)) ∙ sym (ap digest (take_more states i 0 lt))
