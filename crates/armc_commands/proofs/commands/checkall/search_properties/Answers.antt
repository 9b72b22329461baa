use Rattle.std.proofs.Common.{◌∙◌, List, subst, ap}
use Rattle.refinement.specs.declared.verdict.Verdict.{Verdict}
use Rattle.command_replies.specs.Reply.{on_out}
use Rattle.armc_commands.specs.SearchReply.{status_of}
use Rattle.armc_commands.specs.private.PartTexts.{AreTold}
use Rattle.command_replies.specs.declared.status.Status.{Status}
use Rattle.armc_commands.proofs.CheckAllLemmas.{told-reply}
use Rattle.armc_commands.proofs.commands.checkall.search_properties.Goals as goal

pub returns : goal.returns
returns g c =
    let text = c.in_ok-text.text.items in
    let vs = c.in_ok-verdicts.verdicts.items in
    let told = subst (λ (xs : List Verdict). AreTold c.args.limits.budget c.args.properties.now xs text) c.as_slice.ensures.value c.in_ok-text.ensures in
    told-reply c.args.limits.budget c.args.properties.now vs text c.on_out.result told
    (c.on_out.ensures ∙ ap (λ (s : Status). on_out s text) (c.worst_status.ensures ∙ ap status_of c.as_slice-2.ensures.value))
