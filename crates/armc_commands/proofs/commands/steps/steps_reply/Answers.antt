use Rattle.std.proofs.Common.{ℕ, List, inl, refl, sym, subst, ap, ◌∙◌, IsTrue}
use Rattle.std.specs.List.{AllByRecursion}
use Rattle.protocol_model.specs.declared.system.Configuration.{Configuration}
use Rattle.protocol_model.specs.Patterns.{fits}
use Rattle.command_replies.specs.declared.status.Status.TheVariants.{Done}
use Rattle.command_replies.specs.Reply.{on_out}
use Rattle.armc_commands.specs.Commands.Steps.{successors_text}
use Rattle.armc_commands.proofs.Replies.{steps_refused}
use Rattle.armc_commands.proofs.Successors.{all_fit}
use Rattle.armc_commands.proofs.commands.steps.steps_reply.Goals as goal

pub returns-in-Err : goal.returns-in-Err
returns-in-Err c =
    steps_refused c.args.system.now c.args.text.now c.in-Err.fault c.refused.result c.refused.ensures.reply c.refused.ensures.fault
    (λ other. (c.in-Err.ensures.fault other c.in-Err.fault).1 refl)

pub successors_text-requires : goal.successors_text-requires
successors_text-requires c =
    let P : List (ℕ × Configuration) → Type 0 = AllByRecursion (λ pair. IsTrue (fits c.args.system.now pair.1)) in
    subst P (sym c.as_slice.ensures.value) (all_fit _ _ _ c.in_ok-pairs.ensures)

pub returns : goal.returns
returns c =
    let s = c.args.system.now in
    inl (record {
      configuration = c.in-Ok.configuration;
      pairs = c.in_ok-pairs.pairs.items;
      means = (c.in-Ok.ensures.configuration c.in-Ok.configuration).1 refl;
      are_successors = c.in_ok-pairs.ensures;
      reply_is = c.on_out.ensures ∙ ap (λ (text : List ℕ). on_out Done text) (c.in_ok-lines.ensures ∙ ap (successors_text s) c.as_slice.ensures.value);
    })
