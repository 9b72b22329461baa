use Rattle.std.proofs.Common.{List, None, IfOk, subst}
use Rattle.protocol_syntax.specs.Properties.{properties}
use Rattle.protocol_properties.specs.Properties.{first_properties_fault}
use Rattle.protocol_properties.specs.declared.properties.Property.{Property}
use Rattle.armc_commands.specs.declared.search_reply.Telling.TheVariants.{Certificate}
use Rattle.armc_commands.specs.SearchReply.{IsSearchReply}
use Rattle.armc_commands.specs.Commands.CheckAll.{property_parts}
use Rattle.command_replies.proofs.ForCallers.{by_names}
use Rattle.armc_commands.proofs.CheckAllLemmas.{properties-checked, properties-refused}
use Rattle.armc_commands.proofs.commands.checkall.reply_to_blocks.Goals as goal

pub returns-in-Ok : goal.returns-in-Ok
returns-in-Ok g c text says =
    let found = c.in-Ok.ensures.properties in
    properties-checked c.args.system.now c.args.limits.budget text c.in-Ok.properties c.search_properties.result
    (record { blocks = c.args.blocks.now; are_blocks = says; no_fault = found.0; said_is = found.1 })
    (subst (λ (said : List Property). IfOk c.search_properties.result (IsSearchReply (Certificate None) (property_parts c.args.limits.budget said)))
    c.as_slice.ensures c.search_properties.ensures)

pub returns-in_ok-refused_by_names-in-Err : goal.returns-in_ok-refused_by_names-in-Err
returns-in_ok-refused_by_names-in-Err g c text says =
    let s = c.args.system.now in
    let named = c.in_ok-refused_by_names-in-Err.ensures in
    properties-refused s c.args.limits.budget text _ c.refused.result c.refused.ensures
    (by_names properties (first_properties_fault s) text c.args.blocks.now c.in-Err.fault _ named.refused named.fault says c.in-Err.ensures.refused)
