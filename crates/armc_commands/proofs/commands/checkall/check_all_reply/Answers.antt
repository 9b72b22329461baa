use Rattle.std.proofs.Common.{refl, subst, sym}
use Rattle.protocol_syntax.specs.Properties.{AreProperties, properties}
use Rattle.protocol_properties.specs.Properties.{AreAllowedBlocks, first_properties_fault}
use Rattle.command_replies.proofs.ForCallers.{by_grammar}
use Rattle.armc_commands.proofs.CheckAllLemmas.{properties-refused}
use Rattle.armc_commands.proofs.commands.checkall.check_all_reply.Goals as goal

pub reply_to_blocks-requires-clause-blocks : goal.reply_to_blocks-requires-clause-blocks
reply_to_blocks-requires-clause-blocks g c κs within =
    subst AreAllowedBlocks (sym c.as_slice.ensures)
    (c.texts_say_allowed_properties.ensures c.args.text.now c.in-Ok.blocks ((c.in-Ok.ensures.properties c.in-Ok.blocks).1 refl))

pub returns-in-Ok : goal.returns-in-Ok
returns-in-Ok g c =
    c.reply_to_blocks.ensures c.args.text.now
    (subst (AreProperties c.args.text.now) (sym c.as_slice.ensures) ((c.in-Ok.ensures.properties c.in-Ok.blocks).1 refl))

pub returns-in_ok-refused_by_grammar-in-Err : goal.returns-in_ok-refused_by_grammar-in-Err
returns-in_ok-refused_by_grammar-in-Err g c =
    let s = c.args.system.now in
    let text = c.args.text.now in
    let refused = c.in_ok-refused_by_grammar-in-Err.ensures in
    properties-refused s c.args.limits.budget text _ c.refused.result c.refused.ensures
    (by_grammar properties (first_properties_fault s) text c.in-Err.fault _ refused.refused refused.fault
    (λ other. (c.in-Err.ensures.fault other c.in-Err.fault).1 refl))
