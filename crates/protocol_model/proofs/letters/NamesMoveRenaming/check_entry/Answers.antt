use Rattle.std.proofs.Common.{◌≡◌, true, false, None, Some, cond, map, refl, ap, sym, ◌∙◌}
use Rattle.std.specs.Str.{bytes_eq}
use Rattle.protocol_model.specs.declared.fault.ModelFault.TheVariants.{Duplicate}
use Rattle.protocol_model.specs.Faults.{is_among}
use Rattle.protocol_model.proofs.Lists.{list_any_map}
use Rattle.protocol_model.proofs.Known.{fault_where_true}
use Rattle.protocol_model.proofs.letters.NamesMoveRenaming.check_entry.Goals as goal

pub returns-then-is_replaced : goal.returns-then-is_replaced
returns-then-is_replaced c =
    let name = c.args.entry.now.0 in
    let earlier = map (λ before. before.0.text) c.args.earlier.now in
    let among : is_among earlier name ≡ true =
    list_any_map (bytes_eq name.text) (λ before. before.0.text) c.args.earlier.now ∙ sym c.is_replaced.ensures ∙ c.if-is_replaced.true in
    fault_where_true (is_among earlier name) (Duplicate name) c.duplicate_name.result among c.duplicate_name.ensures

pub returns : goal.returns
returns c =
    let name = c.args.entry.now.0 in
    let earlier = map (λ before. before.0.text) c.args.earlier.now in
    let among : is_among earlier name ≡ false =
    list_any_map (bytes_eq name.text) (λ before. before.0.text) c.args.earlier.now ∙ sym c.is_replaced.ensures ∙ c.if-is_replaced.false in
    (ap (λ b. cond b (Some (Duplicate name)) None) among, refl)
