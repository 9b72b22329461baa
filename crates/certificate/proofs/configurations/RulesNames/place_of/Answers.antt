use Rattle.std.proofs.Common.{map, ap, ◌∙◌}
use Rattle.std.specs.List.{position}
use Rattle.std.specs.Str.{bytes_eq}
use Rattle.certificate.proofs.Places.{position_mapped}
use Rattle.certificate.proofs.configurations.RulesNames.place_of.Goals as goal

pub returns : goal.returns
returns c =
    c.rule_place.ensures
    ∙ position_mapped (bytes_eq c.args.bytes.now) (λ rule. rule.name) c.as_slice.result.now
    ∙ ap (λ rules. position (bytes_eq c.args.bytes.now) (map (λ rule. rule.name) rules))
    (c.as_slice.ensures ∙ ap (λ s. s.rules) (c.system.view_is ∙ c.system-system.ensures))
