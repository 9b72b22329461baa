use Rattle.std.proofs.Common.{◌≡◌, ◌∙◌, ◌<◌, ◌↔◌, ℕ, List, sym, ap, subst, arith, length}
use Rattle.std.specs.List.{AllByRecursion}
use Rattle.std.proofs.lemmas.Result.{IfOk-weaker}
use Rattle.protocol_model.specs.declared.system.Rule.{Rule}
use Rattle.protocol_model.specs.System.{IsValidPart, total_letters}
use Rattle.protocol_model.specs.Words.{automata_letters}
use Rattle.transducers.specs.Transducer.{Relates}
use Rattle.transducers.specs.Joining.{RelatesJoined, letters_of}
use Rattle.step_compiler.specs.Rules.{IsRuleStep}
use Rattle.step_compiler.specs.Sections.{AreSectionTransducers}
use Rattle.step_compiler.proofs.RuleLemmas.{rule_parts, rule_there, rule_valid, same_letters, first_letters, rule_steps}
use Rattle.step_compiler.proofs.rules.compile_rule.Goals as goal
use Rattle.step_compiler.proofs.rules.compile_rule.Goals.{After-as_slice}

pub compile_sections-requires-clause-valid : goal.compile_sections-requires-clause-valid
compile_sections-requires-clause-valid c =
    let s = c.args.system.now in
    let rule = c.index-rules-rule.result in
    let moves = c.as_slice-moves.ensures ∙ ap (λ (x : Rule). x.moves) (sym c.index-rules-rule.is) in
    let valid = rule_valid s c.as_slice-rules.result.now c.args.rule rule (c.as_slice-rules.ensures ∙ ap (λ s. s.rules) c.system.view_is) c.requires
    c.index-rules-rule.is c.separator-separator.ensures.valid in
    subst (λ xs. AllByRecursion (IsValidPart xs) c.as_slice-moves.result.now)
    (sym (c.as_slice-sections.ensures ∙ ap (λ s. s.sections) c.system.view_is))
    (subst (AllByRecursion (IsValidPart s.sections)) (sym moves) valid.parts)

pub compile_sections-requires-clause-fits : goal.compile_sections-requires-clause-fits
compile_sections-requires-clause-fits c =
    omega (
      arith,
      ap total_letters (c.as_slice-sections.ensures ∙ ap (λ s. s.sections) c.system.view_is),
      c.separator-separator.ensures.separator,
    )

pub compile_sections-requires-clause-few : goal.compile_sections-requires-clause-few
compile_sections-requires-clause-few c =
    omega (
      arith,
      ap length (c.as_slice-sections.ensures ∙ ap (λ s. s.sections) c.system.view_is),
      c.separator-separator.ensures.valid.limits.sections_limit,
    )

-- the parts that the code joins
module _ (c : After-as_slice) where
  some_section : 0 < length c.args.system.now.sections
  some_section = c.separator-separator.ensures.valid.limits.some_section

  parts : AreSectionTransducers c.index-rules-rule.result.moves (automata_letters c.args.system.now) 0 0 c.args.system.now.sections c.as_slice.result.now
  parts =
      rule_parts c.args.system.now c.index-rules-rule.result c.separator-separator.result c.as_slice-moves.result.now c.as_slice-sections.result.now
      c.in_ok-parts.parts.items c.as_slice.result.now (c.as_slice-moves.ensures ∙ ap (λ (x : Rule). x.moves) (sym c.index-rules-rule.is))
      (c.as_slice-sections.ensures ∙ ap (λ s. s.sections) c.system.view_is) c.separator-separator.ensures.separator c.as_slice.ensures.value
      c.in_ok-parts.ensures

  letters : letters_of c.as_slice.result.now ≡ automata_letters c.args.system.now
  letters = first_letters c.index-rules-rule.result.moves (automata_letters c.args.system.now) 0 0 c.args.system.now.sections c.as_slice.result.now
      some_section parts

pub join_sections-requires-clause-letters : goal.join_sections-requires-clause-letters
join_sections-requires-clause-letters c =
    same_letters c.index-rules-rule.result.moves (automata_letters c.args.system.now) c.args.system.now.sections c.as_slice.result.now
    (some_section c) (parts c)

pub join_sections-requires-clause-separator : goal.join_sections-requires-clause-separator
join_sections-requires-clause-separator c = omega (arith, letters c, c.separator-separator.ensures.separator)

pub returns-clause-letters : goal.returns-clause-letters
returns-clause-letters c = let d = (goal.at.returns-clause-letters c).After-as_slice in
    IfOk-weaker c.join_sections.result _ (λ t. t.letters ≡ automata_letters c.args.system.now) (λ t e. e ∙ letters d)
    c.join_sections.ensures.letters

pub returns-clause-relates : goal.returns-clause-relates
returns-clause-relates c = let d = (goal.at.returns-clause-relates c).After-as_slice in
    let there = rule_there c.args.system.now c.as_slice-rules.result.now c.args.rule c.index-rules-rule.result
    (c.as_slice-rules.ensures ∙ ap (λ s. s.rules) c.system.view_is) c.requires c.index-rules-rule.is in
    IfOk-weaker c.join_sections.result _ (λ t. (u w : List ℕ) → Relates t u w ↔ IsRuleStep c.args.system.now c.args.rule u w)
    (λ t related. rule_steps c.args.system.now c.index-rules-rule.result (automata_letters c.args.system.now) c.args.rule c.as_slice.result.now t
    (some_section d) (parts d) there
    (subst (λ n. (u w : List ℕ) → Relates t u w ↔ RelatesJoined n c.as_slice.result.now u w) c.separator-separator.ensures.separator related))
    c.join_sections.ensures.joined
