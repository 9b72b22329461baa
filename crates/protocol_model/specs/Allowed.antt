-- The protocols that the grammar and the limits of the language allow.
use Rattle.std.specs.Prelude.{◌<◌, ◌≤◌, length, sum_by}
use Rattle.std.specs.List.{AllByRecursion}
use Rattle.protocol_syntax.specs.declared.limits.TheConstants.{MAX_SECTIONS, MAX_LETTERS, MAX_ROWS, MAX_RULES, MAX_ATOMS}
use Rattle.protocol_model.specs.Names.{IsName}
use Rattle.protocol_syntax.specs.declared.protocol.Protocol.{Protocol}
use Rattle.protocol_syntax.specs.declared.protocol.SectionText.{SectionText}
use Rattle.protocol_syntax.specs.declared.protocol.RowText.{RowText}
use Rattle.protocol_syntax.specs.declared.protocol.RuleText.{RuleText}
use Rattle.protocol_syntax.specs.MoveLetters.{IsAllowedMove}

-- a pattern has no more atoms than the limit
abbrev pub IsAllowedRow : RowText → Type 0
IsAllowedRow row = AllByRecursion (λ part. length part.atoms ≤ MAX_ATOMS) row.parts

-- a rule has a name, and moves within the limits
pub record IsAllowedRule (rule : RuleText) : Type 0 where
  pub named : IsName rule.name.text
  pub bodies : AllByRecursion (λ step. IsAllowedMove step.body) rule.moves

-- a section has a letter, and its name and those of its letters are names
pub record IsAllowedSection (section : SectionText) : Type 0 where
  pub some_letter : 0 < length section.letters
  pub named : IsName section.name.text
  pub letters_named : AllByRecursion (λ letter. IsName letter.text) section.letters

-- there is a section; sections, their letters together, rules, and rows of each kind are within the limits
pub record IsAllowed (p : Protocol) : Type 0 where
  pub named : IsName p.name.text
  pub some_section : 0 < length p.sections
  pub sections_limit : length p.sections ≤ MAX_SECTIONS
  pub each_section : AllByRecursion IsAllowedSection p.sections
  pub letters_limit : sum_by (λ section. length section.letters) p.sections ≤ MAX_LETTERS
  pub init_limit : length p.init ≤ MAX_ROWS
  pub rules_limit : length p.rules ≤ MAX_RULES
  pub bad_limit : length p.bad ≤ MAX_ROWS
  pub each_init : AllByRecursion IsAllowedRow p.init
  pub each_rule : AllByRecursion IsAllowedRule p.rules
  pub each_bad : AllByRecursion IsAllowedRow p.bad
