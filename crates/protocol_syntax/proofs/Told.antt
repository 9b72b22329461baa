-- In texts of protocols and of properties the next symbol always tells how to go on.
use Rattle.std.proofs.Common.{◌≡◌, ℕ, true, refl}
use Rattle.protocol_syntax.specs.declared.protocol.SectionText.{SectionText}
use Rattle.forms.specs.declared.symbol.Keyword.{Keyword}
use Rattle.forms.specs.declared.symbol.Keyword.TheVariants as Words
use Rattle.forms.specs.Grammar.{up_to}
use Rattle.forms.specs.Shape.{IsUniform, shape, is_told, code}
use Rattle.protocol_syntax.specs.Grammar.{common_kind, lossy_kind, kind, section, more_sections, set, letter_base, set_base, base, count, atom, atoms, pattern, part, row_body, row, quantifier, region, guard, entry, table, at_move, four_names, pair_move, ring_move, two_move, set_move, send_move, recv_move, pushed, pop_move, push_move, channel_or_stack_move, common_move, spawn_move, exit_move, lose_move, later_move, any_move, step, rule, second_language, protocol}
use Rattle.protocol_syntax.specs.Properties.{block, properties}
use Rattle.protocol_syntax.proofs.Unfolded.{productions}

pub protocol_is_told : is_told (shape protocol) ≡ true
unfolding productions code
protocol_is_told = refl

kind_is_uniform : (language : ℕ) → IsUniform (kind language)
unfolding kind common_kind lossy_kind
kind_is_uniform language = search depth 40 parts 40

section_is_uniform : (language used : ℕ) → IsUniform (section language used)
unfolding section up_to
section_is_uniform language used = search kind_is_uniform depth 40 parts 40

more_sections_is_uniform : (language : ℕ) (first : SectionText) → IsUniform (more_sections language first)
unfolding more_sections section up_to
more_sections_is_uniform language first = search kind_is_uniform depth 40 parts 40

set_is_uniform : IsUniform set
unfolding set
set_is_uniform = search depth 40 parts 40

base_is_uniform : IsUniform base
unfolding base letter_base set_base
base_is_uniform = search set_is_uniform depth 40 parts 40

count_is_uniform : IsUniform count
unfolding count
count_is_uniform = search depth 40 parts 40

atom_is_uniform : IsUniform atom
unfolding atom
atom_is_uniform = search (base_is_uniform, count_is_uniform) depth 40 parts 40

pattern_is_uniform : IsUniform pattern
unfolding pattern atoms up_to
pattern_is_uniform = search atom_is_uniform depth 40 parts 40

row_body_is_uniform : IsUniform row_body
unfolding row_body part
row_body_is_uniform = search pattern_is_uniform depth 40 parts 40

row_is_uniform : (word : Keyword) → IsUniform (row word)
unfolding row
row_is_uniform word = search row_body_is_uniform depth 40 parts 40

guard_is_uniform : IsUniform guard
unfolding guard quantifier region
guard_is_uniform = search set_is_uniform depth 40 parts 40

table_is_uniform : IsUniform table
unfolding table entry
table_is_uniform = search depth 40 parts 40

at_move_is_uniform : IsUniform at_move
unfolding at_move up_to
at_move_is_uniform = search (guard_is_uniform, table_is_uniform) depth 40 parts 40

four_names_is_uniform : (word : Keyword) → IsUniform (four_names word)
unfolding four_names
four_names_is_uniform word = search depth 40 parts 40

pushed_is_uniform : IsUniform pushed
unfolding pushed up_to
pushed_is_uniform = search depth 40 parts 40

common_move_is_uniform : IsUniform common_move
unfolding common_move pair_move ring_move two_move set_move channel_or_stack_move send_move recv_move pop_move push_move
common_move_is_uniform = search (at_move_is_uniform, four_names_is_uniform, pushed_is_uniform) depth 40 parts 40

any_move_is_uniform : (language : ℕ) → IsUniform (any_move language)
unfolding any_move later_move spawn_move exit_move lose_move
any_move_is_uniform language = search (common_move_is_uniform, base_is_uniform) depth 40 parts 40

rule_is_uniform : (language : ℕ) → IsUniform (rule language)
unfolding rule step
rule_is_uniform language = search any_move_is_uniform depth 40 parts 40

second_language_is_uniform : IsUniform second_language
unfolding second_language
second_language_is_uniform = search depth 40 parts 40

pub protocol_is_uniform : IsUniform protocol
unfolding protocol more_sections section kind any_move step rule up_to
protocol_is_uniform = (
  refl,
  λ _. (
    tt,
    λ _. (
      second_language_is_uniform,
      λ language. (
        section_is_uniform language 0,
        λ first. (
          more_sections_is_uniform language first,
          λ _. (
            λ _. row_is_uniform Words.Init,
            λ _. (λ _. rule_is_uniform language, λ _. (λ _. row_is_uniform Words.Bad, λ _. tt)),
          ),
        ),
      ),
    ),
  ),
)

pub properties_are_told : is_told (shape properties) ≡ true
unfolding productions code
properties_are_told = refl

pub properties_are_uniform : IsUniform properties
unfolding properties block up_to
properties_are_uniform = search row_body_is_uniform depth 40 parts 40
