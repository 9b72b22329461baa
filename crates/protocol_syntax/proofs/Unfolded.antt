-- The productions of both grammars by one name: what unfolds it unfolds each of them, and how forms in a row and choices are read.
use Rattle.std.specs.Prelude.{⊤}
use Rattle.forms.specs.Grammar.{up_to}
use Rattle.forms.specs.Reading.{read_or, read_then}
use Rattle.protocol_syntax.specs.Grammar.{common_kind, lossy_kind, kind, section, more_sections, set, letter_base, set_base, base, count, atom, atoms, pattern, part, row_body, row, quantifier, region, guard, entry, table, at_move, four_names, pair_move, ring_move, two_move, set_move, send_move, recv_move, pushed, pop_move, push_move, channel_or_stack_move, common_move, spawn_move, exit_move, lose_move, later_move, any_move, step, rule, second_language, protocol}
use Rattle.protocol_syntax.specs.Properties.{block, properties}

unfoldable pub productions : ⊤
unfolding common_kind lossy_kind kind section more_sections set letter_base set_base base count atom atoms pattern part row_body row quantifier region
    guard entry table at_move four_names pair_move ring_move two_move set_move send_move recv_move pushed pop_move push_move
    channel_or_stack_move common_move spawn_move exit_move lose_move later_move any_move step rule second_language protocol
    block properties up_to read_or read_then
productions = tt
