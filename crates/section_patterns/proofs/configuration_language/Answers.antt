use Rattle.std.proofs.Common.{◌∙◌}
use Rattle.section_patterns.proofs.FreeRows.{free_is_valid, free_words}
use Rattle.section_patterns.proofs.configuration_language.Goals as goal

pub words_of_row-requires : goal.words_of_row-requires
words_of_row-requires c = free_is_valid c.args.system.now.sections c.from_vec.result (c.from_vec.ensures ∙ c.new.ensures.items)

pub returns-clause-language : goal.returns-clause-language
returns-clause-language c w =
    free_words c.args.system.now c.from_vec.result (c.from_vec.ensures ∙ c.new.ensures.items) w _ (c.in_ok-words_of_row.ensures.language w)
