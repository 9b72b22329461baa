use Rattle.std.proofs.Common.{◌∙◌, sym, ap}
use Rattle.word_automata.proofs.ForCallers.{accepts-empty}
use Rattle.section_patterns.proofs.rows.no_words.Goals as goal

pub returns-clause-language : goal.returns-clause-language
returns-clause-language c w = sym (c.in_ok-canonical.ensures.language w) ∙ accepts-empty c.finish-none.result (ap (λ m. m.states) (c.finish-none.ensures ∙ c.new.ensures)) w
