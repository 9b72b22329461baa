use Rattle.std.proofs.Common.{◌↔◌, ◌∙◌, ◌+◌, ◌∷◌, [], subst, sym, ap}
use Rattle.word_automata.specs.Nondeterministic.{Accepts, empty_nondeterministic}
use Rattle.section_patterns.specs.private.Languages.{IsAdded}
use Rattle.section_patterns.specs.private.Lists.{HasPatternsOf, IsRest, IsWordOfRows}
use Rattle.section_patterns.proofs.RowLemmas.{row_alone, valid_patterns}
use Rattle.section_patterns.proofs.rows.words_of_row.Goals as goal

pub add_sections-requires-clause-patterns : goal.add_sections-requires-clause-patterns
add_sections-requires-clause-patterns c =
    let sections = c.as_slice.ensures ∙ ap (λ d. d.sections) c.system.view_is in
    subst (HasPatternsOf c.args.row.now.parts 0) (sym sections) (valid_patterns c.args.system.now.sections c.args.row.now c.requires)

pub returns-clause-language : goal.returns-clause-language
returns-clause-language c = λ w.
    let s = c.args.system.now in
    let row = c.args.row.now in
    let mid = c.add_sections.new.builder in
    let front = c.in_ok-front.front in
    let sections = c.as_slice.ensures ∙ ap (λ d. d.sections) c.system.view_is in
    let added = subst (λ a. IsAdded (empty_nondeterministic (a + 1)) mid front (IsRest row.parts 0 0 a s.sections)) c.separator-separator.ensures.separator
    (subst (λ n. IsAdded n mid front (IsRest row.parts 0 0 c.separator-separator.result s.sections)) c.new-builder.ensures
    (subst (λ xs. IsAdded c.new-builder.result mid front (IsRest row.parts 0 0 c.separator-separator.result xs)) sections c.in_ok-front.ensures)) in
    let same = subst (λ n. Accepts n w ↔ IsWordOfRows s (row ∷ []) w) (sym c.finish.ensures)
    (row_alone s row mid front c.requires added w c.start.new.self c.in_ok-start.ensures.ok) in
    let read = c.in_ok-canonical_nfa.ensures.language w in
    (λ a. same.0 (read.0 a), λ r. read.1 (same.1 r))
