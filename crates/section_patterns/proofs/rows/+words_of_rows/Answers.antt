use Rattle.std.proofs.Common.{◌≡◌, ◌↔◌, ◌||◌, ◌∙◌, ℕ, List, [], false, IsTrue, arith}
use Rattle.std.proofs.lemmas.Result.{IfOk-weaker}
use Rattle.std.proofs.lemmas.List.{nil_from_length}
use Rattle.word_automata.specs.Automaton.{accepts}
use Rattle.protocol_model.specs.Words.{automata_letters}
use Rattle.section_patterns.specs.private.Lists.{IsWordOfRows}
use Rattle.section_patterns.proofs.RowLemmas.{no_rows, rows_of_both}
use Rattle.section_patterns.proofs.rows.+words_of_rows.Goals as goal

pub returns-clause-language : goal.returns-clause-language
returns-clause-language t c =
    let rows = c.args.rows.now in
    let a = c.in_ok-a.a in
    let b = c.in_ok-b.b in
    IfOk-weaker c.united.result
    (λ u. (w : List ℕ) → accepts u w ≡ (accepts a w || accepts b w))
    (λ u. (w : List ℕ) → IsTrue (accepts u w) ↔ IsWordOfRows c.args.system.now rows w)
    (λ u same w. rows_of_both c.args.system.now c.split_at.result.0.now c.split_at.result.1.now rows c.split_at.ensures.by_index.0
    (accepts a w) (accepts b w) (accepts u w) w (same w) (c.in_ok-a.ensures.language w) (c.in_ok-b.ensures.language w))
    c.united.ensures.language

pub returns-clause-letters : goal.returns-clause-letters
returns-clause-letters t c =
    IfOk-weaker c.united.result (λ u. u.letters ≡ c.in_ok-a.a.letters) (λ u. u.letters ≡ automata_letters c.args.system.now)
    (λ u same. same ∙ c.in_ok-a.ensures.letters) c.united.ensures.letters

pub returns-then-is_empty-clause-language : goal.returns-then-is_empty-clause-language
returns-then-is_empty-clause-language t c =
    let s = c.args.system.now in
    let rows = c.args.rows.now in
    let none : rows ≡ [] = nil_from_length rows (grind arith) in
    IfOk-weaker c.no_words.result (λ u. (w : List ℕ) → accepts u w ≡ false) (λ u. (w : List ℕ) → IsTrue (accepts u w) ↔ IsWordOfRows s rows w)
    (λ u fails w. no_rows s rows none (accepts u w) w (fails w)) c.no_words.ensures.language
