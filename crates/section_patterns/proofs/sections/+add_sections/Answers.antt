use Rattle.std.proofs.Common.{◌≡◌, ◌-◌, [], length, take, drop, subst, sym, arith}
use Rattle.std.proofs.lemmas.List.{nil_from_length}
use Rattle.std.specs.Option.{option_copied}
use Rattle.section_patterns.specs.private.Languages.{IsAdded}
use Rattle.section_patterns.specs.private.Lists.{IsRest}
use Rattle.section_patterns.proofs.ListLemmas.{first_and_rest}
use Rattle.std.proofs.lemmas.Result.{IfOk-weaker}
use Rattle.section_patterns.proofs.SectionLemmas.{section_next, sections_none}
use Rattle.section_patterns.proofs.sections.+add_sections.Goals as goal

pub returns-in-empty : goal.returns-in-empty
returns-in-empty t c =
    let old = c.args.builder.now in
    let new = c.add_end.new.builder in
    let none : c.args.sections.now ≡ [] = nil_from_length c.args.sections.now (omega (arith, c.in-empty.len_below)) in
    IfOk-weaker c.add_end.result
    (λ state. IsAdded old new state (λ w. w ≡ []))
    (λ state. IsAdded old new state (IsRest c.args.row.now.parts c.args.number c.args.offset c.args.separator c.args.sections.now))
    (λ state added. subst (λ xs. IsAdded old new state (IsRest c.args.row.now.parts c.args.number c.args.offset c.args.separator xs)) (sym none)
    (sections_none c.args.row.now.parts c.args.number c.args.offset c.args.separator old new state added))
    c.add_end.ensures

pub returns-in_ok-state-in-len1-up : goal.returns-in_ok-state-in-len1-up
returns-in_ok-state-in-len1-up t c =
    let sections = c.args.sections.now in
    section_next c.args.row.now.parts c.args.number c.args.offset c.args.separator sections (take (length sections - 1) (drop 1 sections))
    c.section-item.result c.letter_count-count.result (option_copied c.pattern_of.result) c.args.builder.now c.add_sections.new.builder
    c.add_separator.new.builder c.add_section.new.builder c.in_ok-behind-in-len1-up.behind c.in_ok-next-in-len1-up.next
    c.in_ok-state-in-len1-up.state
    (first_and_rest sections c.section-item.result c.in-len1-up.len_at_least c.section-item.is) c.letter_count-count.ensures c.pattern_of.ensures
    c.in_ok-behind-in-len1-up.ensures c.in_ok-next-in-len1-up.ensures c.in_ok-state-in-len1-up.ensures
