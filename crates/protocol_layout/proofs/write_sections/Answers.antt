use Rattle.protocol_layout.specs.Layout.{line, section_words}
use Rattle.protocol_layout.proofs.WordsWritten.{each_more, each_all}
use Rattle.protocol_layout.proofs.write_sections.Goals as goal

pub sections-preserved : goal.sections-preserved
sections-preserved c =
    each_more line section_words c.args.sections.now c.sections.section-index c.section-item.result c.args.out.now.items c.sections.out.items c.write_section.new.out.items
    c.sections-test.true c.section-item.is c.sections.invariant c.in_ok-write_section.ensures

pub returns : goal.returns
returns c = each_all line section_words c.args.sections.now c.sections.section-index c.args.out.now.items c.sections.out.items c.sections-test.false c.sections.invariant
