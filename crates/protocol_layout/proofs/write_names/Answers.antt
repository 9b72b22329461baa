use Rattle.protocol_syntax.specs.Spacing.{spaced}
use Rattle.forms.specs.declared.name.Name.{Name}
use Rattle.protocol_layout.proofs.WordsWritten.{each_more, each_all}
use Rattle.protocol_layout.proofs.write_names.Goals as goal

pub names-preserved : goal.names-preserved
names-preserved c =
    each_more spaced (λ (n : Name). n.text) c.args.names.now c.names.name-index c.name-item.result c.args.out.now.items c.names.out.items c.write_name.new.out.items
    c.names-test.true c.name-item.is c.names.invariant c.in_ok-write_name.ensures

pub returns : goal.returns
returns c = each_all spaced (λ (n : Name). n.text) c.args.names.now c.names.name-index c.args.out.now.items c.names.out.items c.names-test.false c.names.invariant
