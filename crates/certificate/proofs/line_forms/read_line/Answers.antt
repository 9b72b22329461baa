use Rattle.std.proofs.Common.{IfOk, sym, subst}
use Rattle.lines.specs.Reading.{IsReading}
use Rattle.certificate.specs.Lines.{line_at}
use Rattle.certificate.proofs.line_forms.read_line.Goals as goal

pub returns-in-Title : goal.returns-in-Title
returns-in-Title c =
    subst (λ at. IfOk c.read.result (IsReading (line_at c.args.alphabet.now at) c.args.line.now)) (sym c.in-Title.is) c.read.ensures

pub returns-in-NamedEdges : goal.returns-in-NamedEdges
returns-in-NamedEdges c =
    subst (λ at. IfOk c.read-in-NamedEdges.result (IsReading (line_at c.args.alphabet.now at) c.args.line.now)) (sym c.in-NamedEdges.is)
    c.read-in-NamedEdges.ensures

pub returns-in-IndexedEdges : goal.returns-in-IndexedEdges
returns-in-IndexedEdges c =
    subst (λ at. IfOk c.read-in-IndexedEdges.result (IsReading (line_at c.args.alphabet.now at) c.args.line.now)) (sym c.in-IndexedEdges.is)
    c.read-in-IndexedEdges.ensures

pub returns-in-Start : goal.returns-in-Start
returns-in-Start c =
    subst (λ at. IfOk c.read-in-Start.result (IsReading (line_at c.args.alphabet.now at) c.args.line.now)) (sym c.in-Start.is) c.read-in-Start.ensures

pub returns-in-Steps : goal.returns-in-Steps
returns-in-Steps c =
    subst (λ at. IfOk c.read-in-Steps.result (IsReading (line_at c.args.alphabet.now at) c.args.line.now)) (sym c.in-Steps.is) c.read-in-Steps.ensures

pub returns-in-States : goal.returns-in-States
returns-in-States c =
    subst (λ at. IfOk c.read-in-States.result (IsReading (line_at c.args.alphabet.now at) c.args.line.now)) (sym c.in-States.is) c.read-in-States.ensures

pub returns-in-Letters : goal.returns-in-Letters
returns-in-Letters c =
    subst (λ at. IfOk c.read-in-Letters.result (IsReading (line_at c.args.alphabet.now at) c.args.line.now)) (sym c.in-Letters.is) c.read-in-Letters.ensures
