use Rattle.std.proofs.Common.{sym, subst}
use Rattle.certificate.specs.declared.said.Said.TheVariants as S
use Rattle.certificate.specs.private.Kept.{Takes}
use Rattle.certificate.proofs.reading.CertificatesTextForm.take.Goals as goal

pub returns-in-Title : goal.returns-in-Title
returns-in-Title c =
    subst (λ said. Takes c.args.self.now.0.now c.args.read.now said c.take_title.result c.take_title.new.read) (sym c.in-Title.is) (c.take_title.ensures c.args.self.now.0.now)

pub returns-in-Letter : goal.returns-in-Letter
returns-in-Letter c =
    subst (λ said. Takes c.args.self.now.0.now c.args.read.now said c.take_letter.result c.take_letter.new.read) (sym c.in-Letter.is) c.take_letter.ensures

pub returns-in-States : goal.returns-in-States
returns-in-States c =
    subst (λ said. Takes c.args.self.now.0.now c.args.read.now said c.take_states.result c.take_states.new.read) (sym c.in-States.is) c.take_states.ensures

pub returns-in-Final : goal.returns-in-Final
returns-in-Final c =
    subst (λ said. Takes c.args.self.now.0.now c.args.read.now said c.take_final.result c.take_final.new.read) (sym c.in-Final.is) (c.take_final.ensures c.args.self.now.0.now)

pub returns-in-Edge : goal.returns-in-Edge
returns-in-Edge c =
    subst (λ said. Takes c.args.self.now.0.now c.args.read.now said c.add_edge.result c.add_edge.new.read) (sym c.in-Edge.is) c.add_edge.ensures.kept

pub returns-in-Edges : goal.returns-in-Edges
returns-in-Edges c =
    let s = c.args.self.now.0.now in
    let old = c.args.read.now in
    let new = c.take_edges.new.read in
    subst (λ said. Takes s old said c.take_edges.result new) (sym c.in-Edges.is)
    (subst (λ indices. Takes s old (S.Edges c.in-Edges.from c.in-Edges.to indices) c.take_edges.result new) c.as_slice.ensures c.take_edges.ensures)

pub returns-in-Start : goal.returns-in-Start
returns-in-Start c =
    subst (λ said. Takes c.args.self.now.0.now c.args.read.now said c.take_start.result c.take_start.new.read) (sym c.in-Start.is) c.take_start.ensures

pub returns-in-Step : goal.returns-in-Step
returns-in-Step c =
    subst (λ said. Takes c.args.self.now.0.now c.args.read.now said c.take_step.result c.take_step.new.read) (sym c.in-Step.is) c.take_step.ensures
