use Rattle.std.proofs.Common.{get_or, refl, ap}
use Rattle.transducers.specs.declared.Label.{Label}
use Rattle.transducers.specs.Combination.{copy_edge}
use Rattle.transducers.proofs.Appended.{appended_more, appended_all}
use Rattle.transducers.proofs.joining.push_bridges.Goals as goal

pub targets-preserved : goal.targets-preserved
targets-preserved c =
    let to = get_or c.args.targets.now c.targets.target-index 0 in
    appended_more (λ target. copy_edge target c.args.separator) c.args.targets.now c.targets.target-index c.args.edges.now.items c.targets.edges.items
    c.targets.invariant 0 (c.exchange.result, to) c.push.new.self.items c.targets-test.true (ap (λ (label : Label). (label, to)) c.exchange.ensures)
    c.in_ok-push.ensures.items

pub returns : goal.returns
returns c =
    appended_all (λ target. copy_edge target c.args.separator) c.args.targets.now c.targets.target-index c.args.edges.now.items c.targets.edges.items
    c.targets.invariant c.args.targets.now c.targets-test.false refl
