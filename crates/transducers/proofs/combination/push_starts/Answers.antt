use Rattle.std.proofs.Common.{◌+◌, get_or, refl, ap, ◌∙◌}
use Rattle.transducers.proofs.Appended.{appended_more, appended_all}
use Rattle.transducers.proofs.combination.push_starts.Goals as goal

pub starts-preserved : goal.starts-preserved
starts-preserved c =
    let all = c.deref-start-items.result.now in
    appended_more (λ q. q + c.args.by) all c.starts.start-index c.args.starts.now.items c.starts.starts.items c.starts.invariant
    0 (get_or all c.starts.start-index 0 + c.args.by) c.push.new.self.items c.starts-test.true refl c.in_ok-push.ensures.items

pub returns : goal.returns
returns c =
    appended_all (λ q. q + c.args.by) c.deref-start-items.result.now c.starts.start-index c.args.starts.now.items c.starts.starts.items
    c.starts.invariant c.args.t.now.starts c.starts-test.false (c.deref-start-items.ensures.value ∙ ap (λ t. t.starts) c.t.view_is)
