use Rattle.past_abstraction.proofs.ImageStates.{same_taken}
use Rattle.past_abstraction.proofs.images.take_sorted.Goals as goal

pub returns-clause-same : goal.returns-clause-same
returns-clause-same c =
    same_taken c.args.list.now.items c.sort_unstable.new.self.items c.dedup.new.self.items c.in_ok-take_all.field-0 c.sort_unstable.ensures.permutation
    c.dedup.ensures.filtered c.in_ok-take_all.ensures.same
