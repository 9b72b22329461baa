use Rattle.std.proofs.Common.{◌≡◌, subst, arith}
use Rattle.past_abstraction.specs.private.WordSets.{HasEmptyLists}
use Rattle.past_abstraction.proofs.ImageStates.{lists_more}
use Rattle.past_abstraction.proofs.images.empty_lists.Goals as goal

pub letters-preserved : goal.letters-preserved
letters-preserved c = lists_more c.letters.lists.items c.push.new.self.items c.letters.counter c.new.result c.in_ok-push.ensures.items c.new.ensures.items c.letters.invariant

pub returns : goal.returns
returns c =
    let end : c.letters.counter ≡ c.args.letters = omega arith in
    subst (λ n. HasEmptyLists n c.letters.lists.items) end c.letters.invariant
