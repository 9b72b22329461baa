use Rattle.std.proofs.Common.{◌<◌, ◌*◌, All, length, sym, subst, arith}
use Rattle.past_abstraction.specs.private.WordSets.{HaveSameStates}
use Rattle.past_abstraction.proofs.ImageStates.{same_marked}
use Rattle.past_abstraction.proofs.images.take_marked.Goals as goal

pub mark-requires : goal.mark-requires
mark-requires c =
    subst (All (λ state. state < 64 * length c.args.marks.now)) (sym c.deref.ensures.value)
    (λ i d inside. (let l = c.requires.states i d inside in let r = c.requires.marks.room in omega arith))

pub returns-clause-same : goal.returns-clause-same
returns-clause-same c =
    let numbers = c.in_ok-states.states.items in
    let same =
    same_marked c.deref.result.now c.args.marks.now c.mark.new.marks numbers c.requires.marks.none c.mark.ensures.marked c.mark.ensures.only c.in_ok-states.ensures in
    subst (HaveSameStates c.args.list.now.items) (sym c.from_vec.ensures) (subst (λ states. HaveSameStates states numbers) c.deref.ensures.value same)

pub returns-clause-marks : goal.returns-clause-marks
returns-clause-marks c = record {
  none = c.clear-2.ensures.none;
  room = (let e = c.clear-2.ensures.room in let m = c.mark.ensures.room in let r = c.requires.marks.room in omega arith);
}
