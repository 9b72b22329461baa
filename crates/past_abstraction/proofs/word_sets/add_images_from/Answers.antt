use Rattle.std.proofs.Common.{◌<◌, length, arith}
use Rattle.past_abstraction.proofs.Adding.{images_of_more, images_of_all}
use Rattle.past_abstraction.proofs.word_sets.add_images_from.Goals as goal

pub sets-preserved : goal.sets-preserved
sets-preserved c =
    let old = c.args.sets.now.keys in
    let number = c.sets.number in
    let within : number < length old = (let e = c.len-number-end.ensures.len in omega arith) in
    record {
      lists = c.in_ok-add_images.ensures.lists;
      marks = c.in_ok-add_images.ensures.marks;
      blocks = c.in_ok-add_images.ensures.blocks;
      images = images_of_more c.args.a.now c.args.first number old c.sets.sets.keys c.add_images.new.sets.keys within c.sets.invariant.images c.in_ok-add_images.ensures.images;
    }

pub returns-clause-images : goal.returns-clause-images
returns-clause-images c whole =
    images_of_all c.args.a.now c.args.first c.sets.number c.args.sets.now.keys c.sets.sets.keys (let e = c.len-number-end.ensures.len in let past = c.sets-test.false in omega arith)
    c.sets.invariant.images
