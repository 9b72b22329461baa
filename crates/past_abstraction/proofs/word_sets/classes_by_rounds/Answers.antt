use Rattle.std.proofs.Common.{◌≡◌, ◌<◌, ◌+◌, ℕ, length, slice_index, sym, subst, arith}
use Rattle.past_abstraction.specs.private.WordSets.{AreWordSets}
use Rattle.past_abstraction.proofs.WordClasses.{classes_by_sets, classes_alone}
use Rattle.past_abstraction.proofs.Rounds.{next_sets, all_sets}
use Rattle.past_abstraction.proofs.word_sets.classes_by_rounds.Goals as goal

pub rounds-init : goal.rounds-init
rounds-init c = record { lists = c.requires.lists; marks = c.requires.marks; blocks = c.requires.before; words = c.requires.words }

pub returns-then-first-end : goal.returns-then-first-end
returns-then-first-end c =
    let a = c.args.a.now in
    let sets = c.rounds.sets.keys in
    let blocks = c.rounds.blocks in
    let bound = c.args.bound in
    let before = c.rounds.invariant in
    let none_new : c.rounds.first ≡ length sets = (let l = c.len-end.ensures.len in let e = c.if-first-end.true in omega arith) in
    let all = all_sets a c.rounds.counter sets (subst (λ f. AreWordSets a c.rounds.counter f sets) none_new before.words) bound (omega arith) in
    classes_by_sets a sets blocks c.in_ok-stable.stable.items bound bound (length sets) before.blocks c.in_ok-stable.ensures all (omega arith) (omega arith)

pub returns-then-are_single : goal.returns-then-are_single
returns-then-are_single c =
    let before = c.rounds.invariant in
    classes_alone c.args.a.now c.rounds.sets.keys c.rounds.blocks c.in_ok-classes.classes.items c.args.bound c.rounds.counter c.rounds.first before.blocks c.in_ok-classes.ensures before.words
    (omega arith)
    (subst (λ xs. (p : ℕ) → p < length xs → slice_index xs p ≡ p) c.deref.ensures.value (c.are_single.ensures c.if-are_single.true))

pub rounds-preserved : goal.rounds-preserved
rounds-preserved c =
    let a = c.args.a.now in
    let old = c.rounds.sets.keys in
    let new = c.add_images_from.new.sets.keys in
    let before = c.rounds.invariant in
    record {
      lists = c.in_ok-whole.ensures.lists;
      marks = c.in_ok-whole.ensures.marks;
      blocks = c.in_ok-whole.ensures.blocks;
      words = subst (λ n. AreWordSets a (c.rounds.counter + 1) n new) (sym c.len-end.ensures.len)
          (next_sets a c.rounds.counter c.rounds.first old new (c.in_ok-whole.ensures.images c.if-not-whole.false) before.words);
    }

pub returns : goal.returns
returns c =
    let a = c.args.a.now in
    let sets = c.rounds.sets.keys in
    let blocks = c.rounds.blocks in
    let bound = c.args.bound in
    let before = c.rounds.invariant in
    let end : c.rounds.counter ≡ bound = omega arith in
    classes_by_sets a sets blocks c.in_ok-last.last.items bound bound c.rounds.first before.blocks c.in_ok-last.ensures
    (subst (λ k. AreWordSets a k c.rounds.first sets) end before.words) (omega arith) (omega arith)
