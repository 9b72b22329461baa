use Rattle.std.proofs.Common.{◌≡◌, ◌<◌, ◌+◌, ℕ, suc, length, sym, subst, ◌∙◌, arith}
use Rattle.past_abstraction.specs.private.PastSets.{AreInAlphabet, AreExpanded}
use Rattle.past_abstraction.specs.private.WordSets.{HasEmptyLists}
use Rattle.past_abstraction.proofs.Expanding.{single_expanded, longer, same_place}
use Rattle.past_abstraction.proofs.Reversed.{StaysBelow, stays_more, in_alphabet, is_past_automaton}
use Rattle.past_abstraction.proofs.past_automaton.add_rounds.Goals as goal

pub rounds-init : goal.rounds-init
rounds-init c =
    let a = c.args.a.now in
    let sets = c.args.sets.now.keys in
    let before = c.requires.single in
    record {
      lists = subst (λ n. HasEmptyLists n c.in_ok-lists.lists.items) c.letters.ensures c.in_ok-lists.ensures;
      letters = before.same_letters;
      within = omega arith;
      all = (let e = before.count_is in omega arith);
      expanded = single_expanded c.args.into.now (length a.states) a.letters c.args.builder.now sets before;
      stays = λ q there. (let e = before.count_is in let f = before.states in omega arith);
      single = λ q there. before.single q (let e = before.count_is in omega arith);
    }

pub add_rows-requires-clause-alphabet : goal.add_rows-requires-clause-alphabet
add_rows-requires-clause-alphabet c = (
  c.rounds.invariant.letters ∙ sym c.letters-in-rounds.ensures,
  subst (AreInAlphabet c.args.into.now) (sym c.letters-in-rounds.ensures) (in_alphabet c.args.a.now c.args.into.now c.requires.incoming),
)

pub add_rows-requires-clause-lists : goal.add_rows-requires-clause-lists
add_rows-requires-clause-lists c = subst (λ n. HasEmptyLists n c.rounds.lists.items) (sym c.letters-in-rounds.ensures) c.rounds.invariant.lists

pub rounds-preserved : goal.rounds-preserved
rounds-preserved c =
    let a = c.args.a.now in
    let into = c.args.into.now in
    let first = c.rounds.first in
    let old = c.rounds.sets.keys in
    let new = c.add_rows.new.sets.keys in
    let before = c.rounds.invariant in
    let on = c.in_ok-add_rows.ensures.continues in
    let end = c.len-end.ensures.len in
    let more = longer first c.rounds.builder c.add_rows.new.builder old new on in
    let expanded = c.in_ok-add_rows.ensures.expanded in
    let letter : suc c.rounds.counter ≡ c.rounds.counter + 1 = omega arith in
    record {
      lists = subst (λ n. HasEmptyLists n c.add_rows.new.lists.items) c.letters-in-rounds.ensures c.in_ok-add_rows.ensures.lists;
      letters = on.same_letters ∙ before.letters;
      within = omega arith;
      all = (let l = before.all in omega arith);
      expanded = subst (λ n. AreExpanded into c.add_rows.new.builder new n 0) (sym end) expanded;
      stays = λ q there.
          subst (λ n. StaysBelow c.add_rows.new.builder n (c.rounds.counter + 1) q) (sym end)
          (subst (λ k. StaysBelow c.add_rows.new.builder (length old) k q) letter
          (stays_more into c.rounds.builder c.add_rows.new.builder old new first before.expanded before.within expanded on c.rounds.counter q
          (before.stays q there)));
      single = λ q there. same_place first c.rounds.builder c.add_rows.new.builder old new on q (let l = before.all in omega arith) ∙ before.single q
          there;
    }

pub returns : goal.returns
returns c =
    let a = c.args.a.now in
    let before = c.rounds.invariant in
    is_past_automaton a c.args.into.now c.requires.incoming c.rounds.builder c.rounds.sets.keys c.rounds.first before.expanded before.within
    c.args.bound before.all
    (subst (λ k. (q : ℕ) → q < length a.states → StaysBelow c.rounds.builder c.rounds.first k q) (omega arith) before.stays) before.single
