use Rattle.std.proofs.Common.{◌<◌, All, [], length, get_or, sym, subst, ◌∙◌, arith}
use Rattle.std.proofs.lemmas.List.Elements.{Contains-get_or}
use Rattle.past_abstraction.specs.private.WordSets.{LeadsFrom, AreImages}
use Rattle.past_abstraction.proofs.Adding.{read_at, set_states, images_none, images_more, images_all}
use Rattle.past_abstraction.proofs.ImageStates.{first_lists, no_lists, is_list_of, image_of_states, lists_from_next}
use Rattle.past_abstraction.proofs.word_sets.add_images.Goals as goal

pub put_images-requires-clause-states : goal.put_images-requires-clause-states
put_images-requires-clause-states c =
    let a = c.args.a.now in
    let old = c.args.sets.now.keys in
    let number = c.args.number in
    let read = c.as_slice-2.ensures ∙ read_at old c.as_slice.result.now c.index-as_slice-number.result number c.as_slice.ensures.keys c.requires.within c.index-as_slice-number.is in
    subst (All (λ p. p < length a.states)) (sym read)
    (set_states a old c.args.blocks.now (get_or old number []) c.requires.before (Contains-get_or old number [] c.requires.within))

pub letters-init : goal.letters-init
letters-init c =
    let a = c.args.a.now in
    let old = c.args.sets.now.keys in
    let number = c.args.number in
    let lists = c.put_images.new.lists.items in
    let read = c.as_slice-2.ensures ∙ read_at old c.as_slice.result.now c.index-as_slice-number.result number c.as_slice.ensures.keys c.requires.within c.index-as_slice-number.is in
    record {
      lists = first_lists (LeadsFrom a (get_or old number [])) a.letters lists c.in_ok-put_images.ensures.count (subst (λ set. AreImages a set lists) read c.in_ok-put_images.ensures.images);
      marks = c.requires.marks;
      blocks = c.requires.before;
      images = images_none a (get_or old number []) old;
    }

pub add_states-requires-clause-states : goal.add_states-requires-clause-states
add_states-requires-clause-states c =
    let before = c.letters.invariant in
    let within : c.letters.letter < length c.letters.lists.items =
    (let e = c.len-letter-end.ensures in let n = before.lists.count in let m = c.in_ok-put_images.ensures.count in omega arith) in
    let a = c.args.a.now in
    let set = get_or c.args.sets.now.keys c.args.number [] in
    let list = c.index_mut-list.result.now in
    image_of_states a before.blocks.valid set list.items c.letters.letter
    (is_list_of (LeadsFrom a set) a.letters c.letters.letter c.letters.lists.items list within c.index_mut-list.ensures.value before.lists)

pub letters-preserved : goal.letters-preserved
letters-preserved c =
    let a = c.args.a.now in
    let old = c.args.sets.now.keys in
    let set = get_or old c.args.number [] in
    let letter = c.letters.letter in
    let lists = c.letters.lists.items in
    let list = c.index_mut-list.result.now in
    let before = c.letters.invariant in
    let within : letter < length lists =
    (let e = c.len-letter-end.ensures in let n = before.lists.count in let m = c.in_ok-put_images.ensures.count in omega arith) in
    let list_is = c.index_mut-list.ensures.value in
    record {
      lists = lists_from_next (LeadsFrom a set) a.letters letter lists list within list_is before.lists c.add_states.new.list c.in_ok-add_states.ensures.cleared;
      marks = c.in_ok-add_states.ensures.marks;
      blocks = c.in_ok-add_states.ensures.blocks;
      images = images_more a set list.items letter old c.letters.sets.keys c.add_states.new.sets.keys
          (is_list_of (LeadsFrom a set) a.letters letter lists list within list_is before.lists) before.images c.in_ok-add_states.ensures.set;
    }

pub returns-clause-lists : goal.returns-clause-lists
returns-clause-lists c =
    let before = c.letters.invariant in
    no_lists (LeadsFrom c.args.a.now (get_or c.args.sets.now.keys c.args.number [])) c.args.a.now.letters c.letters.letter
    c.letters.lists.items
    (let past = c.letters-test.false in let e = c.len-letter-end.ensures in let n = before.lists.count in let m = c.in_ok-put_images.ensures.count in omega arith) before.lists

pub returns-clause-images : goal.returns-clause-images
returns-clause-images c =
    let before = c.letters.invariant in
    images_all c.args.a.now before.blocks.valid (get_or c.args.sets.now.keys c.args.number []) c.letters.letter c.args.sets.now.keys c.letters.sets.keys
    (let past = c.letters-test.false in let e = c.len-letter-end.ensures in let m = c.in_ok-put_images.ensures.count in omega arith) before.images
