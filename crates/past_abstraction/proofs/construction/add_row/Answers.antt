use Rattle.std.proofs.Common.{◌≡◌, ◌<◌, [], Contains, length, get_or, sym, subst, ◌∙◌, inl, inr, arith}
use Rattle.word_automata.proofs.ForCallers.{Contains-none}
use Rattle.past_abstraction.specs.private.PastSets.{LeadsInto, ArePreimages, IsPreimage}
use Rattle.past_abstraction.proofs.Expanding.{continues_same, continues_both, edge_added, edge_continues, edge_left, HasState, has_state, longer}
use Rattle.past_abstraction.proofs.Expanding.{read_at}
use Rattle.past_abstraction.proofs.Expanding.{row_ended, same_place, same_preimage}
use Rattle.past_abstraction.proofs.ImageStates.{first_lists, is_list_of, lists_from_next, no_lists}
use Rattle.past_abstraction.proofs.PreimageStates.{no_states, some_states}
use Rattle.past_abstraction.proofs.construction.add_row.Goals as goal
use Rattle.past_abstraction.proofs.construction.add_row.Goals.{In_ok-to}

pub put_preimages-requires-clause-letters : goal.put_preimages-requires-clause-letters
put_preimages-requires-clause-letters c q edge leads = subst (λ n. edge.0 < n) (sym c.requires.lists.count) (c.requires.alphabet.1 q edge leads)

pub letters-init : goal.letters-init
letters-init c =
    let old = c.args.sets.now.keys in
    let number = c.args.number in
    let lists = c.put_preimages.new.lists.items in
    let read = c.as_slice-2.ensures ∙ read_at old c.as_slice.result.now c.index-as_slice-number.result number c.as_slice.ensures.keys
    c.requires.within c.index-as_slice-number.is in
    record {
      lists = first_lists (LeadsInto c.args.into.now (get_or old number [])) c.args.letters lists
          (c.in_ok-put_preimages.ensures.count ∙ c.requires.lists.count)
          (subst (λ set. ArePreimages c.args.into.now set lists) read c.in_ok-put_preimages.ensures.preimages);
      expanded = c.requires.before;
      continues = continues_same number c.args.builder.now old;
    }

pub letters-preserved-then-is_empty : goal.letters-preserved-then-is_empty
letters-preserved-then-is_empty c =
    let before = c.letters.invariant in
    let old = c.args.sets.now.keys in
    let now = c.letters.sets.keys in
    let number = c.args.number in
    let at = c.letters.letter in
    let set = get_or old number [] in
    let lists = c.letters.lists.items in
    let list = c.index_mut-list.result.now in
    let within : at < length lists = (let e = before.lists.count in omega arith) in
    let none : list.items ≡ [] = no_states list c.is_empty.result c.is_empty.ensures c.if-is_empty.true in
    let is = is_list_of (LeadsInto c.args.into.now set) c.args.letters at lists list within c.index_mut-list.ensures.value before.lists in
    let row = same_place number c.args.builder.now c.letters.builder old now before.continues number c.requires.within in
    record {
      lists = lists_from_next (LeadsInto c.args.into.now set) c.args.letters at lists list within c.index_mut-list.ensures.value before.lists list none;
      expanded = edge_left c.args.into.now c.letters.builder now number at before.expanded
          (λ p leads. Contains-none p (subst (λ xs. Contains xs p) none ((is p).1 (subst (λ s. LeadsInto c.args.into.now s at p) row leads))));
      continues = before.continues;
    }

-- the state of the set to which the edge leads
inside : (c : In_ok-to) → c.args.number < length c.letters.sets.keys
inside c =
    let l = longer c.args.number c.args.builder.now c.letters.builder c.args.sets.now.keys c.letters.sets.keys c.letters.invariant.continues in
    let r = c.requires.within in
    omega arith

has : (c : In_ok-to) → HasState c.args.into.now c.letters.builder c.number_of.new.builder c.letters.sets.keys c.number_of.new.sets.keys c.args.number
    c.letters.letter c.in_ok-set.set c.in_ok-to.to
has c =
    let list = c.index_mut-list.result.now in
    let some = some_states list c.is_empty.result c.is_empty.ensures c.if-is_empty.false in
    has_state c.args.into.now c.letters.builder c.number_of.new.builder c.letters.sets.keys c.number_of.new.sets.keys c.args.number c.letters.letter
    c.in_ok-set.set c.in_ok-to.to some.0 ((c.in_ok-set.ensures.same some.0).1 some.1) (inside c) c.letters.invariant.expanded c.in_ok-to.ensures

pub add_edge-requires-clause-in_range : goal.add_edge-requires-clause-in_range
add_edge-requires-clause-in_range c =
    let at = (goal.at.add_edge-requires-clause-in_range c).In_ok-to in
    let state = has at in
    let less = inside at in
    let states = state.expanded.states in
    record {
      from_state = (let l = longer (length c.letters.sets.keys) c.letters.builder c.number_of.new.builder c.letters.sets.keys
          c.number_of.new.sets.keys
          state.continues in omega arith);
      in_alphabet = (let e = state.continues.same_letters ∙ c.letters.invariant.continues.same_letters ∙ c.requires.alphabet.0 in omega arith);
      to_state = (let l = state.within in omega arith);
    }

pub add_edge-requires-clause-last : goal.add_edge-requires-clause-last
add_edge-requires-clause-last c q letter less =
    (has (goal.at.add_edge-requires-clause-last c).In_ok-to).expanded.without q letter
    (λ earlier. elim earlier [ inl l ↦ omega arith | inr same ↦ (let e = same.0 in omega arith) ])

pub add_edge-requires-clause-absent : goal.add_edge-requires-clause-absent
add_edge-requires-clause-absent c =
    (has (goal.at.add_edge-requires-clause-absent c).In_ok-to).expanded.without c.args.number c.letters.letter
    (λ earlier. elim earlier [ inl l ↦ omega arith | inr same ↦ (let l = same.1 in omega arith) ])

pub letters-preserved : goal.letters-preserved
letters-preserved c =
    let before = c.letters.invariant in
    let into = c.args.into.now in
    let old = c.args.sets.now.keys in
    let now = c.letters.sets.keys in
    let more = c.number_of.new.sets.keys in
    let number = c.args.number in
    let at = c.letters.letter in
    let list = c.index_mut-list.result.now in
    let set = c.in_ok-set.set in
    let to = c.in_ok-to.to in
    let state = has (goal.at.letters-preserved c).In_ok-to in
    let less = inside (goal.at.letters-preserved c).In_ok-to in
    let lists = c.letters.lists.items in
    let within : at < length lists = (let e = before.lists.count in omega arith) in
    let row = same_place number c.args.builder.now c.letters.builder old now before.continues number c.requires.within in
    let on = continues_both number (length now) c.args.builder.now c.letters.builder c.number_of.new.builder old now more (omega arith)
    before.continues state.continues in
    let is =
    same_preimage into (get_or old number []) at list.items set
    (is_list_of (LeadsInto into (get_or old number [])) c.args.letters at lists list within c.index_mut-list.ensures.value before.lists) c.in_ok-set.ensures.same
    in
    let row_now = same_place number c.args.builder.now c.number_of.new.builder old more on number c.requires.within in
    record {
      lists = lists_from_next (LeadsInto into (get_or old number [])) c.args.letters at lists list within c.index_mut-list.ensures.value before.lists
          c.take_sorted.new.list c.in_ok-set.ensures.cleared;
      expanded = edge_added into c.number_of.new.builder c.add_edge.new.self more number at to state.expanded c.in_ok-add_edge.ensures.ok state.within
          (subst (λ s. IsPreimage into s at (get_or more to [])) (sym row_now) (subst (IsPreimage into (get_or old number []) at) (sym state.is) is));
      continues = continues_both number number c.args.builder.now c.number_of.new.builder c.add_edge.new.self old more more (omega arith) on
          (edge_continues c.number_of.new.builder c.add_edge.new.self more number at to c.in_ok-add_edge.ensures.ok);
    }

pub returns-clause-lists : goal.returns-clause-lists
returns-clause-lists c =
    no_lists (LeadsInto c.args.into.now (get_or c.args.sets.now.keys c.args.number [])) c.args.letters c.letters.letter c.letters.lists.items (omega arith)
    c.letters.invariant.lists

pub returns-clause-expanded : goal.returns-clause-expanded
returns-clause-expanded c =
    row_ended c.args.into.now c.args.letters c.letters.builder c.letters.sets.keys c.args.number c.letters.letter c.requires.alphabet.1 (omega arith)
    c.letters.invariant.expanded
