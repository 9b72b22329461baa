use Rattle.std.proofs.Common.{◌≡◌, ℕ, List, [], drop, length, get_or, refl, sym, ap, subst, ◌∙◌, arith}
use Rattle.std.proofs.lemmas.List.{length-drop, nil_from_length}
use Rattle.std.specs.Vec.Iter.{into_iter_items}
use Rattle.word_automata.specs.StateSets.{IsStep}
use Rattle.bit_subsets.specs.Subsets.{members}
use Rattle.bit_subsets.proofs.Successors.{drop_head, successors_none, successors_all}
use Rattle.bit_subsets.proofs.BitSubsetsLanguageSystem.successors.Goals as goal

pub rows-init : goal.rows-init
rows-init c = (tt, tt, successors_none c.args.self.now.automaton.now c.args.state.now c.in_ok-successors.successors.items c.in_ok-successors.ensures.items c.requires, omega arith, refl)

pub overflow_add-letter : goal.overflow_add-letter
overflow_add-letter c =
    let rows = into_iter_items c.into_iter-row-iterator.result in
    let head = drop_head rows (into_iter_items c.next.new.self) c.rows.letter c.in-Some.row [] (c.rows.invariant.4 ∙ c.in-Some.ensures.steps.0) in
    let less = head.0 in
    let same = ap length c.into_iter-row-iterator.ensures.into_iter_gives.0 in
    let count = c.in_ok-rows.ensures.count in
    let letters = c.letters-letters.ensures in
    omega arith

pub rows-preserved : goal.rows-preserved
rows-preserved c =
    let n = c.args.self.now.automaton.now in
    let set = c.args.state.now in
    let rows = into_iter_items c.into_iter-row-iterator.result in
    let head = drop_head rows (into_iter_items c.next.new.self) c.rows.letter c.in-Some.row [] (c.rows.invariant.4 ∙ c.in-Some.ensures.steps.0) in
    let here : get_or c.in_ok-rows.rows.items c.rows.letter [] ≡ c.in-Some.row =
    ap (λ (xs : List (List ℕ)). get_or xs c.rows.letter []) (sym c.into_iter-row-iterator.ensures.into_iter_gives.0) ∙ head.1 in
    let step = subst (λ (row : List ℕ). IsStep n c.rows.letter (members set) (members row)) here (c.in_ok-rows.ensures.steps c.rows.letter) in
    (tt, tt, c.in_ok-add_successor.ensures set step c.rows.invariant.2, (let less = head.0 in omega arith), head.2)

pub returns : goal.returns
returns c =
    let n = c.args.self.now.automaton.now in
    let rows = into_iter_items c.into_iter-row-iterator.result in
    let none : drop c.rows.letter rows ≡ [] =
    c.rows.invariant.4 ∙ nil_from_length (into_iter_items c.rows.row-iterator) (let l = c.rows.row-iterator.rest.ok.0 in let z = c.in-None.ensures.steps.0 in omega arith) in
    let end : c.rows.letter ≡ length c.in_ok-rows.rows.items =
    (let e = ap length none in let f = length-drop c.rows.letter rows in let within = c.rows.invariant.3 in let same = ap length c.into_iter-row-iterator.ensures.into_iter_gives.0 in omega arith) in
    successors_all n c.args.state.now c.in_ok-rows.rows.items c.rows.successors.items c.in_ok-rows.ensures c.rows.letter end c.rows.invariant.2
