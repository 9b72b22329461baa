use Rattle.std.proofs.Common.{◌<◌, ◌↔◌, ℕ, List, Some, Contains, length, get_or, sym, subst, ◌∙◌, arith}
use Rattle.std.proofs.lemmas.List.Elements.{All-contains, Contains-get_or}
use Rattle.word_automata.specs.Path.{edges_of}
use Rattle.bit_set.specs.Bits.{Has}
use Rattle.bit_set.specs.SetLists.{Adds, HasAt, IsInTable}
use Rattle.bit_set.proofs.ForCallers.{adds_first, adds_more, adds_all}
use Rattle.bit_subsets.specs.Subsets.{members}
use Rattle.bit_subsets.proofs.Successors.{targets_all}
use Rattle.bit_subsets.proofs.Members.{members_has}
use Rattle.bit_subsets.proofs.targets_of.Goals as goal

pub states-init : goal.states-init
states-init c =
    let n = c.args.subsets.now.automaton.now in
    adds_first HasAt (IsInTable (length c.args.subsets.now.empty)) (λ m a q. Contains (edges_of n.states (get_or c.deref-state-items.result.now m 0)) (Some a, q)) c.in_ok-rows.rows.items

pub edges_from-requires : goal.edges_from-requires
edges_from-requires c =
    let n = c.args.subsets.now.automaton.now in
    let listed = c.deref-state-items.result.now in
    let are = subst (λ (xs : List ℕ). (k : ℕ) → Contains xs k ↔ Has c.args.set.now k) (sym c.deref-state-items.ensures.value) c.in_ok-states.ensures in
    let state = get_or listed c.states.state-index 0 in
    let there = (are state).0 (Contains-get_or listed c.states.state-index 0 c.states-test.true) in
    All-contains (λ q. q < length n.states) (members c.args.set.now) state c.requires.states ((members_has c.args.set.now state).1 there)

pub states-preserved : goal.states-preserved
states-preserved c =
    let n = c.args.subsets.now.automaton.now in
    let listed = c.deref-state-items.result.now in
    adds_more HasAt (IsInTable (length c.args.subsets.now.empty)) (λ m a q. Contains (edges_of n.states (get_or listed m 0)) (Some a, q)) c.states.state-index c.in_ok-rows.rows.items
    c.states.rows.items c.add_targets.new.rows.items c.states.invariant
    (subst (λ edges. Adds HasAt (IsInTable (length c.args.subsets.now.empty)) (λ a q. Contains edges (Some a, q)) c.states.rows.items c.add_targets.new.rows.items)
    c.edges_from.ensures.edges c.in_ok-add_targets.ensures)

pub returns : goal.returns
returns c =
    let n = c.args.subsets.now.automaton.now in
    let listed = c.deref-state-items.result.now in
    let are = subst (λ (xs : List ℕ). (k : ℕ) → Contains xs k ↔ Has c.args.set.now k) (sym c.deref-state-items.ensures.value) c.in_ok-states.ensures in
    targets_all n (length c.args.subsets.now.empty) c.args.set.now listed c.in_ok-rows.rows.items c.states.rows.items c.requires are c.args.subsets.now.room
    (c.in_ok-rows.ensures.count ∙ c.letters-letters.ensures) c.in_ok-rows.ensures.none
    (adds_all HasAt (IsInTable (length c.args.subsets.now.empty)) (λ p a q. Contains (edges_of n.states p) (Some a, q)) listed 0 c.states.state-index
    c.in_ok-rows.rows.items c.states.rows.items (let t = c.states-test.false in omega arith) c.states.invariant)
