use Rattle.std.proofs.Common.{◌≡◌, ◌-◌, suc, get_or, length, slice_get, Some, slice_index, refl, sym, ◌∙◌, arith}
use Rattle.std.proofs.lemmas.Option.{slice_get_read}
use Rattle.minimise.proofs.LeastNumbers.{IsNext, none_followed, dead_followed, all_followed, edge_next, least_there}
use Rattle.minimise.proofs.breadth_first.expand.Goals.{After-index-state, Else-class-eq0, In_ok-target}
use Rattle.minimise.proofs.breadth_first.expand.Goals as goal

found_at : (c : After-index-state) → slice_get c.args.found.now.items c.args.from ≡ Some c.index-state.result.now
found_at c =
    let found = c.args.found.now.items in
    slice_get_read found (length found) c.args.from c.index-state.result.now refl c.requires.there c.index-state.ensures

pub edges_from-edges-requires : goal.edges_from-edges-requires
edges_from-edges-requires c = (c.requires.explored.states c.args.from c.index-state.result.now (found_at (goal.at.edges_from-edges-requires c).After-index-state)).within

pub edges-init : goal.edges-init
edges-init c = record {
  table = c.requires.table;
  places = c.requires.places;
  followed = none_followed c.args.automaton.now c.args.classes.now c.requires.count c.requires.least c.edges_from-edges.ensures.valid c.args.found.now.items c.args.builder.now
      c.args.from c.index-state.result.now c.edges_from-edges.result.now (found_at (goal.at.edges-init c).After-index-state) c.edges_from-edges.ensures.edges c.requires.explored;
}

-- the edge leads to a class
class_at : (c : Else-class-eq0) → slice_index c.args.classes.now (get_or c.edges_from-edges.result.now c.edges.letter-index (0, 0)).1 ≡ suc (c.class_of-class.result - 1)
class_at c = let e = c.class_of-class.ensures in let ne = c.if-class-eq0.false in omega arith

next_at : (c : In_ok-target) → (class : slice_index c.args.classes.now (get_or c.edges_from-edges.result.now c.edges.letter-index (0, 0)).1 ≡ suc (c.class_of-class.result - 1))
    → IsNext c.args.automaton.now c.args.classes.now c.number.new.found.items c.number.new.builder c.args.from c.edges_from-edges.result.now c.edges.letter-index c.in_ok-target.target
next_at c class =
    edge_next c.args.automaton.now c.args.classes.now c.requires.count c.requires.least c.edges_from-edges.ensures.valid c.edges.found.items c.edges.builder c.args.from
    c.edges_from-edges.result.now c.edges.letter-index c.edges-test.true c.edges.invariant.followed (c.class_of-class.result - 1) c.in_ok-target.target
    c.number.new.found.items c.number.new.builder class c.in_ok-target.ensures.numbers

pub number-requires-clause-state : goal.number-requires-clause-state
number-requires-clause-state c =
    (least_there c.args.automaton.now c.args.classes.now c.requires.count c.requires.least c.edges_from-edges.ensures.valid
    (get_or c.edges_from-edges.result.now c.edges.letter-index (0, 0)).1 (c.class_of-class.result - 1) (class_at (goal.at.number-requires-clause-state c).Else-class-eq0)).within

pub add_edge-requires-clause-in_range : goal.add_edge-requires-clause-in_range
add_edge-requires-clause-in_range c =
    let w = goal.at.add_edge-requires-clause-in_range c in (next_at w.In_ok-target (class_at w.Else-class-eq0)).in_range

pub add_edge-requires-clause-last : goal.add_edge-requires-clause-last
add_edge-requires-clause-last c =
    let w = goal.at.add_edge-requires-clause-last c in (next_at w.In_ok-target (class_at w.Else-class-eq0)).last

pub add_edge-requires-clause-absent : goal.add_edge-requires-clause-absent
add_edge-requires-clause-absent c =
    let w = goal.at.add_edge-requires-clause-absent c in (next_at w.In_ok-target (class_at w.Else-class-eq0)).absent

pub edges-preserved-then-class-eq0 : goal.edges-preserved-then-class-eq0
edges-preserved-then-class-eq0 c = record {
  table = c.edges.invariant.table;
  places = c.edges.invariant.places;
  followed = dead_followed c.args.automaton.now c.args.classes.now c.requires.count c.requires.least c.edges_from-edges.ensures.valid c.edges.found.items c.edges.builder c.args.from
      c.edges_from-edges.result.now c.edges.letter-index c.edges-test.true c.edges.invariant.followed (sym c.class_of-class.ensures ∙ c.if-class-eq0.true);
}

pub edges-preserved : goal.edges-preserved
edges-preserved c =
    let w = goal.at.edges-preserved c in
    record {
      table = c.in_ok-target.ensures.table;
      places = c.in_ok-target.ensures.places;
      followed = (next_at w.In_ok-target (class_at w.Else-class-eq0)).followed c.add_edge.new.self c.in_ok-add_edge.ensures.ok;
    }

pub returns-clause-explored : goal.returns-clause-explored
returns-clause-explored c =
    all_followed c.args.automaton.now c.args.classes.now c.requires.count c.requires.least c.edges_from-edges.ensures.valid c.edges.found.items c.edges.builder c.args.from
    c.edges_from-edges.result.now c.edges.letter-index c.edges-test.false c.edges.invariant.followed
