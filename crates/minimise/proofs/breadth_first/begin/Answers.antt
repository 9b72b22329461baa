use Rattle.std.proofs.Common.{◌≡◌, ◌-◌, suc, slice_index, sym, ◌∙◌, arith}
use Rattle.minimise.proofs.LeastNumbers.{nothing_begun, first_begun, least_there}
use Rattle.minimise.proofs.breadth_first.begin.Goals as goal

pub returns-then-class-eq0-clause-explored : goal.returns-then-class-eq0-clause-explored
returns-then-class-eq0-clause-explored c =
    nothing_begun c.args.automaton.now c.args.classes.now c.requires.count c.requires.least c.requires.valid c.args.found.now.items c.args.builder.now
    (sym c.class_of-class.ensures ∙ c.if-class-eq0.true) c.requires.none c.requires.empty

pub number-requires-clause-state : goal.number-requires-clause-state
number-requires-clause-state c =
    let before : slice_index c.args.classes.now 0 ≡ suc (c.class_of-class.result - 1) = (let e = c.class_of-class.ensures in let ne = c.if-class-eq0.false in omega arith) in
    (least_there c.args.automaton.now c.args.classes.now c.requires.count c.requires.least c.requires.valid 0 (c.class_of-class.result - 1) before).within

pub returns-clause-explored : goal.returns-clause-explored
returns-clause-explored c =
    let before : slice_index c.args.classes.now 0 ≡ suc (c.class_of-class.result - 1) = (let e = c.class_of-class.ensures in let ne = c.if-class-eq0.false in omega arith) in
    first_begun c.args.automaton.now c.args.classes.now c.requires.count c.requires.least c.requires.valid (c.class_of-class.result - 1) c.in_ok-number.field-0
    c.args.found.now.items c.number.new.found.items c.args.builder.now c.number.new.builder before c.requires.none c.requires.empty c.in_ok-number.ensures.numbers
