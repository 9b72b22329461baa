use Rattle.std.proofs.Common.{ℕ, List, length, take, get_or, sym, ap, subst, arith}
use Rattle.std.proofs.lemmas.List.{take_more, take_all}
use Rattle.reduction.specs.private.Renumbering.{AddsPlacedStarts}
use Rattle.reduction.proofs.Parts.{adds_starts_none, adds_starts_skip, adds_starts_more}
use Rattle.reduction.proofs.renumbering.add_placed_starts.Goals as goal

pub numbers-init : goal.numbers-init
numbers-init c = adds_starts_none c.args.states.now c.args.builder.now c.requires.none

pub numbers-preserved-in_default : goal.numbers-preserved-in_default
numbers-preserved-in_default c =
    let numbers = c.args.numbers.now in
    let i = c.numbers.number-index in
    subst (λ (xs : List ℕ). AddsPlacedStarts c.args.states.now xs c.args.builder.now c.numbers.builder) (sym (take_more numbers i 0 (omega arith)))
    (adds_starts_skip c.args.states.now (take i numbers) (get_or numbers i 0) c.args.builder.now c.numbers.builder c.numbers.invariant (c.place_of.ensures.none c.in_default.is))

pub start-requires : goal.start-requires
start-requires c =
    let size = ap length c.numbers.invariant.same_states in
    let same = c.requires.size in
    let within = c.in-Some.ensures.some.0 in
    omega arith

pub numbers-preserved : goal.numbers-preserved
numbers-preserved c =
    let numbers = c.args.numbers.now in
    let i = c.numbers.number-index in
    subst (λ (xs : List ℕ). AddsPlacedStarts c.args.states.now xs c.args.builder.now c.start.new.self) (sym (take_more numbers i 0 (omega arith)))
    (adds_starts_more c.args.states.now (take i numbers) (get_or numbers i 0) c.args.builder.now c.numbers.builder c.numbers.invariant
    c.start.new.self c.in-Some.place c.in-Some.ensures.some c.in_ok-start.ensures.ok)

pub returns : goal.returns
returns c =
    let numbers = c.args.numbers.now in
    subst (λ (xs : List ℕ). AddsPlacedStarts c.args.states.now xs c.args.builder.now c.numbers.builder) (take_all c.numbers.number-index numbers (omega arith)) c.numbers.invariant
