use Rattle.std.proofs.Common.{[], ℕ, List, length, sym, ap, subst, ◌∙◌}
use Rattle.std.proofs.lemmas.List.{length-map}
use Rattle.word_automata.specs.Path.{is_accepting}
use Rattle.word_automata.specs.Nondeterministic.{NondeterministicAutomaton}
use Rattle.reduction.specs.private.Renumbering.{ArePlaces, AddsPlacedStarts}
use Rattle.reduction.proofs.Parts.{part_none}
use Rattle.reduction.proofs.renumbering.add_part.Goals as goal

pub add_placed_starts-requires-clause-places : goal.add_placed_starts-requires-clause-places
add_placed_starts-requires-clause-places c = subst (ArePlaces c.args.states.now) (sym c.deref.ensures.value) c.in_ok-places.ensures

pub add_placed_starts-requires-clause-size : goal.add_placed_starts-requires-clause-size
add_placed_starts-requires-clause-size c =
    ap (λ (m : NondeterministicAutomaton). length m.states) c.requires.alone
    ∙ length-map c.args.states.now (λ q. record { accepting = is_accepting c.args.automaton.now.states q; edges = [] })

pub places-init : goal.places-init
places-init c =
    part_none c.args.automaton.now c.args.states.now c.args.builder.now c.add_placed_starts.new.builder c.requires.alone
    (subst (λ (xs : List ℕ). AddsPlacedStarts c.args.states.now xs c.args.builder.now c.add_placed_starts.new.builder) c.starts.ensures.starts c.in_ok-add_placed_starts.ensures)

pub add_ordered-requires-clause-places : goal.add_ordered-requires-clause-places
add_ordered-requires-clause-places c = subst (ArePlaces c.args.states.now) (sym c.deref-in-places.ensures.value) c.in_ok-places.ensures
