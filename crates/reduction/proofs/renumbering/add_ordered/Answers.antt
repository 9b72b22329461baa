use Rattle.std.proofs.Common.{ℕ, List, Option, IsPermutation, get_or, sym, subst}
use Rattle.std.proofs.lemmas.List.Sorted.{IsPermutation-refl}
use Rattle.reduction.specs.private.Renumbering.{HasLetters, AddsPlaced}
use Rattle.reduction.proofs.Parts.{has_letters, letters_turned, part_more}
use Rattle.reduction.proofs.renumbering.add_ordered.Goals as goal

pub returns-then-are_ordered : goal.returns-then-are_ordered
returns-then-are_ordered c =
    let edges = c.edges_from-edges.result.now in
    part_more c.args.automaton.now c.args.states.now c.args.place c.args.builder.now c.add_placed.new.builder edges c.requires.before
    (subst (λ (xs : List (Option ℕ × ℕ)). IsPermutation xs edges) c.edges_from-edges.ensures.edges (IsPermutation-refl edges)) c.in_ok-add_placed.ensures

pub add_placed-requires-2-clause-letters : goal.add_placed-requires-2-clause-letters
add_placed-requires-2-clause-letters c =
    let n = c.args.automaton.now in
    let letters = c.args.builder.now.letters in
    let state = get_or c.args.states.now c.args.place 0 in
    subst (HasLetters letters) (sym c.deref.ensures.value)
    (letters_turned letters c.edges_from-edges.result.now c.in_ok-ordered.ordered.items c.in_ok-ordered.ensures
    (subst (HasLetters letters) (sym c.edges_from-edges.ensures.edges)
    (has_letters n c.edges_from-edges.ensures.in_range state letters c.requires.before.same_letters)))

pub returns : goal.returns
returns c =
    let ordered = c.in_ok-ordered.ordered.items in
    let new = c.add_placed-2.new.builder in
    part_more c.args.automaton.now c.args.states.now c.args.place c.args.builder.now new ordered c.requires.before
    (subst (λ (xs : List (Option ℕ × ℕ)). IsPermutation xs ordered) c.edges_from-edges.ensures.edges c.in_ok-ordered.ensures)
    (subst (λ (xs : List (Option ℕ × ℕ)). AddsPlaced c.args.states.now c.args.place xs c.args.builder.now new) c.deref.ensures.value c.in_ok-add_placed-2.ensures)
