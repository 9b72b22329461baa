use Rattle.std.proofs.Common.{◌++◌, ◌<◌, ℕ, List, None, All, length, subst, sym, ap, ◌∙◌}
use Rattle.std.proofs.lemmas.List.Elements.{All-nil}
use Rattle.std.proofs.lemmas.List.Sorted.{All-permutation}
use Rattle.word_automata.specs.Path.{edges_of}
use Rattle.word_automata.proofs.ForCallers.{All-edges_of}
use Rattle.certificate_writing.specs.private.IndexedWritingParts.{AreByTarget, sorted_text}
use Rattle.certificate_writing.proofs.IndexedTextLemmas.{sorted_text-is}
use Rattle.certificate_writing.proofs.indexed_writing.push_edges_from.Goals as goal

pub push_sorted-requires : goal.push_sorted-requires
push_sorted-requires c =
    let m = c.args.proof.now in
    let sorted = c.in_ok-edges.edges.items in
    let by_target = subst (λ edges. AreByTarget edges sorted) c.edges_from.ensures.edges c.in_ok-edges.ensures in
    let below = All-edges_of (All (λ edge. edge.0 < m.letters)) m.states (All-nil (λ (edge : ℕ × ℕ). edge.0 < m.letters))
    c.edges_from.ensures.valid.letters_in_range c.args.from in
    subst (λ (edges : List (ℕ × ℕ)). All (λ edge. edge.0 < length c.args.indices.now) edges) (sym c.as_slice.ensures.value)
    (subst (λ count. All (λ (edge : ℕ × ℕ). edge.0 < count) sorted) (sym c.requires.letters)
    (All-permutation (λ (edge : ℕ × ℕ). edge.0 < m.letters) (edges_of m.states c.args.from) sorted by_target.permutation below))

pub returns : goal.returns
returns c =
    let m = c.args.proof.now in
    let count = length m.states in
    let edges = edges_of m.states c.args.from in
    let sorted = c.in_ok-edges.edges.items in
    let by_target = subst (λ edges. AreByTarget edges sorted) c.edges_from.ensures.edges c.in_ok-edges.ensures in
    let below = All-edges_of (All (λ edge. edge.1 < count)) m.states (All-nil (λ (edge : ℕ × ℕ). edge.1 < count))
    c.edges_from.ensures.valid.targets_in_range c.args.from in
    c.in_ok-push_sorted.ensures
    ∙ ap (λ items. c.args.text.now.items ++ sorted_text c.args.indices.now c.args.from None items) c.as_slice.ensures.value
    ∙ ap (λ text. c.args.text.now.items ++ text) (sorted_text-is c.args.indices.now c.args.from count edges sorted by_target below)
