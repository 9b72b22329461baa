use Rattle.std.proofs.Common.{rules}
use Rattle.std.proofs.lemmas.List.Sorted.{answers_always}
use Rattle.word_automata.proofs.ForCallers.{searched}
use Rattle.boolean_operations.proofs.merged_edges.search_near.Goals as goal

pub returns-clause-found : goal.returns-clause-found
returns-clause-found c =
    let facts = c.binary_search_by_key.ensures in
    let by_letter = facts.position (λ edge. edge.0) (answers_always _ _ _ (λ f a r g called. search rules)) in
    (searched _ c.requires c.args.letter _ facts.bound by_letter).found

pub returns-clause-absent : goal.returns-clause-absent
returns-clause-absent c =
    let facts = c.binary_search_by_key.ensures in
    let by_letter = facts.position (λ edge. edge.0) (answers_always _ _ _ (λ f a r g called. search rules)) in
    (searched _ c.requires c.args.letter _ facts.bound by_letter).absent
