use Rattle.std.proofs.Common.{◌<◌, ◌↔◌, ℕ, Contains, length, subst}
use Rattle.word_automata.proofs.ForCallers.{All-from_contains}
use Rattle.past_abstraction.specs.private.WordSets.{AddsSet}
use Rattle.past_abstraction.proofs.Rounds.{first_sets}
use Rattle.past_abstraction.proofs.word_sets.classes_by_word_sets.Goals as goal

pub add_set-requires-clause-states : goal.add_set-requires-clause-states
add_set-requires-clause-states c =
    let set = c.in_ok-all_states.field-0 in
    let all = subst (λ n. (p : ℕ) → Contains set p ↔ (p < n)) c.states.ensures.count c.in_ok-all_states.ensures in
    All-from_contains (λ p. p < length c.args.a.now.states) set (λ p there. (all p).0 there)

pub classes_from-requires-clause-words : goal.classes_from-requires-clause-words
classes_from-requires-clause-words c =
    let set = c.in_ok-all_states.field-0 in
    let sets = c.add_set.new.sets.keys in
    let all = subst (λ n. (p : ℕ) → Contains set p ↔ (p < n)) c.states.ensures.count c.in_ok-all_states.ensures in
    first_sets c.args.a.now set sets all (subst (λ old. AddsSet set old sets) c.new-sets.ensures.empty c.in_ok-add_set.ensures.set)
