use Rattle.std.proofs.Common.{List, ℕ, Contains, ◌↔◌, sym, subst, refl, arith}
use Rattle.word_automata.proofs.StateSets.{HasAddedSome, has_added_none, has_added_more, has_added_all, start_states}
use Rattle.word_automata.proofs.nondeterministic.Nfa.add_starts.Goals as goal

pub starts-init : goal.starts-init
starts-init c = subst (λ (set : List ℕ). HasAddedSome c.starts-start-items.result.now set 0) (sym c.requires) (has_added_none c.starts-start-items.result.now)

pub starts-preserved : goal.starts-preserved
starts-preserved c =
    has_added_more _ _ _ c.starts.start-index _ (omega arith) refl c.in_ok-add.ensures c.starts.invariant

pub returns-clause-states : goal.returns-clause-states
returns-clause-states c =
    start_states c.args.self.now c.starts-start-items.ensures.in_range c.starts.set.keys
    (subst (λ (starts : List ℕ). (q : ℕ) → Contains c.starts.set.keys q → Contains starts q) c.starts-start-items.ensures.starts c.starts.invariant.only_items)

pub returns-clause-starts : goal.returns-clause-starts
returns-clause-starts c =
    subst (λ (starts : List ℕ). (q : ℕ) → Contains c.starts.set.keys q ↔ Contains starts q) c.starts-start-items.ensures.starts
    (has_added_all c.starts-start-items.result.now c.starts.set.keys c.starts.start-index (omega arith) c.starts.invariant)
