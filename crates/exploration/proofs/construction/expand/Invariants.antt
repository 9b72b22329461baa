use Rattle.std.specs.Vec.Iter.{into_iter_items}
use Rattle.exploration.specs.private.Worklist.{Expands}
use Rattle.exploration.proofs.construction.expand.Given as goal

abbrev pub invariant-successors : goal.invariant-successors
invariant-successors g l =
    (goal.iterator-successors g).can_next l.letter-iterator
    × (goal.iterator-successors g).is_finite l.letter-iterator
    × Expands (g.T.LanguageSystem.letter_count l.system) (g.T.LanguageSystem.accepted l.system) (g.T.LanguageSystem.language l.system) (g.T.LanguageSystem.is_state l.system)
    l.found l.builder l.from l.yielded (into_iter_items l.letter-iterator)
