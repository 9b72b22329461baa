use Rattle.std.proofs.Common.{◌-◌, ◌^◌, []}
use Rattle.exploration.specs.private.Worklist.{Explored}
use Rattle.exploration.proofs.construction.expand_within.Given as goal

abbrev pub invariant-states : goal.invariant-states
invariant-states g l =
    Explored (g.T.LanguageSystem.letter_count l.system) (g.T.LanguageSystem.accepted l.system) (g.T.LanguageSystem.language l.system) (g.T.LanguageSystem.is_state l.system)
    l.found l.builder l.next []

abbrev pub decreases-states : goal.decreases-states
decreases-states g l = 2 ^ 64 - l.next
