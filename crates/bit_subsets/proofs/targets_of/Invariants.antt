use Rattle.std.proofs.Common.{Some, Contains, get_or, length}
use Rattle.word_automata.specs.Path.{edges_of}
use Rattle.bit_set.specs.SetLists.{HasAt, IsInTable}
use Rattle.bit_set.proofs.ForCallers.{AddsFirst}
use Rattle.bit_subsets.proofs.targets_of.Given as goal

abbrev pub invariant-states : goal.invariant-states
invariant-states l =
    AddsFirst HasAt (IsInTable (length l.subsets.empty))
    (λ m a q. Contains (edges_of l.subsets.automaton.now.states (get_or l.state-items m 0)) (Some a, q)) l.state-index l.initial.rows.items l.rows.items
