use Rattle.std.proofs.Common.{◌≡◌, length}
use Rattle.reduction.proofs.emptiness.unreaching.Given as goal

abbrev pub invariant-accepting : goal.invariant-accepting
invariant-accepting l = length l.flags.items ≡ length l.automaton.states

abbrev pub invariant-found : goal.invariant-found
invariant-found l = length l.flags.items ≡ length l.automaton.states
