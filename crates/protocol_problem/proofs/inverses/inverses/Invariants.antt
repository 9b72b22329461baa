use Rattle.std.proofs.Common.{◌≡◌, ℕ, Some, length, slice_get}
use Rattle.transducers.specs.Transducer.{Transducer}
use Rattle.protocol_problem.specs.Compilation.{IsInverse}
use Rattle.protocol_problem.proofs.inverses.inverses.Given as goal

abbrev pub invariant-transducers : goal.invariant-transducers
invariant-transducers l = record {
  count : length l.turned.items ≡ l.transducer-index;
  each : (r : ℕ) (t v : Transducer) → slice_get l.transducers r ≡ Some t → slice_get l.turned.items r ≡ Some v → IsInverse t v;
}
