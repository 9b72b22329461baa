use Rattle.std.proofs.Common.{◌≡◌, false, [], replicate}
use Rattle.certificate.proofs.reading.with_states.Given as goal

abbrev pub invariant-states : goal.invariant-states
invariant-states l = l.builder ≡ record { letters = l.letters; states = replicate l.counter (record { accepting = false; edges = [] }) }
