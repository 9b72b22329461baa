use Rattle.std.proofs.Common.{◌≡◌, drop}
use Rattle.certificate.proofs.Taking.{AddsSoFar}
use Rattle.certificate.proofs.reading.add_edges.Given as goal

abbrev pub invariant-indices : goal.invariant-indices
invariant-indices l =
    AddsSoFar l.alphabet l.fn.read l.read l.from l.to l.indices (drop l.index-index l.indices) × (l.read.letters ≡ l.fn.read.letters)
