use Rattle.std.proofs.Common.{◌≡◌, take, if◌then◌else◌}
use Rattle.std.specs.List.{fold}
use Rattle.minimise.specs.Signatures.{mixed, mixed_edge}
use Rattle.future_abstraction.proofs.signature.Signature.digest.Given as goal

abbrev pub invariant-edges : goal.invariant-edges
invariant-edges l = l.value ≡ fold mixed_edge (mixed l.self.class (if l.self.accepting then 1 else 0)) (take l.letter-index l.edges)
