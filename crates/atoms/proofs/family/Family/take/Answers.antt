use Rattle.atoms.proofs.Unions.{begins_same}
use Rattle.atoms.proofs.family.Family.take.Goals as goal

pub returns-then-is_empty-clause-added : goal.returns-then-is_empty-clause-added
returns-then-is_empty-clause-added c = record {
  begins = begins_same c.args.self.now.sets.items;
  union = λ q has. absurd (c.is_empty.ensures c.if-is_empty.true q has);
}
