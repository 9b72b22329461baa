use Rattle.atoms.proofs.Unions.{unions_none}
use Rattle.atoms.proofs.family.Family.new.Goals as goal

pub add-requires : goal.add-requires
add-requires c = unions_none c.new.result.items c.new-2.result.keys c.new-2.ensures.empty

pub returns-clause-union : goal.returns-clause-union
returns-clause-union c = c.in_ok-add.ensures.added.union
