use Rattle.predicate_abstraction.proofs.shares.+classes_in_shares+fn-classes_in_shares-join+arg3.Given as goal

abbrev pub decreases-classes_in_shares : goal.decreases-classes_in_shares
decreases-classes_in_shares g l = l.shares

abbrev pub decreases-join+arg3 : goal.decreases-join+arg3
decreases-join+arg3 g l = l.other_shares
