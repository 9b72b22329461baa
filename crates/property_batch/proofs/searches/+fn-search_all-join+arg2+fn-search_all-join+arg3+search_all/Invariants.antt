use Rattle.property_batch.proofs.searches.+fn-search_all-join+arg2+fn-search_all-join+arg3+search_all.Given as goal

abbrev pub decreases-join+arg2 : goal.decreases-join+arg2
decreases-join+arg2 g l = l.larger_share

abbrev pub decreases-join+arg3 : goal.decreases-join+arg3
decreases-join+arg3 g l = l.smaller_share

abbrev pub decreases-search_all : goal.decreases-search_all
decreases-search_all g l = l.workers
