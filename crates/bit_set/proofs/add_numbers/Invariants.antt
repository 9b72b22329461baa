use Rattle.bit_set.proofs.Sets.{HasNumbers}
use Rattle.bit_set.proofs.add_numbers.Given as goal

abbrev pub invariant-bits : goal.invariant-bits
invariant-bits l = HasNumbers l.initial.numbers.items l.numbers.items l.first l.word l.rest

abbrev pub decreases-bits : goal.decreases-bits
decreases-bits l = l.rest
