use Rattle.determinise.proofs.Determinised.{determinised_same}
use Rattle.determinise.proofs.pruned_subsets_of.Goals as goal

pub returns : goal.returns
returns c =
    determinised_same c.args.automaton.now c.in_ok-pruned.pruned c.subsets_of.result c.in_ok-pruned.ensures.language c.in_ok-pruned.ensures.letters c.subsets_of.ensures
