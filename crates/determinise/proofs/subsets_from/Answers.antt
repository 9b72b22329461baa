use Rattle.determinise.proofs.Signatures.{plain_everywhere}
use Rattle.determinise.proofs.subsets_from.Goals as goal

pub plain_subsets_from-requires : goal.plain_subsets_from-requires
plain_subsets_from-requires c =
    let s = c.args.begun.subsets.now in
    plain_everywhere s.automaton.now s.silent.now s.count s.plain (c.has_true.ensures c.if-has_true.false)
