-- Where the test of pairs answers true, they are equal.
use Rattle.std.proofs.Common.{rules, ◌≡◌, true}
use Rattle.image_preimage.specs.declared.pairs.Pair.{Pair}
use Rattle.image_preimage.specs.contracts.pairs.PairPartialEq.TheImpl.{eq-value}

pub same_pair : (x y : Pair) → eq-value.it x y ≡ true → x ≡ y
same_pair x y e = search rules
