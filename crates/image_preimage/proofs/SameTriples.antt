-- Where the test of triples answers true, they are equal.
use Rattle.std.proofs.Common.{rules, ◌≡◌, true}
use Rattle.image_preimage.specs.declared.triples.Triple.{Triple}
use Rattle.image_preimage.specs.contracts.triples.TriplePartialEq.TheImpl.{eq-value}

pub same_triple : (x y : Triple) → eq-value.it x y ≡ true → x ≡ y
same_triple x y e = search rules
