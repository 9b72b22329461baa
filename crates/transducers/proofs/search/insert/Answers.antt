use Rattle.std.proofs.Common.{rules, ◌≡◌, true}
use Rattle.transducers.specs.contracts.search.PositionPartialEq.TheImpl.{eq-value}
use Rattle.transducers.specs.declared.search.Position.{Position}
use Rattle.transducers.proofs.SearchLemmas.{Inserts-insert_key}
use Rattle.transducers.proofs.search.insert.Goals as goal

same : (x y : Position) → eq-value.it x y ≡ true → x ≡ y
same x y e = search rules

pub returns : goal.returns
returns c = rw c.in_ok-insert.ensures.keys (Inserts-insert_key eq-value.it same _ _)
