use Rattle.std.proofs.Common.{◌≡◌, Bool, true, false, refl}
use Rattle.std.specs.Bool.{IsTrue}
use Rattle.std.proofs.Math.Bool.{beq}
use Rattle.std.proofs.lemmas.Bool.{false≢true}
use Rattle.predicate_abstraction.proofs.CodeLemmas.{have_same}
use Rattle.predicate_abstraction.proofs.codes.have_same_mark.Goals as goal

same_bool : (m n : Bool) → IsTrue (beq m n) → m ≡ n
same_bool true true is = refl
same_bool false false is = refl
same_bool true false is = absurd (false≢true is)
same_bool false true is = absurd (false≢true is)

pub returns : goal.returns
returns c = λ is.
    have_same c.args.set.now c.args.row c.args.one c.args.other c.mark.result c.mark-2.result c.mark.ensures c.mark-2.ensures
    (same_bool c.mark.result c.mark-2.result is)
