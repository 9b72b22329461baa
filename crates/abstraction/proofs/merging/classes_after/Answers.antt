use Rattle.std.proofs.Common.{◌≡◌, length, sym, subst}
use Rattle.std.proofs.lemmas.Result.{IfOk-weaker}
use Rattle.abstraction.specs.Merging.{AreClasses}
use Rattle.abstraction.proofs.KnownClassLemmas.{alone_after}
use Rattle.abstraction.proofs.merging.classes_after.Goals as goal

pub returns-then-are_single : goal.returns-then-are_single
returns-then-are_single g c =
    let a = c.args.a.now in
    let before = c.args.before.now in
    let key = g.A.Abstraction.key c.args.abstraction.now in
    let R = g.A.Abstraction.related key a in
    let are : AreClasses R (length a.states) before =
    alone_after g.A.Abstraction.related g.A.Refinable.next key a before (g.met.A.Abstraction.equivalence key a).reflexive
    (λ k x. g.met.A.Refinable.finer k x a) (c.are_single.ensures c.if-are_single.true) c.requires.before in
    IfOk-weaker c.from_slice.result (λ copy. copy.items ≡ before) (λ classes. AreClasses R (length a.states) classes.items)
    (λ copy same. subst (AreClasses R (length a.states)) (sym same) are) c.from_slice.ensures.items
