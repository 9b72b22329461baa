use Rattle.std.proofs.Common.{subst, arith}
use Rattle.std.proofs.lemmas.Result.{IfOk-weaker}
use Rattle.predicate_abstraction.specs.private.Splitting.{AreClassesBy, IsSplit}
use Rattle.predicate_abstraction.proofs.Parts.{classes_by_firsts, classes_by_last, last_is}
use Rattle.predicate_abstraction.proofs.shares.split_by_last.Goals as goal

pub returns : goal.returns
returns c =
    let a = c.args.a.now in
    let predicates = c.args.predicates.now in
    let before = c.requires in
    let b = c.index-predicates-last.result in
    let firsts = c.in_ok-classes.classes.items in
    let others = classes_by_firsts a before.others c.args.before.now firsts before.classes_are c.in_ok-classes.ensures in
    let same = last_is before.others before.last b predicates c.in-Some.last before.are (omega (arith, c.in-Some.ensures)) c.index-predicates-last.is in
    IfOk-weaker c.split_by_predicate.result (λ finer. IsSplit c.as_dfa-automaton.result.now b c.deref.result.now finer.items)
    (λ finer. AreClassesBy predicates a finer.items)
    (λ finer split. classes_by_last a before.others b before.last predicates firsts finer.items before.are same
    (subst (λ m. IsSplit m b firsts finer.items) c.as_dfa-automaton.ensures.same
    (subst (λ xs. IsSplit c.as_dfa-automaton.result.now b xs finer.items) c.deref.ensures.value split)) others)
    c.split_by_predicate.ensures
