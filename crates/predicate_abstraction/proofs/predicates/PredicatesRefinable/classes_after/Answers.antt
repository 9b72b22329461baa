use Rattle.std.proofs.Common.{length, sym, subst, ◌∙◌}
use Rattle.std.proofs.lemmas.Result.{IfOk-weaker}
use Rattle.abstraction.specs.Merging.{AreClasses}
use Rattle.predicate_abstraction.specs.Predicates.{MeetSame, key_of}
use Rattle.predicate_abstraction.specs.private.Splitting.{AreClassesBy, AreClassesOfAllButLast}
use Rattle.predicate_abstraction.proofs.Parts.{classes_by_all, key_automata, all_but_last}
use Rattle.predicate_abstraction.proofs.predicates.PredicatesRefinable.classes_after.Goals as goal

pub split_by_last-requires : goal.split_by_last-requires
split_by_last-requires g c =
    let inside = c.self.inside in
    let a = c.args.a.now in
    let before = c.requires.before in
    subst (λ ps. AreClassesOfAllButLast ps a c.args.before.now)
    (sym (c.deref.ensures.value ∙ key_automata inside.automata.items inside.started c.args.self.now c.self.view_is))
    (all_but_last (key_of c.args.self.now) a c.args.before.now before)

pub returns : goal.returns
returns g c =
    let a = c.args.a.now in
    let inside = c.self.inside in
    IfOk-weaker c.split_by_last.result (λ classes. AreClassesBy c.deref.result.now a classes.items)
    (λ classes. AreClasses (MeetSame (key_of c.args.self.now).automata a) (length a.states) classes.items)
    (λ classes is. subst (λ ps. AreClasses (MeetSame ps a) (length a.states) classes.items)
    (key_automata inside.automata.items inside.started c.args.self.now c.self.view_is)
    (classes_by_all inside.automata.items a classes.items (subst (λ ps. AreClassesBy ps a classes.items) c.deref.ensures.value is)))
    c.split_by_last.ensures
