use Rattle.std.proofs.Common.{◌≡◌, IfOk, sym, subst}
use Rattle.std.proofs.lemmas.Result.{IfOk-weaker}
use Rattle.safety_problem.specs.Task.{IsAutomatonOf}
use Rattle.abstraction.specs.Merging.{HaveEqualClasses, IsMerged}
use Rattle.abstraction.proofs.MergedWords.{automaton_alone, of_canonical}
use Rattle.abstraction.proofs.merging.merge.Goals as goal

pub returns-then-are_single : goal.returns-then-are_single
returns-then-are_single c =
    let a = c.args.a.now in
    let classes = c.args.classes.now in
    let merged = IsAutomatonOf a.letters (IsMerged (HaveEqualClasses classes) a) in
    IfOk-weaker c.copy.result (λ copy. copy ≡ a) merged
    (λ copy same. subst merged (sym same) (automaton_alone a c.known_canonical.ensures classes c.requires (c.are_single.ensures c.if-are_single.true))) c.copy.ensures

pub returns : goal.returns
returns c =
    let made = c.canonical_nfa.ensures in
    subst (λ m. IfOk c.canonical_nfa.result (IsAutomatonOf m.letters (IsMerged (HaveEqualClasses c.args.classes.now) m))) c.as_dfa.ensures.same
    (of_canonical c.canonical_nfa.result c.as_dfa.result.now.letters (IsMerged (HaveEqualClasses c.args.classes.now) c.as_dfa.result.now) c.in_ok-automaton.automaton
    c.in_ok-automaton.ensures.letters c.in_ok-automaton.ensures.language made.language made.letters made.canonical)
