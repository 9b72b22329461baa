use Rattle.std.proofs.Common.{◌≡◌, ◌↔◌, List, ℕ, sym, subst}
use Rattle.std.proofs.lemmas.Result.{IfOk-weaker}
use Rattle.word_automata.specs.Nondeterministic.{Accepts}
use Rattle.abstraction.specs.Merging.{HaveEqualClasses, IsMerged}
use Rattle.abstraction.specs.ClassAutomata.{HasAllClassMoves}
use Rattle.abstraction.specs.FirstStates.{AreFirsts}
use Rattle.abstraction.proofs.Firsts.{targets_of}
use Rattle.abstraction.proofs.ClassWords.{class_words}
use Rattle.abstraction.proofs.class_automaton.class_automaton.Goals as goal

pub automaton_of_classes-requires : goal.automaton_of_classes-requires
automaton_of_classes-requires c =
    targets_of c.args.a.now c.args.classes.now c.deref.result.now c.requires (subst (AreFirsts c.args.classes.now) (sym c.deref.ensures.value) c.in_ok-firsts.ensures)

pub returns-clause-language : goal.returns-clause-language
returns-clause-language c =
    let a = c.args.a.now in
    let classes = c.args.classes.now in
    let firsts = c.deref.result.now in
    IfOk-weaker c.automaton_of_classes.result (HasAllClassMoves a firsts) (λ nfa. (w : List ℕ) → Accepts nfa w ↔ IsMerged (HaveEqualClasses classes) a w)
    (class_words a classes firsts c.requires (subst (AreFirsts classes) (sym c.deref.ensures.value) c.in_ok-firsts.ensures)) c.automaton_of_classes.ensures

pub returns-clause-letters : goal.returns-clause-letters
returns-clause-letters c =
    IfOk-weaker c.automaton_of_classes.result (HasAllClassMoves c.args.a.now c.deref.result.now) (λ nfa. nfa.letters ≡ c.args.a.now.letters)
    (λ nfa has. has.moves.class_states.same_letters) c.automaton_of_classes.ensures
