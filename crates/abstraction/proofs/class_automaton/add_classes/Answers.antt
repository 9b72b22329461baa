use Rattle.std.proofs.Common.{◌∷◌, [], ◌∙◌, false, get_or, length, ap, refl, arith}
use Rattle.std.proofs.lemmas.Result.{on_ok_weaker}
use Rattle.word_automata.specs.Nondeterministic.{with_nondeterministic_state, with_start}
use Rattle.abstraction.proofs.ClassMoves.{bare_more, moves_begin, start_some, start_none}
use Rattle.abstraction.proofs.class_automaton.add_classes.Goals as goal

pub classes-preserved : goal.classes-preserved
classes-preserved c =
    let accepting = c.args.accepting.now in
    let i = c.classes.accepts-index in
    let flag = get_or accepting i false in
    c.in_ok-state.ensures.ok ∙ ap (λ n. with_nondeterministic_state n flag) c.classes.invariant
    ∙ ap (λ states. record { letters = c.args.a.now.letters; starts = []; states = states }) (bare_more accepting i flag (omega arith) refl)

pub returns-then-states-eq0 : goal.returns-then-states-eq0
returns-then-states-eq0 c =
    let a = c.args.a.now in
    let firsts = c.args.firsts.now in
    moves_begin a firsts c.args.accepting.now c.classes.accepts-index c.classes.builder [] (omega arith) c.classes.invariant c.requires.accepting
    (start_none (length a.states) (get_or firsts 0 0) (let size = c.states.ensures.count in omega arith))

pub returns : goal.returns
returns c =
    let a = c.args.a.now in
    let firsts = c.args.firsts.now in
    let first = get_or firsts 0 0 in
    on_ok_weaker c.start.result
    (λ ok. moves_begin a firsts c.args.accepting.now c.classes.accepts-index c.start.new.self (first ∷ []) (omega arith)
    (ok ∙ ap (λ n. with_start n first) c.classes.invariant) c.requires.accepting (start_some (length a.states) first (let size = c.states.ensures.count in omega arith))) c.start.ensures.ok
