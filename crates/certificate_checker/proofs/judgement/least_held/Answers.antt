use Rattle.std.proofs.Common.{IsTrue}
use Rattle.word_automata.specs.Automaton.{accepts}
use Rattle.protocol_model.specs.Patterns.{is_bad}
use Rattle.protocol_model.proofs.ForCallers.{bad_fits}
use Rattle.certificate_checker.proofs.Least.{tested}
use Rattle.certificate_checker.proofs.judgement.least_held.Goals as goal

pub least_accepted-requires-clause-words : goal.least_accepted-requires-clause-words
least_accepted-requires-clause-words c =
    let s = c.args.system.now in
    let m = c.args.automaton.now in
    tested s (is_bad s) (bad_fits s) c.in_ok-bad.bad c.as_dfa.result.now c.as_dfa.ensures.same c.in_ok-bad.ensures.canonical
    c.in_ok-bad.ensures.language (λ w. IsTrue (accepts m w))
