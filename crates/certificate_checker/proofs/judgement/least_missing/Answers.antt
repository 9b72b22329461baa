use Rattle.std.proofs.Common.{◌≡◌, false}
use Rattle.word_automata.specs.Automaton.{accepts}
use Rattle.protocol_model.specs.Patterns.{is_initial}
use Rattle.protocol_model.proofs.ForCallers.{initial_fits}
use Rattle.certificate_checker.proofs.Least.{tested}
use Rattle.certificate_checker.proofs.judgement.least_missing.Goals as goal

pub least_refused-requires-clause-words : goal.least_refused-requires-clause-words
least_refused-requires-clause-words c =
    let s = c.args.system.now in
    let m = c.args.automaton.now in
    tested s (is_initial s) (initial_fits s) c.in_ok-initial.initial c.as_dfa.result.now c.as_dfa.ensures.same c.in_ok-initial.ensures.canonical
    c.in_ok-initial.ensures.language (λ w. accepts m w ≡ false)
