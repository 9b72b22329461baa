use Rattle.word_automata.specs.Nondeterministic.{as_nondeterministic}
use Rattle.certificate_checker.proofs.Least.{none-of, some-of, least-of}
use Rattle.certificate_checker.proofs.Parts.{none-outside}
use Rattle.certificate_checker.proofs.judgement.least_refused.Goals as goal

pub returns-in_default : goal.returns-in_default
returns-in_default c =
    none-of c.args.system.now _ _ c.requires.words
    (none-outside (as_nondeterministic c.args.initial.now) c.args.automaton.now (rw c.in_default.is at c.in_ok-word.ensures))

pub configuration_of-requires : goal.configuration_of-requires
configuration_of-requires c =
    let least = rw c.in-Some.is at c.in_ok-word.ensures in
    some-of c.args.system.now _ _ c.requires.words c.in-Some.word.items c.as_slice.result.now c.as_slice.ensures.value least.0

pub returns : goal.returns
returns c =
    least-of c.args.system.now _ _ c.requires.words c.in-Some.word.items c.as_slice.result.now c.as_slice.ensures.value
    c.in_ok-configuration_of.field-0 (rw c.in-Some.is at c.in_ok-word.ensures) c.in_ok-configuration_of.ensures
