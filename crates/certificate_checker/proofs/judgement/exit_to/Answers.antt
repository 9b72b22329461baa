use Rattle.std.proofs.Common.{refl}
use Rattle.std.proofs.lemmas.Result.{IfOk-weaker}
use Rattle.certificate_checker.proofs.Least.{in_range-of, least-of}
use Rattle.certificate_checker.proofs.Parts.{outside, before}
use Rattle.certificate_checker.proofs.judgement.exit_to.Goals as goal

pub least_before-requires-clause-in_range : goal.least_before-requires-clause-in_range
least_before-requires-clause-in_range c =
    let s = c.args.system.now in
    let m = c.args.automaton.now in
    in_range-of s _ _ (outside s m c.args.rule c.args.step.now c.requires.compiled) c.args.target.now c.args.target.now refl m.letters
    c.requires.automaton c.requires.least.0

pub returns : goal.returns
returns c =
    let s = c.args.system.now in
    let m = c.args.automaton.now in
    let target = c.args.target.now in
    IfOk-weaker c.both_configurations.result _ _ (λ exit are. record {
      after = least-of s _ _ (outside s m c.args.rule c.args.step.now c.requires.compiled) target target refl exit.1 c.requires.least are.1;
      before = least-of s _ _ (before s m c.args.rule c.args.step.now c.requires.compiled target exit.1 are.1.0 are.1.1) c.in-Some.source.items
          c.as_slice.result.now c.as_slice.ensures.value exit.0 (rw c.in-Some.is at c.in_ok-source.ensures) are.0;
    }) c.both_configurations.ensures
