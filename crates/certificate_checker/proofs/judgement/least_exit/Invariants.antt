use Rattle.std.proofs.Common.{◌<◌, ℕ}
use Rattle.certificate_checker.specs.Answers.{IsExit, HasNone}
use Rattle.certificate_checker.proofs.judgement.least_exit.Given as goal

abbrev pub invariant-rules : goal.invariant-rules
invariant-rules l = (r : ℕ) → r < l.rule → HasNone (IsExit l.fn.system l.fn.automaton r)
