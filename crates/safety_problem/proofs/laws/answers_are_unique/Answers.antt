use Rattle.safety_problem.specs.Task.{IsAfter, IsBefore}
use Rattle.safety_problem.proofs.Halves.{same_automaton}
use Rattle.safety_problem.proofs.laws.answers_are_unique.Goals as goal

pub returns-clause-post : goal.returns-clause-post
returns-clause-post g c m a b is are =
    let task = g.P.Problem.task c.args.p.now in
    same_automaton task.letters (IsAfter task.steps m) a b c.canonical_is_unique.ensures is are

pub returns-clause-pre : goal.returns-clause-pre
returns-clause-pre g c m a b is are =
    let task = g.P.Problem.task c.args.p.now in
    same_automaton task.letters (IsBefore task.steps m) a b c.canonical_is_unique.ensures is are
