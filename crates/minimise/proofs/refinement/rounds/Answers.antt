use Rattle.std.proofs.Common.{subst}
use Rattle.std.specs.Cmp.Lexicographic.{same_text, other_text}
use Rattle.minimise.specs.Refinement.{IsSplit}
use Rattle.minimise.proofs.Refining.{split_coarse, split_falls, coarse_apart, alike_split, stable}
use Rattle.minimise.proofs.refinement.rounds.Goals as goal

pub returns-then-eq : goal.returns-then-eq
returns-then-eq c =
    let m = c.args.automaton.now in
    let classes = c.rounds.classes.items in
    let split = subst (λ old. IsSplit m old c.in_ok-finer.finer.items) c.deref.ensures.value c.in_ok-finer.ensures in
    stable m c.rounds.invariant.valid classes c.rounds.invariant.coarse (alike_split m classes (subst (IsSplit m classes) (same_text c.in_ok-finer.finer.items classes c.if-eq.ensures) split))

pub rounds-smaller : goal.rounds-smaller
rounds-smaller c =
    let m = c.args.automaton.now in
    let split = subst (λ old. IsSplit m old c.in_ok-finer.finer.items) c.deref.ensures.value c.in_ok-finer.ensures in
    split_falls m c.rounds.invariant.valid c.rounds.classes.items c.in_ok-finer.finer.items c.rounds.invariant.coarse split
    (other_text c.in_ok-finer.finer.items c.rounds.classes.items c.if-eq.ensures)

pub rounds-preserved : goal.rounds-preserved
rounds-preserved c =
    let m = c.args.automaton.now in
    let split = subst (λ old. IsSplit m old c.in_ok-finer.finer.items) c.deref.ensures.value c.in_ok-finer.ensures in
    record {
      valid = c.rounds.invariant.valid;
      coarse = split_coarse m c.rounds.invariant.valid c.rounds.classes.items c.in_ok-finer.finer.items (coarse_apart m c.rounds.classes.items c.rounds.invariant.coarse) split;
    }
