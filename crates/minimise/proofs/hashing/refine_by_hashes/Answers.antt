use Rattle.std.proofs.Common.{sym, ap, subst, ◌∙◌, length}
use Rattle.minimise.specs.private.Rounds.{AreToldApart}
use Rattle.minimise.proofs.HashLemmas.{hashed_apart}
use Rattle.minimise.proofs.hashing.refine_by_hashes.Goals as goal

pub returns-then-is_over-clause-apart : goal.returns-then-is_over-clause-apart
returns-then-is_over-clause-apart c =
    let m = c.args.automaton.now in
    subst (AreToldApart m) (sym (ap (λ v. v.items) c.swap.ensures.x_after))
    (hashed_apart m c.requires.valid c.deref.result.now c.deref-in-rounds.result.now c.rounds.classes.items c.hash_all.new.finer.items
    (c.deref.ensures.value ∙ c.in_ok-rows.ensures) c.deref-in-rounds.ensures.value c.rounds.invariant.apart c.hash_all.ensures)

pub rounds-preserved : goal.rounds-preserved
rounds-preserved c =
    let m = c.args.automaton.now in
    record {
      apart = subst (AreToldApart m) (sym (ap (λ v. v.items) c.swap.ensures.x_after))
          (hashed_apart m c.requires.valid c.deref.result.now c.deref-in-rounds.result.now c.rounds.classes.items c.hash_all.new.finer.items
          (c.deref.ensures.value ∙ c.in_ok-rows.ensures) c.deref-in-rounds.ensures.value c.rounds.invariant.apart c.hash_all.ensures);
      count = ap (λ v. length v.items) c.swap.ensures.y_after ∙ c.rounds.invariant.apart.count;
    }
