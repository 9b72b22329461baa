use Rattle.std.proofs.Common.{Option, List, ℕ, Contains, sym, subst, ◌∙◌}
use Rattle.boolean_operations.proofs.dead_states.rejects_at.Goals as goal

pub returns : goal.returns
returns g c all = record {
  rejects = λ flag. sym c.accepting.ensures ∙ c.if-accepting.false;
  leads = λ flag label q there. c.lead_to_flagged.ensures all label q (subst (λ (xs : List (Option ℕ × ℕ)). Contains xs (label, q)) (sym c.edges_from.ensures) there);
}
