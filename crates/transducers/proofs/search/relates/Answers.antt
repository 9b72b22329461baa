use Rattle.std.proofs.Common.{arith, refl, sym, true≢false}
use Rattle.transducers.proofs.SearchLemmas.{related, not_related, IsSearching-step}
use Rattle.transducers.proofs.search.relates.Goals as goal

pub returns-then-is_end : goal.returns-then-is_end
returns-then-is_end c = (
  λ _. related _ _ _ _ _ _ c.positions.invariant c.position_at-position.ensures (c.if-is_end.ensures.0 refl),
  λ _.
      refl,
)

pub positions-preserved : goal.positions-preserved
positions-preserved c =
    IsSearching-step _ _ _ _ _ _ _ c.positions.invariant c.position_at-position.ensures (λ e. true≢false (sym (c.if-is_end.ensures.1 e)))
    c.in_ok-expand.ensures

pub returns : goal.returns
returns c = (λ h. absurd (true≢false (sym h)), λ r. absurd (not_related _ _ _ _ _ c.positions.invariant (omega arith) r))
