use Rattle.std.proofs.Common.{◌≡◌, Some, slice_get, refl, subst, inl}
use Rattle.exploration.proofs.construction.number.Goals as goal

pub returns-then-stands_at : goal.returns-then-stands_at
returns-then-stands_at g c = inl (record {
  same_found = refl;
  same_automaton = refl;
  at = subst (λ xs. slice_get xs c.args.last ≡ Some c.args.state) c.as_slice.ensures (c.if-stands_at.ensures.0 refl);
})
