use Rattle.std.proofs.Common.{length, inl, inr, arith, below_more}
use Rattle.std.proofs.lemmas.Bool.{cases_lt}
use Rattle.image_preimage.specs.private.CopyingStates.{IsCopyingAt}
use Rattle.image_preimage.proofs.CopyingLemmas.{copying_past}
use Rattle.image_preimage.proofs.copying_states.are_copying.Goals as goal

pub states-preserved : goal.states-preserved
states-preserved c =
    below_more (λ p. IsCopyingAt c.args.t.now c.args.flags.now p) c.states.state c.states.invariant (c.copies_at.ensures c.if-not-copies_at.false)

pub returns : goal.returns
returns c t p = elim (cases_lt p (length c.args.t.now.states)) [
  | inl there ↦ c.states.invariant p (let e = c.states-state-end.ensures.states in let x = c.states-test.false in omega arith)
  | inr past ↦ copying_past c.args.t.now c.args.flags.now p (let e = c.requires in omega arith)
]
