use Rattle.std.proofs.Common.{◌≡◌, ◌<◌, ◌↔◌, ◌+◌, ℕ, Contains, length, subst, sym, ap, ◌∙◌, true≢false, arith}
use Rattle.atoms.specs.Covers.{IsWithin}
use Rattle.atoms.proofs.RowsByState.{found_skip, found_more}
use Rattle.atoms.proofs.rows.Atoms.states_within.Goals as goal

pub states-preserved-then-not-is_within : goal.states-preserved-then-not-is_within
states-preserved-then-not-is_within c =
    let rows = c.args.self.now in
    let within : c.states.state < length rows = (let t = c.states-test.true in let e = c.len-state-end.ensures in let v = ap length c.self.view_is in omega arith) in
    found_skip (IsWithin rows c.args.signature.now) c.states.state c.states.states.items c.states.invariant
    (λ w. true≢false (sym (c.is_within.ensures.1 (within, w)) ∙ c.if-not-is_within.true))

pub states-preserved : goal.states-preserved
states-preserved c =
    subst (λ xs. (q : ℕ) → Contains xs q ↔ ((q < c.states.state + 1) × IsWithin c.args.self.now c.args.signature.now q)) (sym c.in_ok-push.ensures.items)
    (found_more (IsWithin c.args.self.now c.args.signature.now) c.states.state c.states.states.items c.states.invariant (c.is_within.ensures.0 c.if-not-is_within.false).1)

pub returns : goal.returns
returns c =
    let end : c.states.state ≡ length c.args.self.now =
    (let t = c.states-test.false in let l = c.states.auto.state-end in let e = c.len-state-end.ensures in let v = ap length c.self.view_is in omega arith) in
    subst (λ k. (q : ℕ) → Contains c.states.states.items q ↔ ((q < k) × IsWithin c.args.self.now c.args.signature.now q)) end c.states.invariant
