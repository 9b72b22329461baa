use Rattle.std.proofs.Common.{◌≡◌, ◌<◌, ◌↔◌, ℕ, Contains, sym, subst, arith}
use Rattle.past_abstraction.proofs.ImageStates.{numbers_more}
use Rattle.past_abstraction.proofs.images.all_states.Goals as goal

pub states-preserved : goal.states-preserved
states-preserved c = numbers_more c.states.numbers.items c.push.new.self.items c.states.state c.states.invariant c.in_ok-push.ensures.items

pub returns : goal.returns
returns c =
    let end : c.states.state ≡ c.args.count = omega arith in
    subst (λ set. (p : ℕ) → Contains set p ↔ (p < c.args.count)) (sym c.from_vec.ensures)
    (subst (λ n. (p : ℕ) → Contains c.states.numbers.items p ↔ (p < n)) end c.states.invariant)
