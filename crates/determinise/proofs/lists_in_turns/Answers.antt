use Rattle.std.proofs.Common.{ℕ, ◌∙◌, sym, subst}
use Rattle.bit_subsets.specs.Subsets.{IsPlain}
use Rattle.determinise.proofs.lists_in_turns.Goals as goal

pub turns-init : goal.turns-init
turns-init c = c.in_ok-turns.ensures

pub turns-preserved : goal.turns-preserved
turns-preserved c = c.in_ok-turns-2.ensures ∙ c.turns.invariant

pub finish-requires : goal.finish-requires
finish-requires c = subst (λ s. (p : ℕ) → IsPlain s.automaton.now p) (sym c.turns.invariant) c.requires
