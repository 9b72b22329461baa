use Rattle.std.proofs.Common.{ℕ, ◌∙◌, sym, subst}
use Rattle.bit_subsets.specs.Subsets.{IsPlain}
use Rattle.determinise.proofs.plain_subsets_from.Goals as goal

pub lists_in_turns-requires : goal.lists_in_turns-requires
lists_in_turns-requires c = subst (λ s. (p : ℕ) → IsPlain s.automaton.now p) (sym (c.in_ok-found.ensures ∙ c.in_ok-few.ensures)) c.requires

pub bit_subsets_of-requires : goal.bit_subsets_of-requires
bit_subsets_of-requires c = subst (λ s. (p : ℕ) → IsPlain s.automaton.now p) (sym (c.in_ok-found.ensures ∙ c.in_ok-few.ensures)) c.requires
