-- Laws of the relation of pasts.
use Rattle.std.specs.Prelude.{ℕ}
use Rattle.std.proofs.Common.{arith}
use Rattle.word_automata.specs.Automaton.{Automaton}
use Rattle.abstraction.specs.Merging.{Key, IsEquivalence}
use Rattle.abstraction.specs.Bounds.{next_key}
use Rattle.abstraction.specs.BoundLaws.{bound_grows}
use Rattle.past_abstraction.specs.Pasts.{is_related}

pub related-equivalence : (k : Key) (a : Automaton) → IsEquivalence (is_related k a)
related-equivalence k a = record {
  reflexive = λ p w short. (λ h. h, λ h. h);
  symmetric = λ p q same w short. ((same w short).1, (same w short).0);
  transitive = λ p q r first second w short. (
    λ h. (second w short).0 ((first w short).0 h),
    λ h. (first w short).1 ((second w short).1 h),
  );
}

pub related-finer : (k : Key) (x a : Automaton) (p q : ℕ) → is_related (next_key k x) a p q → is_related k a p q
related-finer k x a p q same w short =
    let grows = bound_grows k.bound in
    same w (omega arith)
