-- Laws of the relation of futures.
use Rattle.std.specs.Prelude.{ℕ}
use Rattle.std.proofs.Common.{refl, sym, ◌∙◌, arith}
use Rattle.word_automata.specs.Automaton.{Automaton}
use Rattle.abstraction.specs.Merging.{Key, IsEquivalence}
use Rattle.abstraction.specs.Bounds.{next_key}
use Rattle.abstraction.specs.BoundLaws.{bound_grows}
use Rattle.future_abstraction.specs.Futures.{is_related}

pub related-equivalence : (k : Key) (a : Automaton) → IsEquivalence (is_related k a)
related-equivalence k a = record {
  reflexive = λ p w short. refl;
  symmetric = λ p q same w short. sym (same w short);
  transitive = λ p q r first second w short. first w short ∙ second w short;
}

pub related-finer : (k : Key) (x a : Automaton) (p q : ℕ) → is_related (next_key k x) a p q → is_related k a p q
related-finer k x a p q same w short =
    let grows = bound_grows k.bound in
    same w (omega arith)
