-- The numbers of sets of bits as lists, and states that are taken out of sets.
use Rattle.std.proofs.Common.{◌≡◌, ◌<◌, ◌*◌, ◌/◌, ◌%◌, ◌↔◌, ℕ, zero, suc, Bool, List, [], ◌∷◌, ◌++◌, Contains, length, get_or, sym, subst, inl, inr, arith, eq-eqb, ne_eqb, if◌then◌else◌}
use Rattle.std.proofs.lemmas.Bool.{cases_eq}
use Rattle.std.proofs.lemmas.List.Elements.{Contains-append_left, Contains-push, Contains-push_cases}
use Rattle.std.specs.Int.{bit_at}
use Rattle.word_automata.specs.Nondeterministic.{NondeterministicAutomaton}
use Rattle.word_automata.proofs.ForCallers.{Contains-none}
use Rattle.bit_set.specs.Bits.{Has}
use Rattle.bit_set.proofs.ForCallers.{Has-within}
use Rattle.reduction.specs.Reduction.{AcceptsAlong, KeepsStarts}
use Rattle.reduction.specs.Simulation.{AreIncluded}
use Rattle.reduction.proofs.ForCallers.{below_accepts}
use Rattle.bit_subsets.specs.Subsets.{members_below, members}

below : (words : List ℕ) (b k : ℕ) → Contains (members_below words b) k ↔ ((k < b) × Has words k)
unfolding members_below
below words zero k = (λ there. absurd (Contains-none k there), λ has. absurd (let l = has.0 in omega arith))
below words (suc b) k = elim (cases_eq (bit_at (get_or words (b / 64) 0) (b % 64)) 1) [
  | inl one ↦
      subst (λ (t : Bool). Contains (if t then members_below words b ++ b ∷ [] else members_below words b) k ↔ ((k < suc b) × Has words k))
      (sym (eq-eqb (bit_at (get_or words (b / 64) 0) (b % 64)) 1 one)) (
        λ there. elim (Contains-push_cases (members_below words b) b k there) [
          | inl before ↦ let has = (below words b k).0 before in ((let l = has.0 in omega arith), has.1)
          | inr same ↦ ((omega arith), subst (Has words) same one)
        ],
        λ has. elim (cases_eq k b) [
          | inl same ↦ subst (Contains (members_below words b ++ b ∷ [])) (sym same) (Contains-push (members_below words b) b)
          | inr other ↦ Contains-append_left (members_below words b) (b ∷ []) k ((below words b k).1 ((let l = has.0 in omega arith), has.1))
        ],
      )
  | inr off ↦
      subst (λ (t : Bool). Contains (if t then members_below words b ++ b ∷ [] else members_below words b) k ↔ ((k < suc b) × Has words k))
      (sym (ne_eqb (bit_at (get_or words (b / 64) 0) (b % 64)) 1 off)) (
        λ there. let has = (below words b k).0 there in ((let l = has.0 in omega arith), has.1),
        λ has. elim (cases_eq k b) [
          | inl same ↦ absurd (off (subst (Has words) same has.1))
          | inr other ↦ (below words b k).1 ((let l = has.0 in omega arith), has.1)
        ],
      )
]

-- the members are the numbers that the set has
pub members_has : (words : List ℕ) (k : ℕ) → Contains (members words) k ↔ Has words k
unfolding members
members_has words k = (λ there. ((below words (64 * length words) k).0 there).1, λ has. (below words (64 * length words) k).1 ((let l = Has-within words k has in omega arith), has))

-- a state less, which is below one that stays
pub removed_keep : (n : NondeterministicAutomaton) (pairs : List (ℕ × ℕ)) → AreIncluded n pairs → (old new : List ℕ) (q r : ℕ) → (q ≡ r → ⊥) → Contains pairs (q, r) → Has old r
    → ((k : ℕ) → Has old k → (k ≡ q → ⊥) → Has new k) → ((k : ℕ) → Has new k → Has old k) → KeepsStarts n (members old) (members new)
removed_keep n pairs included old new q r different pair there kept only = record {
  only = λ k here. (members_has old k).1 (only k ((members_has new k).0 here));
  kept = λ k labels here along. elim (cases_eq k q) [
    | inl same ↦ (
      r,
      (members_has new r).1 (kept r there (λ e. different (sym e))),
      below_accepts n pairs included q r (inr pair) labels (subst (λ x. AcceptsAlong n x labels) same along),
    )
    | inr other ↦ (k, (members_has new k).1 (kept k ((members_has old k).0 here) other), along)
  ];
}

-- a set with the states of a list has these members
pub members_of : (words states : List ℕ) → ((q : ℕ) → Has words q ↔ Contains states q) → (q : ℕ) → Contains (members words) q ↔ Contains states q
members_of words states are q = (λ there. (are q).0 ((members_has words q).0 there), λ there. (members_has words q).1 ((are q).1 there))
