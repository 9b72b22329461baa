-- Closures told by the members of their sets.
use Rattle.std.proofs.Common.{◌≡◌, ◌<◌, ◌↔◌, ◌⊎◌, ℕ, Bool, true, false, not, List, [], ◌∷◌, ◌++◌, Option, None, Some, Contains, IsPermutation, length, get_or, refl, sym, subst, ◌∙◌, inl, inr, arith, length-append}
use Rattle.std.proofs.lemmas.Bool.{true≢false, cases_order}
use Rattle.std.proofs.lemmas.List.{append-nil, get_or_push, get_or_append_left, get_or_past}
use Rattle.std.proofs.lemmas.List.Sorted.{Contains-permutation, IsPermutation-sym}
use Rattle.std.specs.Option.{is_some}
use Rattle.word_automata.specs.Nondeterministic.{NondeterministicAutomaton}
use Rattle.word_automata.specs.StateSets.{AreStates, IsClosure, AddsTargets}
use Rattle.bit_subsets.specs.Subsets.{IsPlain}
use Rattle.bit_subsets.proofs.ForCallers.{AreStates-members}
use Rattle.determinise.specs.private.Subsets.{ArePlainWhereFalse, IsSubsetFrom, LeadsTo}
use Rattle.word_automata.proofs.ForCallers.{Contains-cases, Contains-none}

-- lists with the same members have the same closures
pub IsClosure-members : (n : NondeterministicAutomaton) (old other new more : List ℕ) → ((q : ℕ) → Contains old q ↔ Contains other q) → ((q : ℕ) → Contains new q ↔ Contains more q)
    → IsClosure n old new → IsClosure n other more
IsClosure-members n old other new more olds news closure = record {
  kept = λ q there. (news q).0 (closure.kept q ((olds q).1 there));
  closed = λ p q there edge. (news q).0 (closure.closed p q ((news p).1 there) edge);
  reached = λ q there. let silent = closure.reached q ((news q).1 there) in (silent.0, silent.1, (olds silent.0).0 silent.2, silent.3, silent.4);
}

-- what is closed, from a set with the same members on and in order, is the set that the states lead to
pub closed_in_order : (n : NondeterministicAutomaton) (from set closed ordered : List ℕ) → ((q : ℕ) → Contains set q ↔ Contains from q) → AreStates n closed → IsClosure n set closed
    → IsPermutation closed ordered → IsSubsetFrom n from ordered
closed_in_order n from set closed ordered same are closure turned =
    let back = IsPermutation-sym closed ordered turned in
    record {
      states = AreStates-members n closed ordered (λ q there. Contains-permutation ordered closed q back there) are;
      closure = IsClosure-members n set from closed ordered same
          (λ q. ((λ there. Contains-permutation closed ordered q turned there), (λ there. Contains-permutation ordered closed q back there))) closure;
    }

pub none_from_test : (o : Option ℕ) (b : Bool) → is_some o ≡ not b → b ≡ true → o ≡ None
none_from_test None b e t = refl
none_from_test (Some x) true e t = absurd (true≢false e)
none_from_test (Some x) false e t = absurd (true≢false (sym t))

pub some_from_test : (o : Option ℕ) (b : Bool) → is_some o ≡ not b → b ≡ false → o ≡ None → ⊥
some_from_test None true e t h = true≢false t
some_from_test None false e t h = true≢false (sym e)
some_from_test (Some x) b e t h = cc

-- no target is added where the label is on no edge
pub adds_no_target : (edges : List (Option ℕ × ℕ)) (old : List ℕ) → ((q : ℕ) → Contains edges (None, q) → ⊥) → AddsTargets edges None old old
adds_no_target edges old none = record {
  begins = ([], sym (append-nil old));
  targets = λ q there. absurd (none q there);
  only_targets = λ q there. inl there;
}

-- states without such edges are their own closure
pub subset_itself : (n : NondeterministicAutomaton) (states : List ℕ) → AreStates n states → ((p : ℕ) → Contains states p → IsPlain n p) → IsSubsetFrom n states states
subset_itself n states are plain = record {
  states = are;
  closure = record {
    kept = λ q there. there;
    closed = λ p q there edge. absurd (plain p there q edge);
    reached = λ q there. (q, [], there, refl, refl);
  };
}

-- one state without such edges, to which the targets lead
pub leads_to_one : (n : NondeterministicAutomaton) (targets : List ℕ) (to : ℕ) → targets ≡ to ∷ [] → AreStates n targets → IsPlain n to → LeadsTo n targets (to ∷ [])
leads_to_one n targets to is are plain = record {
  kept = targets;
  same_words = λ w. ((λ accepted. accepted), (λ accepted. accepted));
  from = subst (λ xs. IsSubsetFrom n targets xs) is (subset_itself n targets are (λ p there. by p (Contains-cases to [] p (subst (λ xs. Contains xs p) is there))));
}
  where
    by : (p : ℕ) → (to ≡ p) ⊎ Contains [] p → IsPlain n p
    by p (inl same) = subst (IsPlain n) same plain
    by p (inr none) = absurd (Contains-none p none)

-- one more flag
pub plain_more : (n : NondeterministicAutomaton) (flags : List Bool) (flag : Bool) (state : ℕ) → length flags ≡ state → ArePlainWhereFalse n flags → (flag ≡ false → IsPlain n state)
    → ArePlainWhereFalse n (flags ++ flag ∷ [])
plain_more n flags flag state count plain last p e = by (cases_order p state)
  where
    by : (p ≡ state) ⊎ ((p < state) ⊎ (state < p)) → IsPlain n p
    by (inl same) = subst (IsPlain n) (sym same) (last (sym (get_or_push flags flag true state count) ∙ subst (λ x. get_or (flags ++ flag ∷ []) x true ≡ false) same e))
    by (inr (inl less)) = plain p (sym (get_or_append_left flags (flag ∷ []) true p (omega arith)) ∙ e)
    by (inr (inr past)) = absurd (true≢false (sym (get_or_past (flags ++ flag ∷ []) p true (let a = length-append flags (flag ∷ []) in omega arith)) ∙ e))
