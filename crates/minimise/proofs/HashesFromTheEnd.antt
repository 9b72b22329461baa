-- Hashes from the last state on, of states whose edges lead to later ones: each is the hash of its signature by all of them, and so
-- states with different hashes are told apart.
use Rattle.std.proofs.Common.{◌≡◌, ◌+◌, ◌<◌, ◌≤◌, ◌⊎◌, ltb, ℕ, zero, suc, Bool, true, List, [], ◌∷◌, None, Some, Option}
use Rattle.std.proofs.Common.{length, set, slice_index, refl, sym, ap, ◌∙◌, subst, inl, inr, arith, All}
use Rattle.std.proofs.lemmas.Bool.{cases_eq}
use Rattle.std.proofs.lemmas.Bool.Decides.{nat_tests}
use Rattle.std.proofs.lemmas.List.Sums.{AllPass-from_list_all}
use Rattle.std.proofs.lemmas.List.{get_or_past, get_or-set_same, get_or-set_other, length-set}
use Rattle.std.proofs.lemmas.List.Elements.{All-nil, All-head, All-tail, All-weaker}
use Rattle.std.specs.List.{filter_map, cons_option, list_all}
use Rattle.std.specs.Option.{option_map}
use Rattle.word_automata.specs.Path.{edges_of, is_accepting}
use Rattle.word_automata.specs.Automaton.{Automaton, find_target, target, IsValid}
use Rattle.word_automata.proofs.ForCallers.{edges_of-past}
use Rattle.minimise.specs.Refinement.{live_class, live_edge}
use Rattle.minimise.specs.private.Rounds.{AreApart, AreToldApart, outgoing, outgoing_in, hash_of}
use Rattle.minimise.proofs.Edges.{next_state, class-past}
use Rattle.minimise.proofs.Refining.{outgoing_apart_by}
use Rattle.minimise.proofs.OwnSignatures.{outgoing-past}

-- from state i on, edges lead to later states, and each state has the hash of its signature
pub record AreHashesFrom (m : Automaton) (classes : List ℕ) (i : ℕ) : Type 0 where
  pub within : i ≤ length m.states
  pub count : length classes ≡ length m.states
  pub later : (q : ℕ) → i ≤ q → All (λ edge. q < edge.1) (edges_of m.states q)
  pub each : (q : ℕ) → i ≤ q → slice_index classes q ≡ hash_of (outgoing m classes q)

pub hashes_none : (m : Automaton) (classes : List ℕ) → length classes ≡ length m.states → AreHashesFrom m classes (length m.states)
hashes_none m classes count = record {
  within = omega arith;
  count = count;
  later = λ q past. subst (All (λ (edge : ℕ × ℕ). q < edge.1)) (sym (edges_of-past m.states q past)) (All-nil (λ (edge : ℕ × ℕ). q < edge.1));
  each = λ q past. get_or_past classes q 0 (omega arith) ∙ sym (ap hash_of (outgoing-past m classes q past));
}

same_live_edges : (xs ys : List ℕ) (edges : List (ℕ × ℕ)) → All (λ edge. slice_index xs edge.1 ≡ slice_index ys edge.1) edges
    → filter_map (live_edge xs) edges ≡ filter_map (live_edge ys) edges
same_live_edges xs ys [] h = refl
same_live_edges xs ys (e ∷ es) h =
    let P : ℕ × ℕ → Type 0 = λ edge. slice_index xs edge.1 ≡ slice_index ys edge.1 in
    λ i. cons_option (option_map (λ c. (e.0, c)) (live_class (All-head P e es h i))) (same_live_edges xs ys es (All-tail P e es h) i)

-- what is read of a state: its edges, which lead to later states, and its hash
pub record IsRead (m : Automaton) (classes : List ℕ) (i value : ℕ) : Type 0 where
  pub later : All (λ edge. i < edge.1) (edges_of m.states i)
  pub value_is : value ≡ hash_of (outgoing m classes i)

pub read : (m : Automaton) (classes now : List ℕ) (i value : ℕ) (accepting lead : Bool) (edges : List (ℕ × ℕ)) → now ≡ classes
    → accepting ≡ is_accepting m.states i → edges ≡ edges_of m.states i → lead ≡ true → lead ≡ list_all (λ edge. ltb i edge.1) edges
    → value ≡ hash_of (outgoing_in now (record { accepting = accepting; edges = edges })) → IsRead m classes i value
read m classes now i value accepting lead edges same flag row leads test is = record {
  later = subst (All (λ (edge : ℕ × ℕ). i < edge.1)) row
      (All-weaker (λ (edge : ℕ × ℕ). ltb i edge.1 ≡ true) (λ (edge : ℕ × ℕ). i < edge.1) (λ edge h. grind (arith, nat_tests)) edges
      (AllPass-from_list_all (λ (edge : ℕ × ℕ). ltb i edge.1) edges (sym test ∙ leads)));
  value_is = is ∙ (λ j. hash_of (outgoing_in (same j) (record { accepting = flag j; edges = row j })));
}

-- one state more
pub hashes_more : (m : Automaton) (classes : List ℕ) (state i value : ℕ) → state ≡ suc i → AreHashesFrom m classes state → IsRead m classes i value
    → AreHashesFrom m (set classes i value) i
hashes_more m classes state i value next known row = record {
  within = (let w = known.within in omega arith);
  count = length-set classes i value ∙ known.count;
  later = λ q from. later q from (cases_eq q i);
  each = λ q from. each q from (cases_eq q i);
}
  where
    later : (q : ℕ) → i ≤ q → (q ≡ i) ⊎ (q ≡ i → ⊥) → All (λ edge. q < edge.1) (edges_of m.states q)
    later q from (inl same) = subst (λ (p : ℕ). All (λ (edge : ℕ × ℕ). p < edge.1) (edges_of m.states p)) (sym same) row.later
    later q from (inr other) = known.later q (omega arith)

    same_outgoing : (q : ℕ) → i ≤ q → outgoing m classes q ≡ outgoing m (set classes i value) q
    same_outgoing q from = λ j. record {
      class = 0;
      accepting = is_accepting m.states q;
      edges = same_live_edges classes (set classes i value) (edges_of m.states q)
          (All-weaker (λ (edge : ℕ × ℕ). q < edge.1) (λ (edge : ℕ × ℕ). slice_index classes edge.1 ≡ slice_index (set classes i value) edge.1)
          (λ edge on. sym (get_or-set_other classes i edge.1 value 0 (λ e. absurd (omega arith)))) (edges_of m.states q)
          (later q from (cases_eq q i))) j;
    }

    each : (q : ℕ) → i ≤ q → (q ≡ i) ⊎ (q ≡ i → ⊥) → slice_index (set classes i value) q ≡ hash_of (outgoing m (set classes i value) q)
    each q from (inl same) =
        ap (slice_index (set classes i value)) same ∙ get_or-set_same classes i value 0 (omega (arith, known.count, known.within))
        ∙ row.value_is ∙ ap (λ p. hash_of (outgoing m classes p)) (sym same) ∙ ap hash_of (same_outgoing q from)
    each q from (inr other) = get_or-set_other classes i q value 0 other ∙ known.each q (omega arith) ∙ ap hash_of (same_outgoing q from)

found_later : (edges : List (ℕ × ℕ)) (q a r : ℕ) → All (λ edge. q < edge.1) edges → find_target edges a ≡ Some r → q < r
found_later [] q a r later found = cc
found_later (e ∷ edges) q a r later found =
    grind (arith, nat_tests, later 0 e (omega arith), found_later edges q a r (All-tail (λ (edge : ℕ × ℕ). q < edge.1) e edges later))

-- states with different hashes are told apart, by induction on a bound of how many states come after both
pub hashes_from_apart : (m : Automaton) → IsValid m → (classes : List ℕ) → AreHashesFrom m classes 0 → AreToldApart m classes
hashes_from_apart m valid classes all = record {
  count = all.count;
  told_apart = λ p q ne. apart (length m.states) p q (omega arith) (omega arith) ne;
}
  where
    next : (k p a : ℕ) → length m.states ≤ p + suc k → length m.states ≤ next_state m p a + k
    next k p a bound = by (target m p a) refl
      where
        by : (o : Option ℕ) → target m p a ≡ o → length m.states ≤ (elim o as (λ o. ℕ) [ None ↦ length m.states | Some r ↦ r ]) + k
        by None e = omega arith
        by (Some r) e = let l = found_later (edges_of m.states p) p a r (all.later p (omega arith)) e in omega arith

    apart : (k p q : ℕ) → length m.states ≤ p + k → length m.states ≤ q + k → (slice_index classes p ≡ slice_index classes q → ⊥) → AreApart m p q
    apart zero p q l h ne =
        absurd (ne (class-past m valid classes all.count p (omega arith) ∙ sym (class-past m valid classes all.count q (omega arith))))
    apart (suc k) p q l h ne =
        outgoing_apart_by m valid classes all.count p q (λ a. apart k (next_state m p a) (next_state m q a) (next k p a l) (next k q a h))
        (λ same. ne (all.each p (omega arith) ∙ ap hash_of same ∙ sym (all.each q (omega arith))))
