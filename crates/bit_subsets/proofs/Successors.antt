-- The successors of a set of bits, letter by letter.
use Rattle.std.proofs.Common.{◌≡◌, ◌+◌, ◌/◌, ◌<◌, ◌↔◌, ℕ, suc, List, [], ◌∷◌, ◌++◌, None, Some, Contains, length, drop, get_or, sym, subst, ◌∙◌, inl, inr, arith, add-one, drop-cons}
use Rattle.std.proofs.lemmas.Bool.{cases_eq, cases_lt}
use Rattle.std.proofs.lemmas.List.{drop_all}
use Rattle.std.proofs.lemmas.List.Elements.{All-nil, All-push}
use Rattle.word_automata.specs.Path.{edges_of}
use Rattle.word_automata.specs.Nondeterministic.{NondeterministicAutomaton, AcceptsFromAny}
use Rattle.word_automata.specs.StateSets.{AreStates, IsStep}
use Rattle.word_automata.proofs.ForCallers.{All-from_contains, move_within, step_accepts}
use Rattle.exploration.specs.DeterministicSystem.{look_up}
use Rattle.exploration.specs.Residuals.{AreResiduals}
use Rattle.exploration.proofs.ForCallers.{look_up-above, look_up-push_same, look_up-push_other}
use Rattle.bit_set.specs.Bits.{Has}
use Rattle.bit_set.specs.SetLists.{Adds, HasAt, IsInTable}
use Rattle.reduction.specs.Reduction.{KeepsStarts}
use Rattle.reduction.proofs.ForCallers.{kept_accept}
use Rattle.bit_subsets.specs.Subsets.{IsSubset, IsPlain, members}
use Rattle.bit_subsets.specs.private.Successors.{AreTargets, AreSuccessorsBelow}
use Rattle.bit_subsets.proofs.Lists.{increasing_push, letter_within}
use Rattle.bit_subsets.proofs.Members.{members_has}

-- for each letter the targets of the edges of the states
pub targets_all : (n : NondeterministicAutomaton) (words : ℕ) (set states : List ℕ) (sets rows : List (List ℕ)) → IsSubset n (members set)
    → ((k : ℕ) → Contains states k ↔ Has set k) → words ≡ length n.states / 64 + 1 → length sets ≡ n.letters → ((k number : ℕ) → HasAt sets k number → ⊥)
    → Adds HasAt (IsInTable words) (λ a q. (p : ℕ) × Contains states p × Contains (edges_of n.states p) (Some a, q)) sets rows → AreTargets n set rows
targets_all n words set states sets rows subset are room count none adds = record {
  count = adds.count ∙ count;
  steps = λ a. record {
    targets = λ p q there edge.
        let letter = letter_within n subset.in_range p a q edge in
        let state = move_within n subset.in_range p q (Some a) edge in
        (members_has (get_or rows a []) q).1 (adds.added a q (p, (are p).1 ((members_has set p).0 there), edge) ((let e = count in omega arith), omega arith));
    only_targets = λ q there. elim (adds.only a q ((members_has (get_or rows a []) q).0 there)) [
      | inl before ↦ absurd (none a q before)
      | inr target ↦ (target.0, (members_has set target.0).1 ((are target.0).0 target.1), target.2)
    ];
  };
}

pub successors_none : (n : NondeterministicAutomaton) (set : List ℕ) (pairs : List (ℕ × List ℕ)) → pairs ≡ [] → IsSubset n (members set) → AreSuccessorsBelow n set 0 pairs
successors_none n set pairs none subset = subst (AreSuccessorsBelow n set 0) (sym none) (record {
  subset = subset;
  increasing = tt;
  below = All-nil (λ (pair : ℕ × List ℕ). pair.0 < 0);
  subsets = All-nil (λ (pair : ℕ × List ℕ). IsSubset n (members pair.1));
  goes_on = λ a r here. (cc);
  stops = λ a less. absurd (omega arith);
})

-- one more letter
module _ (n : NondeterministicAutomaton) (set targets : List ℕ) (letter : ℕ) (step : IsStep n letter (members set) (members targets))
    (pairs : List (ℕ × List ℕ)) (so : AreSuccessorsBelow n set letter pairs) where
  pub successors_same : ((k : ℕ) → Has targets k → ⊥) → AreSuccessorsBelow n set (letter + 1) pairs
  successors_same empty = record {
    subset = so.subset;
    increasing = so.increasing;
    below = λ k d within. let less = so.below k d within in omega arith;
    subsets = so.subsets;
    goes_on = so.goes_on;
    stops = λ a less none w accepted. elim (cases_eq a letter) [
      | inl same ↦
          let run = (step_accepts n (members set) so.subset.closed letter (members targets) step w).0 (subst (λ x. AcceptsFromAny n (members set) (x ∷ w)) same accepted) in
          empty run.0 ((members_has targets run.0).0 run.3)
      | inr other ↦ so.stops a (omega arith) none w accepted
    ];
  }

  module _ (plain : (p : ℕ) → IsPlain n p) (kept : List ℕ) (keeps : KeepsStarts n (members targets) (members kept)) where
    more : List (ℕ × List ℕ)
    more = pairs ++ (letter, kept) ∷ []

    new : look_up (pairs ++ (letter, kept) ∷ []) letter ≡ Some kept
    new = look_up-push_same pairs (letter, kept) (look_up-above pairs letter so.below)

    other_letter : (a : ℕ) → (a ≡ letter → ⊥) → look_up (pairs ++ (letter, kept) ∷ []) a ≡ look_up pairs a
    other_letter a other = look_up-push_other pairs (letter, kept) a (λ same. other (sym same))

    kept_states : AreStates n (members kept)
    kept_states = All-from_contains (λ q. q < length n.states) (members kept) (λ q there.
        let edge = step.only_targets q (keeps.only q there) in
        move_within n so.subset.in_range edge.0 q (Some letter) edge.2)

    pub successors_more : AreSuccessorsBelow n set (letter + 1) (pairs ++ (letter, kept) ∷ [])
    successors_more = record {
      subset = so.subset;
      increasing = increasing_push pairs (letter, kept) so.increasing so.below;
      below = All-push (λ (pair : ℕ × List ℕ). pair.0 < letter + 1) pairs (letter, kept) (λ k d within. let less = so.below k d within in omega arith) (omega arith);
      subsets = All-push (λ (pair : ℕ × List ℕ). IsSubset n (members pair.1)) pairs (letter, kept) so.subsets
          (record { in_range = so.subset.in_range; states = kept_states; closed = λ p q there edge. absurd (plain p q edge) });
      goes_on = λ a r here w. elim (cases_eq a letter) [
        | inl same ↦
            let is : kept ≡ r = (let k = subst (λ x. look_up (pairs ++ (letter, kept) ∷ []) x ≡ Some r) same here in let l = new in cc) in
            let on = step_accepts n (members set) so.subset.closed letter (members targets) step w in
            let fewer = kept_accept n (members targets) (members kept) keeps w in
            subst (λ x. AcceptsFromAny n (members set) (x ∷ w) ↔ AcceptsFromAny n (members r) w) (sym same)
            (subst (λ x. AcceptsFromAny n (members set) (letter ∷ w) ↔ AcceptsFromAny n (members x) w) is
            (λ accepted. fewer.0 (on.0 accepted), λ accepted. on.1 (fewer.1 accepted)))
        | inr other ↦ so.goes_on a r (sym (other_letter a other) ∙ here) w
      ];
      stops = λ a less none w accepted. elim (cases_eq a letter) [
        | inl same ↦ (let k = subst (λ x. look_up (pairs ++ (letter, kept) ∷ []) x ≡ None) same none in let l = new in cc)
        | inr other ↦ so.stops a (omega arith) (sym (other_letter a other) ∙ none) w accepted
      ];
    }

-- no letter has an edge but those of the automaton
pub successors_all : (n : NondeterministicAutomaton) (set : List ℕ) (rows : List (List ℕ)) (pairs : List (ℕ × List ℕ)) → AreTargets n set rows → (bound : ℕ) → bound ≡ length rows
    → AreSuccessorsBelow n set bound pairs
    → AreResiduals n.letters (λ w other. AcceptsFromAny n (members w) other) (λ other. IsSubset n (members other)) set pairs
successors_all n set rows pairs targets bound all so = record {
  increasing = so.increasing;
  letters_in_range = λ k d within. let less = so.below k d within in let c = targets.count in omega arith;
  states = so.subsets;
  goes_on = so.goes_on;
  stops = λ a none w accepted. elim (cases_lt a bound) [
    | inl less ↦ so.stops a less none w accepted
    | inr past ↦
        let run = (step_accepts n (members set) so.subset.closed a (members (get_or rows a [])) (targets.steps a) w).0 accepted in
        let edge = (targets.steps a).only_targets run.0 run.3 in
        let letter = letter_within n so.subset.in_range edge.0 a run.0 edge.2 in
        absurd (let c = targets.count in omega arith)
  ];
}

-- an element less of the rest of a list
pub drop_head : {X : Type 0} (xs ys : List X) (k : ℕ) (x d : X) → drop k xs ≡ x ∷ ys → (k < length xs) × (get_or xs k d ≡ x) × (drop (k + 1) xs ≡ ys)
drop_head xs ys k x d is = elim (cases_lt k (length xs)) [
  | inl less ↦
      let opened = drop-cons xs k d less in
      let here : get_or xs k d ≡ x = cc in
      let rest : drop (suc k) xs ≡ ys = cc in
      (less, here, rw add-one rest)
  | inr past ↦ (let none = drop_all k xs past in cc)
]
