-- Sets that are added as states, and the edges between them.
use Rattle.std.proofs.Common.{◌≡◌, ◌==◌, ◌&&◌, ◌<◌, ◌≤◌, ◌+◌, ◌++◌, ◌⊎◌, ℕ, zero, suc, true, List, [], ◌∷◌, None, Some, Contains, length, get_or}
use Rattle.std.proofs.Common.{refl, sym, ap, subst, ◌∙◌, inl, inr, arith, length-append, if◌then◌else◌, eq-eqb}
use Rattle.std.proofs.lemmas.Bool.{cases_eq, cases_lt, and_parts, and_from, false_from_ne_true, eqb-true}
use Rattle.std.proofs.lemmas.List.{append-nil, append_assoc, length_push, get_or_append_left, get_or_default, get_or_push}
use Rattle.std.proofs.lemmas.List.Elements.{Contains-push}
use Rattle.std.proofs.lemmas.Option.{slice_get_within, get_or_from_slice_get}
use Rattle.word_automata.specs.Path.{Node, edges_of, is_accepting}
use Rattle.word_automata.specs.Automaton.{Automaton, target, find_target}
use Rattle.word_automata.specs.Building.{AddsEdge, with_state}
use Rattle.word_automata.proofs.ForCallers.{leads_within}
use Rattle.exploration.specs.Incoming.{Chains}
use Rattle.past_abstraction.specs.private.PastSets.{LeadsInto, IsPreimage, AreInAlphabet, AreSingle, IsBefore, AreExpanded, Continues}
use Rattle.past_abstraction.specs.private.WordSets.{HaveSameStates}
use Rattle.past_abstraction.specs.private.PastSets.{IsKnown, IsNew}

-- a state without edges at the end
edges_of-push : (states : List (Node ℕ)) (q : ℕ) → edges_of (states ++ record { accepting = true; edges = [] } ∷ []) q ≡ edges_of states q
edges_of-push [] zero = refl
edges_of-push [] (suc q) = refl
edges_of-push (x ∷ states) zero = refl
edges_of-push (x ∷ states) (suc q) = edges_of-push states q

accepting-push : (states : List (Node ℕ)) → ((q : ℕ) → q < length states → is_accepting states q ≡ true)
    → (q : ℕ) → q < length states + 1 → is_accepting (states ++ record { accepting = true; edges = [] } ∷ []) q ≡ true
accepting-push [] all zero less = refl
accepting-push [] all (suc q) less = absurd (omega arith)
accepting-push (x ∷ states) all zero less = all zero (omega arith)
accepting-push (x ∷ states) all (suc q) less = accepting-push states (λ p l. all (suc p) (omega arith)) q (omega arith)

pub target-with_state : (m : Automaton) (q letter : ℕ) → target (with_state m true) q letter ≡ target m q letter
target-with_state m q letter = ap (λ edges. find_target edges letter) (edges_of-push m.states q)

-- an edge that is added
module _ (m n : Automaton) (from letter to : ℕ) (adds : AddsEdge m n from letter to) where
  target_here : target n from letter ≡ Some to
  target_here = adds.targets from letter ∙ ap (λ b. if b then Some to else target m from letter)
      (and_from (from == from) (letter == letter) (eq-eqb from from refl) (eq-eqb letter letter refl))

  target_other : (q a : ℕ) → ((q ≡ from) × (a ≡ letter) → ⊥) → target n q a ≡ target m q a
  target_other q a ne = adds.targets q a ∙ ap (λ b. if b then Some to else target m q a) (false_from_ne_true ((q == from) && (a == letter))
      (λ both. let parts = and_parts (q == from) (a == letter) both in ne (eqb-true q from parts.0, eqb-true a letter parts.1)))

  target_cases : (q a : ℕ) → ((q ≡ from) × (a ≡ letter)) ⊎ (target n q a ≡ target m q a)
  target_cases q a = elim (cases_eq q from) [
    | inl e ↦ elim (cases_eq a letter) [ inl f ↦ inl (e, f) | inr ne ↦ inr (target_other q a (λ both. ne both.1)) ]
    | inr ne ↦ inr (target_other q a (λ both. ne both.0))
  ]

-- what is there stays, and stays again
pub continues_same : (number : ℕ) (m : Automaton) (sets : List (List ℕ)) → Continues number m m sets sets
continues_same number m sets = record { same_letters = refl; begins = ([], sym (append-nil sets)); same_targets = λ i letter less. refl }

pub continues_both : (number later : ℕ) (m n o : Automaton) (sets more all : List (List ℕ)) → number ≤ later → Continues number m n sets more
    → Continues later n o more all → Continues number m o sets all
continues_both number later m n o sets more all less first second = record {
  same_letters = second.same_letters ∙ first.same_letters;
  begins = (
    first.begins.0 ++ second.begins.0,
    second.begins.1 ∙ ap (λ xs. xs ++ second.begins.0) first.begins.1 ∙ append_assoc sets first.begins.0 second.begins.0,
  );
  same_targets = λ i letter before. second.same_targets i letter (omega arith) ∙ first.same_targets i letter before;
}

pub longer : (number : ℕ) (m n : Automaton) (sets more : List (List ℕ)) → Continues number m n sets more → length sets ≤ length more
longer number m n sets more on = let e = ap length on.begins.1 ∙ length-append sets on.begins.0 in omega arith

pub same_place : (number : ℕ) (m n : Automaton) (sets more : List (List ℕ)) → Continues number m n sets more → (i : ℕ) → i < length sets
    → get_or more i [] ≡ get_or sets i []
same_place number m n sets more on i less = ap (λ xs. get_or xs i []) on.begins.1 ∙ get_or_append_left sets on.begins.0 [] i less

-- what is read at a place is what stands there
pub read_at : (sets read_sets : List (List ℕ)) (read : List ℕ) (i : ℕ) → read_sets ≡ sets → i < length sets → read ≡ get_or read_sets i read
    → read ≡ get_or sets i []
read_at sets read_sets read i same less is = is ∙ ap (λ xs. get_or xs i read) same ∙ get_or_default sets i read [] less

pub edge_continues : (m n : Automaton) (sets : List (List ℕ)) (number at to : ℕ) → AddsEdge m n number at to → Continues number m n sets sets
edge_continues m n sets number at to adds = record {
  same_letters = adds.same_letters;
  begins = ([], sym (append-nil sets));
  same_targets = λ i letter less. target_other m n number at to adds i letter (λ both. (let e = both.0 in omega arith));
}

pub same_preimage : (into : Chains) (set : List ℕ) (letter : ℕ) (states others : List ℕ) → IsPreimage into set letter states
    → HaveSameStates states others → IsPreimage into set letter others
same_preimage into set letter states others is same p = (λ there. (is p).0 ((same p).0 there), λ leads. (same p).1 ((is p).1 leads))

-- the number of a set is that of a state, and the set stands there
pub record HasState (into : Chains) (m n : Automaton) (sets more : List (List ℕ)) (number at : ℕ) (set : List ℕ) (to : ℕ) : Type 0 where
  pub expanded : AreExpanded into n more number at
  pub continues : Continues (length sets) m n sets more
  pub within : to < length more
  pub is : get_or more to [] ≡ set

pub known_state : (into : Chains) (m n : Automaton) (sets more : List (List ℕ)) (number at : ℕ) (set : List ℕ) (to : ℕ)
    → AreExpanded into m sets number at → IsKnown m n sets more set to
    → HasState into m n sets more number at set to
known_state into m n sets more number at set to before known = record {
  expanded = subst (λ x. AreExpanded into x more number at) (sym known.same)
      (subst (λ xs. AreExpanded into m xs number at) (sym known.same_sets) before);
  continues = subst (λ x. Continues (length sets) m x sets more) (sym known.same)
      (subst (λ xs. Continues (length sets) m m sets xs) (sym known.same_sets) (continues_same (length sets) m sets));
  within = subst (λ xs. to < length xs) (sym known.same_sets) (slice_get_within sets to set known.at);
  is = ap (λ xs. get_or xs to []) known.same_sets ∙ get_or_from_slice_get sets to set [] known.at;
}

module _ (into : Chains) (m : Automaton) (sets : List (List ℕ)) (number at : ℕ) (set : List ℕ) (p : ℕ) (there : Contains set p)
    (inside : number < length sets) (before : AreExpanded into m sets number at) where
  place : (i : ℕ) → i < length sets → get_or (sets ++ set ∷ []) i [] ≡ get_or sets i []
  place i less = get_or_append_left sets (set ∷ []) [] i less

  now_expanded : AreExpanded into (with_state m true) (sets ++ set ∷ []) number at
  now_expanded = record {
    states = (let e = length_push m.states (record { accepting = true; edges = [] }) in let f = length_push sets set in let g = before.states in omega
        arith);
    accepting = λ i less. accepting-push m.states (λ q l. before.accepting q (let g = before.states in omega arith)) i
        (let f = length_push sets set in let g = before.states in omega arith);
    some = λ i less. elim (cases_lt i (length sets)) [
      | inl earlier ↦ let some = before.some i earlier in (some.0, subst (λ s. Contains s some.0) (sym (place i earlier)) some.1)
      | inr from ↦ (p, subst (λ s. Contains s p) (sym (get_or_push sets set [] i (let f = length_push sets set in omega arith))) there)
    ];
    leads = λ i letter j leads.
        let led = sym (target-with_state m i letter) ∙ leads in
        let (within, is) = before.leads i letter j led in
        let less : i < length sets = (let l = leads_within m i letter j led in let g = before.states in omega arith) in (
          (let f = length_push sets set in omega arith),
          subst (λ s. IsPreimage into s letter (get_or (sets ++ set ∷ []) j [])) (sym (place i less))
              (subst (IsPreimage into (get_or sets i []) letter) (sym (place j within)) is),
        );
    complete = λ i letter q earlier none leads.
        let less : i < length sets = elim earlier [ inl l ↦ omega arith | inr same ↦ (let e = same.0 in omega arith) ] in
        before.complete i letter q earlier (sym (target-with_state m i letter) ∙ none) (subst (λ s. LeadsInto into s letter q) (place i less) leads);
    without = λ i letter later. target-with_state m i letter ∙ before.without i letter later;
  }

  pub new_state : (n : Automaton) (more : List (List ℕ)) (to : ℕ) → IsNew m n sets more set to → HasState into m n sets more number at set to
  new_state n more to new = record {
    expanded = subst (λ x. AreExpanded into x more number at) (sym new.added)
        (subst (λ xs. AreExpanded into (with_state m true) xs number at) (sym new.added_set) now_expanded);
    continues = record {
      same_letters = ap (λ (x : Automaton). x.letters) new.added;
      begins = (set ∷ [], new.added_set);
      same_targets = λ i letter less. ap (λ x. target x i letter) new.added ∙ target-with_state m i letter;
    };
    within = (let e = ap length new.added_set ∙ length_push sets set in let l = new.last in omega arith);
    is = ap (λ xs. get_or xs to []) new.added_set ∙ get_or_push sets set [] to (sym new.last);
  }

pub has_state : (into : Chains) (m n : Automaton) (sets more : List (List ℕ)) (number at : ℕ) (set : List ℕ) (to p : ℕ) → Contains set p
    → number < length sets → AreExpanded into m sets number at
    → IsKnown m n sets more set to ⊎ IsNew m n sets more set to → HasState into m n sets more number at set to
has_state into m n sets more number at set to p there inside before (inl known) = known_state into m n sets more number at set to before known
has_state into m n sets more number at set to p there inside before (inr new) = new_state into m sets number at set p there inside before n more to
    new

-- no edge, where no state leads into the set
pub edge_left : (into : Chains) (m : Automaton) (sets : List (List ℕ)) (number at : ℕ) → AreExpanded into m sets number at
    → ((p : ℕ) → LeadsInto into (get_or sets number []) at p → ⊥)
    → AreExpanded into m sets number (at + 1)
edge_left into m sets number at before none = record {
  states = before.states;
  accepting = before.accepting;
  some = before.some;
  leads = before.leads;
  complete = λ i letter p earlier without leads. elim (last_or_before i letter earlier) [
    | inl there ↦ before.complete i letter p there without leads
    | inr here ↦ none p (subst (λ x. LeadsInto into (get_or sets number []) x p) here.1
        (subst (λ x. LeadsInto into (get_or sets x []) letter p) here.0 leads))
  ];
  without = λ i letter later. before.without i letter (λ there. later (more_before i letter there));
}
  where
    last_or_before : (i letter : ℕ) → IsBefore i letter number (at + 1) → IsBefore i letter number at ⊎ ((i ≡ number) × (letter ≡ at))
    last_or_before i letter (inl less) = inl (inl less)
    last_or_before i letter (inr (same, less)) = elim (cases_lt letter at)
        [ inl earlier ↦ inl (inr (same, earlier)) | inr from ↦ inr (same, omega arith) ]

    more_before : (i letter : ℕ) → IsBefore i letter number at → IsBefore i letter number (at + 1)
    more_before i letter (inl less) = inl less
    more_before i letter (inr (same, less)) = inr (same, omega arith)

-- an edge to the state of the preimage
pub edge_added : (into : Chains) (m n : Automaton) (sets : List (List ℕ)) (number at to : ℕ) → AreExpanded into m sets number at
    → AddsEdge m n number at to → to < length sets
    → IsPreimage into (get_or sets number []) at (get_or sets to []) → AreExpanded into n sets number (at + 1)
edge_added into m n sets number at to before adds within is = record {
  states = adds.same_size ∙ before.states;
  accepting = λ i less. adds.same_acceptance i ∙ before.accepting i less;
  some = before.some;
  leads = λ i letter j leads. elim (target_cases m n number at to adds i letter) [
    | inl here ↦
        let to_is : Some to ≡ Some j = sym (target_here m n number at to adds) ∙ subst (λ x. target n number x ≡ Some j) here.1
        (subst (λ x. target n x letter ≡ Some j) here.0 leads) in
        led i letter j here (cc)
    | inr same ↦ before.leads i letter j (sym same ∙ leads)
  ];
  complete = λ i letter p earlier without leads. elim (target_cases m n number at to adds i letter) [
    | inl here ↦
        let some : target n i letter ≡ Some to = subst (λ x. target n x letter ≡ Some to) (sym here.0)
        (subst (λ x. target n number x ≡ Some to) (sym here.1) (target_here m n number at to adds)) in
        absurd (let both = sym some ∙ without in cc)
    | inr same ↦ before.complete i letter p (still_before i letter earlier (λ both. no_edge i letter both without)) (sym same ∙ without) leads
  ];
  without = λ i letter later. elim (target_cases m n number at to adds i letter) [
    | inl here ↦ absurd (later (inr (here.0, (let e = here.1 in omega arith))))
    | inr same ↦ same ∙ before.without i letter (λ there. later (more_before i letter there))
  ];
}
  where
    led : (i letter j : ℕ) → (i ≡ number) × (letter ≡ at) → to ≡ j → (j < length sets) × IsPreimage into (get_or sets i []) letter (get_or sets j [])
    led i letter j here same = (
      subst (λ x. x < length sets) same within,
      subst (λ x. IsPreimage into (get_or sets x []) letter (get_or sets j [])) (sym here.0)
          (subst (λ x. IsPreimage into (get_or sets number []) x (get_or sets j [])) (sym here.1)
          (subst (λ x. IsPreimage into (get_or sets number []) at (get_or sets x [])) same is)),
    )

    no_edge : (i letter : ℕ) → (i ≡ number) × (letter ≡ at) → target n i letter ≡ None → ⊥
    no_edge i letter here without =
        let some : target n i letter ≡ Some to = subst (λ x. target n x letter ≡ Some to) (sym here.0)
        (subst (λ x. target n number x ≡ Some to) (sym here.1) (target_here m n number at to adds)) in
        let both = sym some ∙ without in cc

    still_before : (i letter : ℕ) → IsBefore i letter number (at + 1) → ((i ≡ number) × (letter ≡ at) → ⊥) → IsBefore i letter number at
    still_before i letter (inl less) ne = inl less
    still_before i letter (inr (same, less)) ne = elim (cases_lt letter at)
        [ inl earlier ↦ inr (same, earlier) | inr from ↦ absurd (ne (same, omega arith)) ]

    more_before : (i letter : ℕ) → IsBefore i letter number at → IsBefore i letter number (at + 1)
    more_before i letter (inl less) = inl less
    more_before i letter (inr (same, less)) = inr (same, omega arith)

-- all edges of a state
pub row_ended : (into : Chains) (letters : ℕ) (m : Automaton) (sets : List (List ℕ)) (number at : ℕ) → AreInAlphabet into letters → letters ≤ at
    → AreExpanded into m sets number at → AreExpanded into m sets (number + 1) 0
row_ended into letters m sets number at alphabet all before = record {
  states = before.states;
  accepting = before.accepting;
  some = before.some;
  leads = before.leads;
  complete = λ i letter p earlier without leads. before.complete i letter p (back i letter p earlier leads) without leads;
  without = λ i letter later. before.without i letter (λ there. later (on i letter there));
}
  where
    back : (i letter p : ℕ) → IsBefore i letter (number + 1) 0 → LeadsInto into (get_or sets i []) letter p → IsBefore i letter number at
    back i letter p (inr (same, less)) leads = absurd (omega arith)
    back i letter p (inl less) leads = elim (cases_lt i number) [
      | inl earlier ↦ inl earlier
      | inr from ↦ inr ((let l = less in omega arith), (let l = alphabet leads.0 (letter, p) leads.2 in omega arith))
    ]

    on : (i letter : ℕ) → IsBefore i letter number at → IsBefore i letter (number + 1) 0
    on i letter (inl less) = inl (omega arith)
    on i letter (inr (same, less)) = inl (omega arith)

-- no state, and one that stands for itself alone
pub no_single : (letters : ℕ) → AreSingle 0 letters (record { letters = letters; states = [] }) []
no_single letters = record {
  same_letters = refl;
  states = refl;
  count_is = refl;
  accepting = λ q less. absurd (omega arith);
  single = λ q less. absurd (omega arith);
  without = λ q letter. refl;
}

pub one_single : (count letters : ℕ) (m n : Automaton) (sets more : List (List ℕ)) (number : ℕ) → AreSingle count letters m sets
    → IsKnown m n sets more (count ∷ []) number ⊎ IsNew m n sets more (count ∷ []) number → AreSingle (count + 1) letters n more
one_single count letters m n sets more number before (inl known) =
    let less = slice_get_within sets number (count ∷ []) known.at in
    let same : number ∷ [] ≡ count ∷ [] = sym (before.single number less) ∙ get_or_from_slice_get sets number (count ∷ []) [] known.at in
    let equal : number ≡ count = ap (λ xs. get_or xs 0 0) same in
    absurd (let c = before.count_is in omega arith)
one_single count letters m n sets more number before (inr new) = subst (λ x. AreSingle (count + 1) letters x more) (sym new.added)
    (subst (AreSingle (count + 1) letters (with_state m true)) (sym new.added_set) now)
  where
    now : AreSingle (count + 1) letters (with_state m true) (sets ++ (count ∷ []) ∷ [])
    now = record {
      same_letters = before.same_letters;
      states = (let e = length_push m.states (record { accepting = true; edges = [] }) in let f = length_push sets (count ∷ []) in let g =
          before.states in omega arith);
      count_is = (let f = length_push sets (count ∷ []) in let c = before.count_is in omega arith);
      accepting = λ i less. accepting-push m.states (λ q l. before.accepting q (let g = before.states in omega arith)) i
          (let f = length_push sets (count ∷ []) in let g = before.states in omega arith);
      single = λ q less. elim (cases_lt q (length sets)) [
        | inl earlier ↦ get_or_append_left sets ((count ∷ []) ∷ []) [] q earlier ∙ before.single q earlier
        | inr from ↦
            let here : length sets ≡ q = (let f = length_push sets (count ∷ []) in omega arith) in
            get_or_push sets (count ∷ []) [] q here ∙ ap (λ x. x ∷ []) (sym before.count_is ∙ here)
      ];
      without = λ q letter. target-with_state m q letter ∙ before.without q letter;
    }

pub single_expanded : (into : Chains) (count letters : ℕ) (m : Automaton) (sets : List (List ℕ)) → AreSingle count letters m sets
    → AreExpanded into m sets 0 0
single_expanded into count letters m sets are = record {
  states = are.states;
  accepting = are.accepting;
  some = λ i less. (i, subst (λ s. Contains s i) (sym (are.single i less)) (Contains-push [] i));
  leads = λ i letter j leads. absurd (let none = are.without i letter in cc);
  complete = λ i letter p before none leads. elim before [ inl less ↦ omega arith | inr same ↦ (let l = same.1 in omega arith) ];
  without = λ i letter later. are.without i letter;
}
