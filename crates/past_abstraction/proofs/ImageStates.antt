-- Lists of the states to which letters lead from the states of a set.
use Rattle.std.proofs.Common.{◌≡◌, ◌<◌, ◌≤◌, ◌+◌, ◌↔◌, ◌⊎◌, ℕ, Vec, List, [], ◌∷◌, ◌++◌, All, Some, Contains, length, take, set, get_or, refl, sym, ap, subst, ◌∙◌, inl, inr, arith}
use Rattle.std.specs.Prelude.{eqb}
use Rattle.std.specs.List.{dedup}
use Rattle.std.specs.List.Retain.{IsFiltered, DiffersFromLast}
use Rattle.std.specs.List.Sorted.{IsPermutation}
use Rattle.std.proofs.lemmas.List.Filters.{dedup_is}
use Rattle.std.proofs.lemmas.List.Kept.{Contains-dedup_nat, Contains-from_dedup}
use Rattle.std.proofs.lemmas.Bool.{cases_eq, cases_lt}
use Rattle.std.proofs.lemmas.List.{length_push, length-set, get_or-set_same, get_or-set_other, get_or_append_left, get_or_push}
use Rattle.std.proofs.lemmas.List.Sorted.{Contains-permutation, IsPermutation-sym}
use Rattle.std.proofs.lemmas.List.Elements.{All-contains, All-nil, Contains-append_left, Contains-push, Contains-push_cases}
use Rattle.std.proofs.lemmas.Option.{slice_get-get_or, slice_get_within, get_or_from_slice_get}
use Rattle.word_automata.specs.Path.{edges_of}
use Rattle.word_automata.specs.Automaton.{Automaton, target, IsValid}
use Rattle.word_automata.proofs.ForCallers.{found_edge, edge_found, Contains-none, All-from_contains, All-edges_of, ordered_edges}
use Rattle.word_automata.proofs.ForCallers.{target_within}
use Rattle.bit_set.specs.Bits.{Has}
use Rattle.abstraction.proofs.ForCallers.{take_cases, take_keeps, take_last}
use Rattle.past_abstraction.specs.private.WordSets.{LeadsFrom, IsListed, HasEmptyLists, PutsEdges, AreImages, HaveSameStates}

-- no list, and one more without states
pub lists_none : {A : Type 0} → HasEmptyLists {A = A} 0 []
lists_none = record { count = refl; empty = λ letter q there. absurd (let within = slice_get_within [] letter there.0 there.1 in omega arith) }

pub lists_more : {A : Type 0} (old new : List (Vec ℕ A)) (letters : ℕ) (list : Vec ℕ A) → new ≡ old ++ list ∷ [] → list.items ≡ [] → HasEmptyLists letters old → HasEmptyLists (letters + 1) new
lists_more {A = A} old new letters list grown none before = record {
  count = (let e = ap length grown ∙ length_push old list in let n = before.count in omega arith);
  empty = λ letter q there. by letter q (subst (λ lists. IsListed lists letter q) grown there);
}
  where
    by : (letter q : ℕ) → IsListed (old ++ list ∷ []) letter q → ⊥
    by letter q (other, at, member) = elim (cases_lt letter (length old)) [
      | inl less ↦ before.empty letter q (
        other,
        slice_get-get_or old letter other less ∙ ap Some (sym (get_or_append_left old (list ∷ []) other letter less) ∙ get_or_from_slice_get (old ++ list ∷ []) letter other other at),
        member,
      )
      | inr from ↦
          let last : length old ≡ letter = (let within = slice_get_within (old ++ list ∷ []) letter other at in let e = length_push old list in omega arith) in
          let same : list ≡ other = sym (get_or_push old list other letter last) ∙ get_or_from_slice_get (old ++ list ∷ []) letter other other at in
          Contains-none q (subst (λ xs. Contains xs q) none (subst (λ (v : Vec ℕ A). Contains v.items q) (sym same) member))
    ]

-- another list is put in the place of one
module _ {A : Type 0} (lists : List (Vec ℕ A)) (letter : ℕ) (list more : Vec ℕ A) (within : letter < length lists) (list_is : list ≡ get_or lists letter list) where
  other_kept : (r q : ℕ) → (r ≡ letter → ⊥) → IsListed lists r q → IsListed (set lists letter more) r q
  other_kept r q ne (other, at, member) = (
    other,
    slice_get-get_or (set lists letter more) r other (let e = length-set lists letter more in let w = slice_get_within lists r other at in omega arith)
        ∙ ap Some (get_or-set_other lists letter r more other ne ∙ get_or_from_slice_get lists r other other at),
    member,
  )

  other_old : (r q : ℕ) → (r ≡ letter → ⊥) → IsListed (set lists letter more) r q → IsListed lists r q
  other_old r q ne (other, at, member) = (
    other,
    slice_get-get_or lists r other (let e = length-set lists letter more in let w = slice_get_within (set lists letter more) r other at in omega arith)
        ∙ ap Some (sym (get_or-set_other lists letter r more other ne) ∙ get_or_from_slice_get (set lists letter more) r other other at),
    member,
  )

  here_new : (q : ℕ) → Contains more.items q → IsListed (set lists letter more) letter q
  here_new q there = (
    more,
    slice_get-get_or (set lists letter more) letter more (let e = length-set lists letter more in omega arith) ∙ ap Some (get_or-set_same lists letter more more within),
    there,
  )

  new_here : (q : ℕ) → IsListed (set lists letter more) letter q → Contains more.items q
  new_here q (other, at, member) =
      let same : more ≡ other = sym (get_or-set_same lists letter more more within) ∙ get_or_from_slice_get (set lists letter more) letter other more at in
      subst (λ (v : Vec ℕ A). Contains v.items q) (sym same) member

  here_old : (q : ℕ) → IsListed lists letter q → Contains list.items q
  here_old q (other, at, member) =
      let same : list ≡ other = list_is ∙ get_or_from_slice_get lists letter other list at in
      subst (λ (v : Vec ℕ A). Contains v.items q) (sym same) member

  old_here : (q : ℕ) → Contains list.items q → IsListed lists letter q
  old_here q there = (list, slice_get-get_or lists letter list within ∙ ap Some (sym list_is), there)

-- the targets of no edge
pub puts_none : {A : Type 0} (lists : List (Vec ℕ A)) → PutsEdges [] lists lists
puts_none lists = record {
  count = refl;
  listed = λ letter q. (λ there. inl there, λ either. elim either [ inl there ↦ there | inr none ↦ absurd (Contains-none (letter, q) none) ]);
}

-- those of one more edge
module _ {A : Type 0} (edges : List (ℕ × ℕ)) (i letter to : ℕ) (inside : i < length edges) (edge_is : get_or edges i (0, 0) ≡ (letter, to)) (old lists : List (Vec ℕ A)) (list more : Vec ℕ A)
    (within : letter < length lists) (list_is : list ≡ get_or lists letter list) (grown : more.items ≡ list.items ++ to ∷ []) (before : PutsEdges (take i edges) old lists) where
  was : (r q : ℕ) → IsListed lists r q → IsListed old r q ⊎ Contains (take (i + 1) edges) (r, q)
  was r q there = elim ((before.listed r q).0 there) [
    | inl first ↦ inl first
    | inr earlier ↦ inr (take_keeps edges i (0, 0) (r, q) inside earlier)
  ]

  stays : (r q : ℕ) → IsListed lists r q → IsListed (set lists letter more) r q
  stays r q there = elim (cases_eq r letter) [
    | inl e ↦
        let earlier = here_old lists letter list more within list_is q (subst (λ x. IsListed lists x q) e there) in
        subst (λ x. IsListed (set lists letter more) x q) (sym e)
        (here_new lists letter list more within list_is q (subst (λ xs. Contains xs q) (sym grown) (Contains-append_left list.items (to ∷ []) q earlier)))
    | inr ne ↦ other_kept lists letter list more within list_is r q ne there
  ]

  last_edge : (r q : ℕ) → letter ≡ r → to ≡ q → Contains (take (i + 1) edges) (r, q)
  last_edge r q e here =
      let same : (letter, to) ≡ (r, q) = (λ k. (e k, here k)) in
      subst (λ (edge : ℕ × ℕ). Contains (take (i + 1) edges) edge) (edge_is ∙ same) (take_last edges i (0, 0) inside)

  comes : (r q : ℕ) → IsListed (set lists letter more) r q → IsListed old r q ⊎ Contains (take (i + 1) edges) (r, q)
  comes r q there = elim (cases_eq r letter) [
    | inl e ↦
        let now = new_here lists letter list more within list_is q (subst (λ x. IsListed (set lists letter more) x q) e there) in
        elim (Contains-push_cases list.items to q (subst (λ xs. Contains xs q) grown now)) [
          | inl earlier ↦ was r q (subst (λ x. IsListed lists x q) (sym e) (old_here lists letter list more within list_is q earlier))
          | inr last ↦ inr (last_edge r q (sym e) last)
        ]
    | inr ne ↦ was r q (other_old lists letter list more within list_is r q ne there)
  ]

  put_now : (r q : ℕ) → get_or edges i (0, 0) ≡ (r, q) → IsListed (set lists letter more) r q
  put_now r q here =
      let same = sym edge_is ∙ here in
      subst (λ x. IsListed (set lists letter more) x q) (ap (λ (edge : ℕ × ℕ). edge.0) same)
      (here_new lists letter list more within list_is q
      (subst (λ xs. Contains xs q) (sym grown) (subst (Contains (list.items ++ to ∷ [])) (ap (λ (edge : ℕ × ℕ). edge.1) same) (Contains-push list.items to))))

  pub puts_more : PutsEdges (take (i + 1) edges) old (set lists letter more)
  puts_more = record {
    count = length-set lists letter more ∙ before.count;
    listed = λ r q. (
      comes r q,
      λ either. elim either [
        | inl first ↦ stays r q ((before.listed r q).1 (inl first))
        | inr there ↦ elim (take_cases edges i (0, 0) (r, q) inside there) [
          | inl earlier ↦ stays r q ((before.listed r q).1 (inr earlier))
          | inr here ↦ put_now r q here
        ]
      ],
    );
  }

-- the letters of a state's edges are those of the automaton
pub letters_within : (a : Automaton) → IsValid a → (p : ℕ) → All (λ edge. edge.0 < a.letters) (edges_of a.states p)
letters_within a valid p = All-edges_of (All (λ edge. edge.0 < a.letters)) a.states (All-nil (λ edge. edge.0 < a.letters)) valid.letters_in_range p

pub letter_within : (a : Automaton) → IsValid a → (set : List ℕ) (letter q : ℕ) → LeadsFrom a set letter q → letter < a.letters
letter_within a valid set letter q (p, there, leads) =
    All-contains (λ (edge : ℕ × ℕ). edge.0 < a.letters) (edges_of a.states p) (letter, q) (letters_within a valid p) (found_edge (edges_of a.states p) letter q leads)

-- the images of no state, and with those of one more
pub images_of_no_state : {A : Type 0} (a : Automaton) (lists : List (Vec ℕ A)) → HasEmptyLists a.letters lists → AreImages a [] lists
images_of_no_state a lists before letter q = (λ there. absurd (before.empty letter q there), λ step. absurd (Contains-none step.0 step.1))

pub images_of_state : {A : Type 0} (a : Automaton) → IsValid a → (set : List ℕ) (lists more : List (Vec ℕ A)) (i : ℕ) → i < length set → AreImages a (take i set) lists
    → PutsEdges (edges_of a.states (get_or set i 0)) lists more → AreImages a (take (i + 1) set) more
images_of_state a valid set lists more i within before puts letter q = (
  λ there. elim ((puts.listed letter q).0 there) [
    | inl earlier ↦ let step = (before letter q).0 earlier in (step.0, take_keeps set i 0 step.0 within step.1, step.2)
    | inr here ↦ (get_or set i 0, take_last set i 0 within, edge_found last (ordered_edges a valid (get_or set i 0)) letter q here)
  ],
  λ step. (puts.listed letter q).1 (elim (take_cases set i 0 step.0 within step.1) [
    | inl earlier ↦ inl ((before letter q).1 (step.0, earlier, step.2))
    | inr same ↦ inr (found_edge last letter q (ap (λ p. target a p letter) same ∙ step.2))
  ]),
)
  where
    last : List (ℕ × ℕ)
    last = edges_of a.states (get_or set i 0)

-- lists that have, for each letter, the states with a property, but those of letters before a place have no state any more
pub record AreListsFrom {A : Type 0} (HasState : ℕ → ℕ → Type 0) (letters at : ℕ) (lists : List (Vec ℕ A)) : Type 0 where
  pub count : length lists ≡ letters
  pub earlier : (letter q : ℕ) → letter < at → IsListed lists letter q → ⊥
  pub later : (letter q : ℕ) → at ≤ letter → IsListed lists letter q ↔ HasState letter q

pub first_lists : {A : Type 0} (HasState : ℕ → ℕ → Type 0) (letters : ℕ) (lists : List (Vec ℕ A)) → length lists ≡ letters
    → ((letter q : ℕ) → IsListed lists letter q ↔ HasState letter q) → AreListsFrom HasState letters 0 lists
first_lists HasState letters lists count are = record { count = count; earlier = λ letter q less. absurd (omega arith); later = λ letter q from. are letter q }

pub no_lists : {A : Type 0} (HasState : ℕ → ℕ → Type 0) (letters at : ℕ) (lists : List (Vec ℕ A)) → letters ≤ at → AreListsFrom HasState letters at lists → HasEmptyLists letters lists
no_lists HasState letters at lists all from = record {
  count = from.count;
  empty = λ letter q there. from.earlier letter q (let within = slice_get_within lists letter there.0 there.1 in let n = from.count in omega arith) there;
}

module _ {A : Type 0} (HasState : ℕ → ℕ → Type 0) (letters at : ℕ) (lists : List (Vec ℕ A)) (list : Vec ℕ A)
    (within : at < length lists) (list_is : list ≡ get_or lists at list) (from : AreListsFrom HasState letters at lists) where
  -- the list at the place has the states with the property
  pub is_list_of : (q : ℕ) → Contains list.items q ↔ HasState at q
  is_list_of q = (
    λ there. (from.later at q (omega arith)).0 (old_here lists at list list within list_is q there),
    λ has. here_old lists at list list within list_is q ((from.later at q (omega arith)).1 has),
  )

  -- and is cleared
  pub lists_from_next : (less : Vec ℕ A) → less.items ≡ [] → AreListsFrom HasState letters (at + 1) (set lists at less)
  lists_from_next less none = record {
    count = length-set lists at less ∙ from.count;
    earlier = λ letter q before there. elim (cases_eq letter at) [
      | inl e ↦ Contains-none q (subst (λ xs. Contains xs q) none (new_here lists at list less within list_is q (subst (λ x. IsListed (set lists at less) x q) e there)))
      | inr ne ↦ from.earlier letter q (omega arith) (other_old lists at list less within list_is letter q ne there)
    ];
    later = λ letter q next.
        let ne : letter ≡ at → ⊥ = (λ e. omega (arith, e, next)) in
        let same = from.later letter q (omega arith) in
        (λ there. same.0 (other_old lists at list less within list_is letter q ne there), λ has. other_kept lists at list less within list_is letter q ne (same.1 has));
  }

-- images are of states
pub image_of_states : (a : Automaton) → IsValid a → (states image : List ℕ) (letter : ℕ) → ((q : ℕ) → Contains image q ↔ LeadsFrom a states letter q) → All (λ p. p < length a.states) image
image_of_states a valid states image letter is = All-from_contains (λ p. p < length a.states) image (λ q there. let step = (is q).0 there in target_within a valid step.0 letter q step.2)

-- the states of a list, sorted, each once
pub same_taken : (states sorted once others : List ℕ) → IsPermutation states sorted → IsFiltered (DiffersFromLast eqb) [] sorted once → others ≡ once → HaveSameStates states others
same_taken states sorted once others moved filtered is q = (
  λ there. Contains-permutation sorted states q (IsPermutation-sym states sorted moved) (Contains-from_dedup eqb sorted q (subst (λ xs. Contains xs q) all there)),
  λ there. subst (λ xs. Contains xs q) (sym all) (Contains-dedup_nat sorted q (Contains-permutation states sorted q moved there)),
)
  where
    all : others ≡ dedup eqb sorted
    all = is ∙ dedup_is eqb sorted once filtered

-- the states that are marked
pub same_marked : (states old marks numbers : List ℕ) → ((q : ℕ) → Has old q → ⊥) → ((q : ℕ) → Contains states q → Has marks q) → ((q : ℕ) → Has marks q → Has old q ⊎ Contains states q)
    → ((q : ℕ) → Contains numbers q ↔ Has marks q) → HaveSameStates states numbers
same_marked states old marks numbers none marked only are q = (
  λ there. elim (only q ((are q).0 there)) [ inl before ↦ absurd (none q before) | inr here ↦ here ],
  λ there. (are q).1 (marked q there),
)

-- the numbers below one more
pub numbers_more : (old new : List ℕ) (i : ℕ) → ((p : ℕ) → Contains old p ↔ (p < i)) → new ≡ old ++ i ∷ [] → (p : ℕ) → Contains new p ↔ (p < i + 1)
numbers_more old new i before grown p = (
  λ there. elim (Contains-push_cases old i p (subst (λ xs. Contains xs p) grown there)) [
    | inl earlier ↦ let l = (before p).0 earlier in omega arith
    | inr last ↦ omega (arith, last)
  ],
  λ less. subst (λ xs. Contains xs p) (sym grown) (elim (cases_lt p i) [
    | inl earlier ↦ Contains-append_left old (i ∷ []) p ((before p).1 earlier)
    | inr from ↦ let here : i ≡ p = omega arith in subst (Contains (old ++ i ∷ [])) here (Contains-push old i)
  ]),
)
