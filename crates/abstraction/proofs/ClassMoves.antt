-- The nondeterministic automaton over classes, edge by edge.
use Rattle.std.proofs.Common.{◌≡◌, ◌<◌, ◌≤◌, ◌+◌, ◌↔◌, ℕ, zero, suc, Bool, true, false, eqb, if◌then◌else◌, List, [], ◌∷◌, ◌++◌, Option, Some, Contains, IsTrue, length, map, take, get_or, slice_index, refl, sym, ap, subst, ◌∙◌, inl, inr, arith}
use Rattle.std.proofs.lemmas.Bool.{cases_lt, cases_Bool}
use Rattle.std.proofs.lemmas.Bool.Decides.{nat_tests}
use Rattle.std.proofs.lemmas.List.{get_or_default, take_more, take_all, map-append, length-map}
use Rattle.std.proofs.lemmas.List.Elements.{Contains-get_or, Contains-append_left, Contains-push, Contains-push_cases}
use Rattle.word_automata.specs.Path.{Node, edges_of, is_accepting}
use Rattle.word_automata.specs.Automaton.{Automaton}
use Rattle.word_automata.specs.Nondeterministic.{NondeterministicAutomaton, AddsMove}
use Rattle.word_automata.proofs.ForCallers.{Contains-none, Contains-cases, Contains-here}
use Rattle.abstraction.specs.declared.class_automaton.ClassEdge.{ClassEdge}
use Rattle.abstraction.specs.ClassAutomata.{IsAcceptingClass, AreAcceptingFlags, HasClassMoves, AddsMoveOnce}

-- a state without edges
abbrev pub bare : Bool → Node (Option ℕ)
bare accepting = record { accepting = accepting; edges = [] }

-- classes without edges
abbrev pub bare_classes : ℕ → List ℕ → List Bool → NondeterministicAutomaton
bare_classes letters starts accepting = record { letters = letters; starts = starts; states = map bare accepting }

edges_of-bare : (accepting : List Bool) (q : ℕ) → edges_of (map bare accepting) q ≡ []
edges_of-bare [] q = refl
edges_of-bare (b ∷ accepting) zero = refl
edges_of-bare (b ∷ accepting) (suc q) = edges_of-bare accepting q

is_accepting-bare : (accepting : List Bool) (q : ℕ) → is_accepting (map bare accepting) q ≡ get_or accepting q false
is_accepting-bare [] q = refl
is_accepting-bare (b ∷ accepting) zero = refl
is_accepting-bare (b ∷ accepting) (suc q) = is_accepting-bare accepting q

-- one more bare state
pub bare_more : (accepting : List Bool) (i : ℕ) (b : Bool) → i < length accepting → b ≡ get_or accepting i false → map bare (take i accepting) ++ bare b ∷ [] ≡ map bare (take (i + 1) accepting)
bare_more accepting i b within read =
    sym (ap (map bare) (take_more accepting i false within) ∙ map-append bare (take i accepting) (get_or accepting i false ∷ [])
    ∙ ap (λ (x : Bool). map bare (take i accepting) ++ bare x ∷ []) (sym read))

-- all classes were added, and the class of state 0 is the start, if there is one
pub moves_begin : (a : Automaton) (firsts : List ℕ) (accepting : List Bool) (i : ℕ) (n : NondeterministicAutomaton) (starts : List ℕ) → length accepting ≤ i
    → n ≡ bare_classes a.letters starts (take i accepting) → AreAcceptingFlags a firsts accepting
    → ((q : ℕ) → Contains starts q ↔ ((0 < length a.states) × (slice_index firsts 0 ≡ q))) → HasClassMoves a firsts [] n 0 0
moves_begin a firsts accepting i n starts all is flags begins =
    subst (λ m. HasClassMoves a firsts [] m 0 0) (sym (is ∙ ap (bare_classes a.letters starts) (take_all i accepting all))) (record {
      class_states = record {
        same_letters = refl;
        same_size = length-map accepting bare ∙ flags.count;
        starts = begins;
        acceptance = λ k. let same = is_accepting-bare accepting k in (λ h. (flags.accepting k).0 (sym same ∙ h), λ h. same ∙ (flags.accepting k).1 h);
      };
      added = λ p l r below. absurd (omega arith);
      added_here = λ k below. absurd (omega arith);
      only = λ k label t there. absurd (Contains-none (label, t) (subst (λ es. Contains es (label, t)) (edges_of-bare accepting k) there));
      seen_added = λ step there. absurd (Contains-none step there);
    })

pub start_some : (size first : ℕ) → 0 < size → (q : ℕ) → Contains (first ∷ []) q ↔ ((0 < size) × (first ≡ q))
start_some size first some q = (
  λ there. elim (Contains-cases first [] q there) [ inl here ↦ (some, here) | inr none ↦ absurd (Contains-none q none) ],
  λ here. subst (Contains (first ∷ [])) here.1 (Contains-here [] first),
)

pub start_none : (size first : ℕ) → size ≡ 0 → (q : ℕ) → Contains [] q ↔ ((0 < size) × (first ≡ q))
start_none size first none q = (λ there. absurd (Contains-none q there), λ here. absurd (let some = here.0 in omega arith))

-- one more edge
pub moves_more : (a : Automaton) (firsts : List ℕ) (seen more : List ClassEdge) (n m : NondeterministicAutomaton) (i j : ℕ)
    (edge : ℕ × ℕ) (step : ClassEdge)
    → j < length (edges_of a.states i) → edge ≡ get_or (edges_of a.states i) j (0, 0) → step ≡ record { from = slice_index firsts i; letter = edge.0; to = slice_index firsts edge.1 }
    → AddsMoveOnce seen more n m step → HasClassMoves a firsts seen n i j → HasClassMoves a firsts more m i (j + 1)
moves_more a firsts seen more n m i j edge step within read is adds before = record {
  class_states = record {
    same_letters = adds.same_letters ∙ before.class_states.same_letters;
    same_size = adds.same_size ∙ before.class_states.same_size;
    starts = λ q. subst (λ starts. Contains starts q ↔ ((0 < length a.states) × (slice_index firsts 0 ≡ q))) (sym adds.same_starts) (before.class_states.starts q);
    acceptance = λ k. subst (λ b. IsTrue b ↔ IsAcceptingClass a firsts k) (sym (adds.same_acceptance k)) (before.class_states.acceptance k);
  };
  added = λ p l r below there. adds.kept (slice_index firsts p) (Some l, slice_index firsts r) (before.added p l r below there);
  added_here = λ k below. elim (cases_lt k j) [
    | inl earlier ↦ adds.kept (slice_index firsts i) (Some (get_or (edges_of a.states i) k (0, 0)).0, slice_index firsts (get_or (edges_of a.states i) k (0, 0)).1) (before.added_here k earlier)
    | inr from ↦
        let here : edge ≡ get_or (edges_of a.states i) k (0, 0) = read ∙ ap (λ x. get_or (edges_of a.states i) x (0, 0)) {x = j} {y = k} (omega arith) in
        subst (λ (e : ℕ × ℕ). Contains (edges_of m.states (slice_index firsts i)) (Some e.0, slice_index firsts e.1)) here
        (subst (λ (s : ClassEdge). Contains (edges_of m.states s.from) (Some s.letter, s.to)) is there)
  ];
  only = λ k label t contained. elim (adds.only k (label, t) contained) [
    | inl old ↦ before.only k label t old
    | inr new ↦ (
      i,
      edge.0,
      edge.1,
      subst (Contains (edges_of a.states i)) (sym read) (Contains-get_or (edges_of a.states i) j (0, 0) within),
      sym (new.0 ∙ ap (λ (s : ClassEdge). s.from) is),
      ap (λ (x : Option ℕ × ℕ). x.0) new.1 ∙ ap (λ (s : ClassEdge). Some s.letter) is,
      sym (ap (λ (x : Option ℕ × ℕ). x.1) new.1 ∙ ap (λ (s : ClassEdge). s.to) is),
    )
  ];
  seen_added = λ other contained. elim (adds.seen other contained) [
    | inl old ↦ adds.kept other.from (Some other.letter, other.to) (before.seen_added other old)
    | inr new ↦ subst (λ (s : ClassEdge). Contains (edges_of m.states s.from) (Some s.letter, s.to)) (sym new) there
  ];
}
  where
    there : Contains (edges_of m.states step.from) (Some step.letter, step.to)
    there = elim adds.added [
      | inl old ↦ adds.kept step.from (Some step.letter, step.to) (before.seen_added step old)
      | inr new ↦ new
    ]

-- all edges of a state
pub moves_next : (a : Automaton) (firsts : List ℕ) (seen : List ClassEdge) (n : NondeterministicAutomaton) (i j : ℕ)
    → length (edges_of a.states i) ≤ j
    → HasClassMoves a firsts seen n i j → HasClassMoves a firsts seen n (i + 1) 0
moves_next a firsts seen n i j all before = record {
  class_states = before.class_states;
  added = λ p l r below there. elim (cases_lt p i) [
    | inl earlier ↦ before.added p l r earlier there
    | inr from ↦
        let here : i ≡ p = omega arith in
        let row = subst (λ q. Contains (edges_of a.states q) (l, r)) (sym here) there in
        let read = get_or_default (edges_of a.states i) row.0 (0, 0) (l, r) row.1 ∙ row.2 in
        subst (λ q. Contains (edges_of n.states (slice_index firsts q)) (Some l, slice_index firsts r)) here
        (subst (λ (e : ℕ × ℕ). Contains (edges_of n.states (slice_index firsts i)) (Some e.0, slice_index firsts e.1)) read (before.added_here row.0 (let x = row.1 in omega arith)))
  ];
  added_here = λ k below. absurd (omega arith);
  only = before.only;
  seen_added = before.seen_added;
}

module _ (old new : List ClassEdge) (step : ClassEdge) where
  -- an edge that was seen
  pub once_seen : new ≡ old → Contains old step → (n : NondeterministicAutomaton) → AddsMoveOnce old new n n step
  once_seen same there n = record {
    same_letters = refl;
    same_starts = refl;
    same_size = refl;
    same_acceptance = λ q. refl;
    kept = λ q edge there. there;
    only = λ q edge there. inl there;
    seen = λ other among. inl (subst (λ ms. Contains ms other) same among);
    added = inl there;
  }

  -- a new edge
  pub once_added : new ≡ old ++ step ∷ [] → (before after : NondeterministicAutomaton) → AddsMove before after step.from (Some step.letter) step.to → AddsMoveOnce old new before after step
  once_added pushed before after adds = record {
    same_letters = adds.same_letters;
    same_starts = adds.same_starts;
    same_size = adds.same_size;
    same_acceptance = adds.same_acceptance;
    kept = λ q edge there. elim (cases_Bool (eqb q step.from)) [
      | inl here ↦ subst (λ es. Contains es edge) (sym (row q true here)) (Contains-append_left (edges_of before.states q) ((Some step.letter, step.to) ∷ []) edge there)
      | inr other ↦ subst (λ es. Contains es edge) (sym (row q false other)) there
    ];
    only = λ q edge there. elim (cases_Bool (eqb q step.from)) [
      | inl here ↦ elim (Contains-push_cases (edges_of before.states q) (Some step.letter, step.to) edge (subst (λ es. Contains es edge) (row q true here) there)) [
        | inl earlier ↦ inl earlier
        | inr last ↦ inr (grind (arith, nat_tests), sym last)
      ]
      | inr other ↦ inl (subst (λ es. Contains es edge) (row q false other) there)
    ];
    seen = λ other among. elim (Contains-push_cases old step other (subst (λ ms. Contains ms other) pushed among)) [
      | inl earlier ↦ inl earlier
      | inr last ↦ inr (sym last)
    ];
    added = inr (elim (cases_Bool (eqb step.from step.from)) [
      | inl here ↦ subst (λ es. Contains es (Some step.letter, step.to)) (sym (row step.from true here)) (Contains-push (edges_of before.states step.from) (Some step.letter, step.to))
      | inr other ↦ absurd (grind (arith, nat_tests))
    ]);
  }
    where
      row : (q : ℕ) (b : Bool) → eqb q step.from ≡ b → edges_of after.states q ≡ (if b then edges_of before.states q ++ (Some step.letter, step.to) ∷ [] else edges_of before.states q)
      row q b e = adds.edges q ∙ ap (λ (b : Bool). if b then edges_of before.states q ++ (Some step.letter, step.to) ∷ [] else edges_of before.states q) e
