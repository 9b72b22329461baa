-- Edges by their targets, after those of some places were turned round.
use Rattle.std.proofs.Common.{◌≡◌, ◌<◌, ◌≤◌, ◌+◌, ◌++◌, ◌∷◌, [], ℕ, List, Option, Contains, All, length, get_or, set, subst, inl, inr, refl, sym, ap, ◌∙◌, arith}
use Rattle.std.proofs.lemmas.Bool.{cases_eq, cases_lt}
use Rattle.std.proofs.lemmas.List.{get_or_append_left, get_or_past, get_or_push, length-set, length_push}
use Rattle.std.proofs.lemmas.List.Elements.{All-contains, Contains-append_left, Contains-push, Contains-push_cases}
use Rattle.word_automata.specs.Path.{edges_of}
use Rattle.word_automata.specs.Nondeterministic.{NondeterministicAutomaton, IsInRange}
use Rattle.word_automata.proofs.ForCallers.{Contains-none, All-from_contains, All-edges_of}
use Rattle.bit_set.specs.SetLists.{Adds}
use Rattle.bit_set.proofs.ForCallers.{adds_same, get_or-set_cases}
use Rattle.atoms.specs.private.Adding.{IsListed, IsPlace, AddsEntries, AreNone}
use Rattle.atoms.specs.private.Places.{label_number, IsEntryOf, AreTurnedBelow}

-- one entry comes to the list at a place
pub adds_entry : (old : List (List (ℕ × ℕ))) (place : ℕ) (entry : ℕ × ℕ) (row : List (ℕ × ℕ)) → place < length old → row ≡ get_or old place [] ++ entry ∷ []
    → AddsEntries (λ p x. (p ≡ place) × (x ≡ entry)) old (set old place row)
adds_entry old place entry row within is = record {
  count = length-set old place row;
  room = λ at y. let e = length-set old place row in ((λ h. omega arith), (λ h. omega arith));
  kept = λ at y h. elim (get_or-set_cases old place row [] at within) [
    | inl here ↦
        subst (λ xs. Contains xs y) (sym (here.1 ∙ is)) (Contains-append_left (get_or old place []) (entry ∷ []) y (subst (λ k. IsListed old k y) here.0 h))
    | inr other ↦ subst (λ xs. Contains xs y) (sym other.0) h
  ];
  added = λ at y told fits. elim (get_or-set_cases old place row [] at within) [
    | inl here ↦ subst (λ xs. Contains xs y) (sym (here.1 ∙ is)) (subst (Contains (get_or old place [] ++ entry ∷ [])) (sym told.1) (Contains-push (get_or old place []) entry))
    | inr other ↦ absurd (other.1 told.0)
  ];
  only = λ at y h. elim (get_or-set_cases old place row [] at within) [
    | inl here ↦ elim (Contains-push_cases (get_or old place []) entry y (subst (λ xs. Contains xs y) (here.1 ∙ is) h)) [
      | inl earlier ↦ inl (subst (λ k. IsListed old k y) (sym here.0) earlier)
      | inr same ↦ inr (here.0, sym same)
    ]
    | inr other ↦ inl (subst (λ xs. Contains xs y) other.0 h)
  ];
}

-- nothing comes to a place past the lists
pub adds_entry_past : (old : List (List (ℕ × ℕ))) (place : ℕ) (entry : ℕ × ℕ) → length old ≤ place → AddsEntries (λ p x. (p ≡ place) × (x ≡ entry)) old old
adds_entry_past old place entry past = record {
  count = refl;
  room = λ at y. ((λ h. h), (λ h. h));
  kept = λ at y h. h;
  added = λ at y told fits. absurd (let s = told.0 in omega arith);
  only = λ at y h. inl h;
}

-- the entry is the one of the edge
abbrev pub IsEntryFor : ℕ → Option ℕ × ℕ → ℕ → ℕ × ℕ → Type 0
IsEntryFor place edge p entry = (p ≡ edge.1) × (entry ≡ (label_number edge.0, place))

-- the entries of edges
pub entries_of : (place : ℕ) (edges : List (Option ℕ × ℕ)) (old new : List (List (ℕ × ℕ)))
    → Adds IsListed IsPlace (λ p x. (edge : Option ℕ × ℕ) × Contains edges edge × IsEntryFor place edge p x) old new → AddsEntries (IsEntryOf edges place) old new
entries_of place edges old new adds =
    adds_same IsListed IsPlace (λ p x. (edge : Option ℕ × ℕ) × Contains edges edge × IsEntryFor place edge p x) (IsEntryOf edges place) old new
    (λ p x is. ((is.0, p), is.1, (refl, is.2)))
    (λ p x some. (some.0.0, subst (λ q. Contains edges (some.0.0, q)) (sym some.2.0) some.1, some.2.1)) adds

-- lists without entries
pub none_none : AreNone 0 []
none_none = record { count = refl; none = λ p entry there. Contains-none entry there }

pub none_more : (amount : ℕ) (lists : List (List (ℕ × ℕ))) → AreNone amount lists → AreNone (amount + 1) (lists ++ [] ∷ [])
none_more amount lists before = record {
  count = length_push lists [] ∙ ap (λ k. k + 1) before.count;
  none = λ p entry there. before.none p entry (subst (λ xs. Contains xs entry) (same lists p) there);
}
  where
    same : (xs : List (List (ℕ × ℕ))) (p : ℕ) → get_or (xs ++ [] ∷ []) p [] ≡ get_or xs p []
    same xs p = elim (cases_lt p (length xs)) [
      | inl there ↦ get_or_append_left xs ([] ∷ []) [] p there
      | inr past ↦ elim (cases_eq (length xs) p) [
        | inl end ↦ get_or_push xs [] [] p end ∙ sym (get_or_past xs p [] past)
        | inr other ↦ get_or_past (xs ++ [] ∷ []) p [] (let e = length_push {X = List (ℕ × ℕ)} xs [] in omega arith) ∙ sym (get_or_past xs p [] past)
      ]
    ]

module _ (n : NondeterministicAutomaton) (used : List ℕ) where
  -- no place yet
  pub turned_none : (into : List (List (ℕ × ℕ))) → AreNone (length n.states) into → AreTurnedBelow n used 0 into
  turned_none into empty = record {
    count = empty.count;
    complete = λ place to label l edge. absurd (omega arith);
    sound = λ to entry there. absurd (empty.none to entry there);
  }

  -- one place more
  pub turned_more : IsInRange n → (place : ℕ) (edges : List (Option ℕ × ℕ)) (old new : List (List (ℕ × ℕ))) → edges ≡ edges_of n.states (get_or used place 0)
      → AreTurnedBelow n used place old → AddsEntries (IsEntryOf edges place) old new → AreTurnedBelow n used (place + 1) new
  turned_more in_range place edges old new is before adds = record {
    count = adds.count ∙ before.count;
    complete = λ at to label l edge. elim (cases_lt at place) [
      | inl earlier ↦ adds.kept to (label_number label, at) (before.complete at to label earlier edge)
      | inr past ↦
          let same : at ≡ place = omega arith in
          let here : Contains edges (label, to) = subst (λ (xs : List (Option ℕ × ℕ)). Contains xs (label, to)) (ap (λ k. edges_of n.states (get_or used k 0)) same ∙ sym is) edge in
          subst (λ k. IsListed new to (label_number label, k)) (sym same)
          (adds.added to (label_number label, place) (label, here, refl) (subst (λ l. to < l) (sym before.count) (target_in_range (get_or used at 0) label to edge)))
    ];
    sound = λ to entry there. elim (adds.only to entry there) [
      | inl earlier ↦ let s = before.sound to entry earlier in ((let l = s.0 in omega arith), s.1)
      | inr added ↦
          let same : entry.1 ≡ place = ap (λ (x : ℕ × ℕ). x.1) added.2 in (
            (omega arith),
            (
              added.0,
              subst (λ (xs : List (Option ℕ × ℕ)). Contains xs (added.0, to)) (is ∙ ap (λ k. edges_of n.states (get_or used k 0)) (sym same)) added.1,
              added.2 ∙ ap (λ k. (label_number added.0, k)) (sym same),
            ),
          )
    ];
  }
    where
      target_in_range : (p : ℕ) (label : Option ℕ) (to : ℕ) → Contains (edges_of n.states p) (label, to) → to < length n.states
      target_in_range p label to edge =
          All-contains (λ (e : Option ℕ × ℕ). e.1 < length n.states) (edges_of n.states p) (label, to)
          (All-edges_of (λ es. All (λ (e : Option ℕ × ℕ). e.1 < length n.states) es) n.states
          (All-from_contains (λ (e : Option ℕ × ℕ). e.1 < length n.states) [] (λ e none. absurd (Contains-none e none))) in_range.targets_in_range p) edge
