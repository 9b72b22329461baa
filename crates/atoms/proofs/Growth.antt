-- How a family grows by the preimages of its sets.
use Rattle.std.proofs.Common.{◌≡◌, ◌<◌, ◌≤◌, ◌+◌, ◌*◌, ◌/◌, ◌⊎◌, ◌↔◌, [], ℕ, List, Option, None, Some, Contains, All, IfSome, length, get_or, set, subst, inl, inr, refl, sym, ap, ◌∙◌, arith}
use Rattle.std.proofs.lemmas.Bool.{cases_eq}
use Rattle.std.proofs.lemmas.List.{get_or-set_same, get_or-set_other, length-set}
use Rattle.std.proofs.lemmas.List.Elements.{All-contains}
use Rattle.word_automata.specs.Path.{edges_of}
use Rattle.word_automata.specs.Nondeterministic.{NondeterministicAutomaton, IsInRange}
use Rattle.word_automata.proofs.ForCallers.{Contains-none, All-from_contains, All-edges_of}
use Rattle.bit_set.specs.Bits.{Has}
use Rattle.bit_set.specs.SetLists.{HasAt, AddsNumbers, AreEmpty}
use Rattle.bit_set.proofs.ForCallers.{HasAt-within, same_lengths}
use Rattle.atoms.specs.private.Adding.{IsListed}
use Rattle.atoms.specs.private.Places.{label_number, IsSource, LeadsInto, AcceptsAt}
use Rattle.atoms.specs.private.Family.{IsUnion, AddsUnion, AddsUnions, AddsPreimages, IsClosedUpTo, IsEmptied}
use Rattle.atoms.proofs.Unions.{begins_same, begins_both, union_begins, union_same}

-- the first sets lost their numbers, and the others are as they were
pub record IsEmptiedBelow (old : List (List ℕ)) (bound : ℕ) (new : List (List ℕ)) : Type 0 where
  pub count : length new ≡ length old
  pub none : (a : ℕ) → a < bound → (number : ℕ) → HasAt new a number → ⊥
  pub later : (a : ℕ) → bound ≤ a → get_or new a [] ≡ get_or old a []
  pub room : (a : ℕ) → length (get_or new a []) ≡ length (get_or old a [])

pub emptied_none : (old : List (List ℕ)) → IsEmptiedBelow old 0 old
emptied_none old = record { count = refl; none = λ a l number has. absurd (omega arith); later = λ a l. refl; room = λ a. refl }

pub emptied_more : (old sets : List (List ℕ)) (at : ℕ) (was empty : List ℕ) → at < length sets → was ≡ get_or sets at [] → ((k : ℕ) → Has empty k → ⊥) → length empty ≡ length was
    → IsEmptiedBelow old at sets → IsEmptiedBelow old (at + 1) (set sets at empty)
emptied_more old sets at was empty within is none room before = record {
  count = length-set sets at empty ∙ before.count;
  none = λ a l number has. elim (cases_eq a at) [
    | inl here ↦ none number (subst (λ s. Has s number) (ap (λ k. get_or (set sets at empty) k []) here ∙ get_or-set_same sets at empty [] within) has)
    | inr other ↦ before.none a (omega arith) number (subst (λ s. Has s number) (get_or-set_other sets at a empty [] other) has)
  ];
  later = λ a l. get_or-set_other sets at a empty [] (λ e. absurd (omega arith)) ∙ before.later a (omega arith);
  room = λ a. elim (cases_eq a at) [
    | inl here ↦
        ap (λ k. length (get_or (set sets at empty) k [])) here ∙ ap length (get_or-set_same sets at empty [] within) ∙ room ∙ ap length is ∙ before.room at
        ∙ ap (λ k. length (get_or old k [])) (sym here)
    | inr other ↦ ap length (get_or-set_other sets at a empty [] other) ∙ before.room a
  ];
}

pub emptied_all : (old new : List (List ℕ)) (bound : ℕ) → bound ≡ length old → IsEmptiedBelow old bound new → IsEmptied old new
emptied_all old new bound end before = record {
  count = before.count;
  none = λ a number has. before.none a (let l = HasAt-within new a number has in let e = before.count in omega arith) number has;
  room = before.room;
}

-- unions of each of the first other sets
pub unions_none : (old others : List (List ℕ)) → AddsUnions old old others 0
unions_none old others = record { begins = begins_same old; unions = λ a l. absurd (omega arith) }

pub unions_more : (old mid new others : List (List ℕ)) (bound : ℕ) → AddsUnions old mid others bound → AddsUnion mid new (HasAt others bound) → AddsUnions old new others (bound + 1)
unions_more old mid new others bound before adds = record {
  begins = begins_both old mid new before.begins adds.begins;
  unions = λ a l. elim (cases_eq a bound) [
    | inl here ↦ subst (λ k. IsUnion new (HasAt others k)) (sym here) adds.union
    | inr other ↦ union_begins mid new adds.begins (HasAt others a) (before.unions a (omega arith))
  ];
}

-- the places of the first accepting states
pub record AreAcceptingBelow (n : NondeterministicAutomaton) (used : List ℕ) (bound : ℕ) (places : List ℕ) : Type 0 where
  pub only : (place : ℕ) → Has places place → AcceptsAt n used place
  pub all : (place : ℕ) → place < bound → AcceptsAt n used place → Has places place
  pub room : length places ≡ length used / 64 + 1

module _ (n : NondeterministicAutomaton) (used : List ℕ) where
  pub accepting_none : (places : List ℕ) → ((k : ℕ) → Has places k → ⊥) → length places ≡ length used / 64 + 1 → AreAcceptingBelow n used 0 places
  accepting_none places none room = record {
    only = λ place has. absurd (none place has);
    all = λ place l accepts. absurd (omega arith);
    room = room;
  }

  pub accepting_skip : (bound : ℕ) (places : List ℕ) → (AcceptsAt n used bound → ⊥) → AreAcceptingBelow n used bound places → AreAcceptingBelow n used (bound + 1) places
  accepting_skip bound places rejects before = record {
    only = before.only;
    all = λ place l accepts. elim (cases_eq place bound) [
      | inl here ↦ absurd (rejects (subst (AcceptsAt n used) here accepts))
      | inr other ↦ before.all place (omega arith) accepts
    ];
    room = before.room;
  }

  pub accepting_more : (bound : ℕ) (old new : List ℕ) → AcceptsAt n used bound → ((k : ℕ) → Has new k → Has old k ⊎ (k ≡ bound)) → ((k : ℕ) → Has old k → Has new k)
      → (bound < 64 * length old → Has new bound) → length new ≡ length old → AreAcceptingBelow n used bound old → AreAcceptingBelow n used (bound + 1) new
  accepting_more bound old new accepts only kept added room before = record {
    only = λ place has. elim (only place has) [
      | inl earlier ↦ before.only place earlier
      | inr here ↦ subst (AcceptsAt n used) (sym here) accepts
    ];
    all = λ place l is. elim (cases_eq place bound) [
      | inl here ↦ subst (Has new) (sym here) (added (let within = accepts.0 in let e = before.room in omega arith))
      | inr other ↦ kept place (before.all place (omega arith) is)
    ];
    room = room ∙ before.room;
  }

  pub accepting_all : (bound : ℕ) (places : List ℕ) → bound ≡ length used → AreAcceptingBelow n used bound places → (place : ℕ) → Has places place ↔ AcceptsAt n used place
  accepting_all bound places end before place = ((λ has. before.only place has), (λ accepts. before.all place (let l = accepts.0 in omega arith) accepts))

-- one set more of which the preimages are unions
module _ (n : NondeterministicAutomaton) (into : List (List (ℕ × ℕ))) (used : List ℕ) (letters : ℕ) where
  pub closed_none : (sets : List (List ℕ)) (places : List ℕ) → ((place : ℕ) → Has places place ↔ AcceptsAt n used place) → IsUnion sets (Has places) → IsClosedUpTo n into used letters sets 0
  closed_none sets places same union = record {
    accepting = union_same sets (Has places) (AcceptsAt n used) (λ q accepts. (same q).1 accepts) (λ q has. (same q).0 has) union;
    preimages = λ k a l below. absurd (omega arith);
  }

  pub closed_more : (old new : List (List ℕ)) (next : ℕ) → next < length old → AddsPreimages into used (get_or old next []) letters old new → IsClosedUpTo n into used letters old next
      → IsClosedUpTo n into used letters new (next + 1)
  closed_more old new next within adds before = record {
    accepting = union_begins old new adds.begins (AcceptsAt n used) before.accepting;
    preimages = λ k a l below.
        subst (λ s. IsUnion new (LeadsInto into used s a)) (sym (adds.begins.same k (omega arith))) (by k a l below);
  }
    where
      by : (k a : ℕ) → k < next + 1 → a < letters → IsUnion new (LeadsInto into used (get_or old k []) a)
      by k a l below = elim (cases_eq k next) [
        | inl here ↦ subst (λ j. IsUnion new (LeadsInto into used (get_or old j []) a)) (sym here) (adds.unions a below)
        | inr other ↦ union_begins old new adds.begins (LeadsInto into used (get_or old k []) a) (before.preimages k a (omega arith) below)
      ]

-- all were gone through
pub closed_all : (n : NondeterministicAutomaton) (into : List (List (ℕ × ℕ))) (used : List ℕ) (letters : ℕ) (sets : List (List ℕ)) (next : ℕ) → length sets ≤ next
    → IsClosedUpTo n into used letters sets next → IsClosedUpTo n into used letters sets (length sets)
closed_all n into used letters sets next past before = record {
  accepting = before.accepting;
  preimages = λ k a l below. before.preimages k a (omega arith) below;
}

-- preimages that were put into empty sets and taken from there
module _ (into : List (List (ℕ × ℕ))) (used set places : List ℕ) (same : (k : ℕ) → Contains places k ↔ Has set k)
    (sources : (p a j : ℕ) → IsListed into p (a, j) → j < length used)
    (letters : ℕ) (old mid new : List (List ℕ)) (empty : AreEmpty letters (length used) old)
    (adds : AddsNumbers (λ a j. (place : ℕ) × Contains places place × IsSource into used place a j) old mid) (emptied : IsEmptied mid new) where
  pub empty_again : AreEmpty letters (length used) new
  empty_again = record {
    count = emptied.count ∙ adds.count ∙ empty.count;
    none = emptied.none;
    room = λ k l. emptied.room k ∙ same_lengths (λ a j. (place : ℕ) × Contains places place × IsSource into used place a j) old mid adds k ∙ empty.room k l;
  }

  pub preimages_added : (sets more : List (List ℕ)) → AddsUnions sets more mid (length mid) → AddsPreimages into used set letters sets more
  preimages_added sets more unions = record {
    begins = unions.begins;
    unions = λ a l.
        union_same more (HasAt mid a) (LeadsInto into used set a) (λ q leads. there a q l leads) (λ q has. back a q has) (unions.unions a (let e = adds.count in let f = empty.count in omega arith));
  }
    where
      there : (a q : ℕ) → a < letters → LeadsInto into used set a q → HasAt mid a q
      there a q l leads =
          let bound = sources (get_or used leads.0 0) a q leads.2.1 in
          let room = empty.room a l in
          adds.added a q (leads.0, (same leads.0).1 leads.1, leads.2) (omega arith)

      back : (a q : ℕ) → HasAt mid a q → LeadsInto into used set a q
      back a q has = elim (adds.only a q has) [
        | inl earlier ↦ absurd (empty.none a q earlier)
        | inr some ↦ (some.0, (same some.0).0 some.1, some.2)
      ]

-- the number of an edge's letter is one of an automaton's
pub letter_in_range : (n : NondeterministicAutomaton) → IsInRange n → (q p : ℕ) (label : Option ℕ) → Contains (edges_of n.states q) (label, p) → label_number label < n.letters + 1
letter_in_range n in_range q p label edge = by label (All-contains (λ (e : Option ℕ × ℕ). IfSome e.0 (λ a. a < n.letters)) (edges_of n.states q) (label, p)
    (All-edges_of (λ es. All (λ (e : Option ℕ × ℕ). IfSome e.0 (λ a. a < n.letters)) es) n.states
    (All-from_contains (λ (e : Option ℕ × ℕ). IfSome e.0 (λ a. a < n.letters)) [] (λ e none. absurd (Contains-none e none))) in_range.letters_in_range q) edge)
  where
    by : (l : Option ℕ) → IfSome l (λ a. a < n.letters) → label_number l < n.letters + 1
    by None h = omega arith
    by (Some a) h = omega arith
