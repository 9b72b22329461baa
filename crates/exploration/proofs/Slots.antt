-- Numbers of states that are put into slots, and states that are looked for there.
use Rattle.std.proofs.Common.{◌≡◌, ◌+◌, ◌-◌, ◌<◌, ◌≤◌, ℕ, suc, List, Some, [], ◌∷◌, ◌++◌, length, slice_get, slice_index_or, set, sym, ap, subst, ◌∙◌, inl, inr, arith, length-set}
use Rattle.std.proofs.lemmas.Bool.{cases_eq, cases_order}
use Rattle.std.proofs.lemmas.Nat.{and_le_r}
use Rattle.std.proofs.lemmas.List.{get_or-set_same, get_or-set_other}
use Rattle.exploration.proofs.Lists.{slice_get-push_cases}
use Rattle.exploration.specs.private.StateTable.{Slot, code_of, slot_of, slot_after, StandsInSlot, IsFreeSlot, KeepsSlots, IsTable}

abbrev number_in : Slot → ℕ
number_in slot = slot.1

pub slot_below : (slots code step : ℕ) → step < slots → slot_of slots code step < slots
slot_below slots code step within = let l = and_le_r (code + step) (slots - 1) in omega arith

-- steps that pass no free slot, with one more
pub taken_more : (slots : List Slot) (code steps : ℕ) → ((step : ℕ) → step < steps → (slot_after slots code step).1 ≡ 0 → ⊥)
    → ((slot_after slots code steps).1 ≡ 0 → ⊥) → (step : ℕ) → step < steps + 1 → (slot_after slots code step).1 ≡ 0 → ⊥
taken_more slots code steps taken here step l free = elim (cases_eq step steps) [
  | inl same ↦ here (ap (λ i. number_in (slot_after slots code i)) (sym same) ∙ free)
  | inr other ↦ taken step (omega arith) free
]

-- a free slot is taken
module _ (slots : List Slot) (code number slot : ℕ) (some : 0 < number) (f : IsFreeSlot slots code slot) where
  abbrev more : List Slot
  more = set slots slot (code, number)

  abbrev in_slot : List Slot → ℕ → Slot
  in_slot xs i = slice_index_or xs i (0, 0)

  own : in_slot more slot ≡ (code, number)
  own = get_or-set_same slots slot (code, number) (0, 0) (let l = slot_below (length slots) code f.steps f.within in let e = f.is in omega arith)

  other : (i : ℕ) → (i ≡ slot → ⊥) → in_slot more i ≡ in_slot slots i
  other i ne = get_or-set_other slots slot i (code, number) (0, 0) ne

  same_slots : (c step : ℕ) → slot_after more c step ≡ in_slot more (slot_of (length slots) c step)
  same_slots c step = ap (λ n. in_slot more (slot_of n c step)) (length-set slots slot (code, number))

  was_free : number_in (in_slot slots slot) ≡ 0
  was_free = ap (λ i. number_in (in_slot slots i)) f.is ∙ f.free

  still_taken : (c step : ℕ) → ((slot_after slots c step).1 ≡ 0 → ⊥) → (slot_after more c step).1 ≡ 0 → ⊥
  still_taken c step taken free = elim (cases_eq (slot_of (length slots) c step) slot) [
    | inl same ↦
        let e : number ≡ 0 = ap number_in (sym own ∙ ap (in_slot more) (sym same) ∙ sym (same_slots c step)) ∙ free in
        absurd (omega arith)
    | inr ne ↦ taken (ap number_in (sym (other (slot_of (length slots) c step) ne) ∙ sym (same_slots c step)) ∙ free)
  ]

  pub stands_there : StandsInSlot more code number
  stands_there = record {
    steps = f.steps;
    within = (let e = length-set slots slot (code, number) in let l = f.within in omega arith);
    here = same_slots code f.steps ∙ ap (in_slot more) (sym f.is) ∙ own;
    taken = λ step l. still_taken code step (f.taken step l);
  }

  pub keeps_slots : KeepsSlots slots more
  keeps_slots = record {
    stands = λ c n positive s. record {
      steps = s.steps;
      within = (let e = length-set slots slot (code, number) in let l = s.within in omega arith);
      here = same_slots c s.steps ∙ other (slot_of (length slots) c s.steps) (λ e. absurd (let z : n ≡ 0 = ap number_in (sym s.here ∙ ap (in_slot slots) e) ∙ was_free in omega arith)) ∙ s.here;
      taken = λ step l. still_taken c step (s.taken step l);
    };
  }

pub keeps_same : (slots : List Slot) → KeepsSlots slots slots
keeps_same slots = record { stands = λ c n l s. s }

pub keeps_through : (old slots new : List Slot) → KeepsSlots old slots → KeepsSlots slots new → KeepsSlots old new
keeps_through old slots new first next = record { stands = λ c n l s. next.stands c n l (first.stands c n l s) }

-- what stands in the first slots of a table stands in another one
pub record MovesSlots (old new : List Slot) (count : ℕ) : Type 0 where
  pub stands : (i : ℕ) → i < count → 0 < (slice_index_or old i (0, 0)).1
      → StandsInSlot new (slice_index_or old i (0, 0)).0 (slice_index_or old i (0, 0)).1

pub moves_none : (old new : List Slot) → MovesSlots old new 0
moves_none old new = record { stands = λ i l. absurd (omega arith) }

pub moves_more : (old slots new : List Slot) (i : ℕ) → MovesSlots old slots i → KeepsSlots slots new
    → (0 < (slice_index_or old i (0, 0)).1 → StandsInSlot new (slice_index_or old i (0, 0)).0 (slice_index_or old i (0, 0)).1) → MovesSlots old new (i + 1)
moves_more old slots new i moves keeps here = record {
  stands = λ j l some. elim (cases_eq j i) [
    | inl same ↦
        subst (λ k. StandsInSlot new (slice_index_or old k (0, 0)).0 (slice_index_or old k (0, 0)).1) (sym same)
        (here (subst (λ k. 0 < (slice_index_or old k (0, 0)).1) same some))
    | inr ne ↦
        let slot = slice_index_or old j (0, 0) in
        keeps.stands slot.0 slot.1 some (moves.stands j (omega arith) some)
  ];
}

pub moves_all : (old new : List Slot) (count : ℕ) → length old ≤ count → MovesSlots old new count → KeepsSlots old new
moves_all old new count end moves = record {
  stands = λ code number some s.
      let i = slot_of (length old) code s.steps in
      let l = slot_below (length old) code s.steps s.within in
      subst (λ (slot : Slot). StandsInSlot new slot.0 slot.1) s.here
      (moves.stands i (omega arith) (let e = ap number_in s.here in omega arith));
}

-- the state stands at no place that has its number in one of the first slots
pub record IsNotIn {S : Type 0} (states : List S) (slots : List Slot) (s : S) (code steps : ℕ) : Type 0 where
  pub absent : (step r : ℕ) → step < steps → slot_after slots code step ≡ (code, suc r) → slice_get states r ≡ Some s → ⊥

pub not_in_none : {S : Type 0} (states : List S) (slots : List Slot) (s : S) (code : ℕ) → IsNotIn states slots s code 0
not_in_none states slots s code = record { absent = λ step r l. absurd (omega arith) }

pub not_in_more : {S : Type 0} (states : List S) (slots : List Slot) (s : S) (code steps : ℕ) → IsNotIn states slots s code steps
    → ((r : ℕ) → slot_after slots code steps ≡ (code, suc r) → slice_get states r ≡ Some s → ⊥) → IsNotIn states slots s code (steps + 1)
not_in_more states slots s code steps before here = record {
  absent = λ step r l stands at. elim (cases_eq step steps) [
    | inl same ↦ here r (ap (slot_after slots code) (sym same) ∙ stands) at
    | inr ne ↦ before.absent step r (omega arith) stands at
  ];
}

module _ {S : Type 0} (hash : S → ℕ) (states : List S) (slots : List Slot) (table : IsTable hash states slots) where
  pub table_kept : (new : List Slot) → KeepsSlots slots new → IsTable hash states new
  table_kept new keeps = record { stands = λ r s at. keeps.stands (code_of (hash s)) (suc r) (omega arith) (table.stands r s at) }

  pub table_push : (s : S) (longer : List S) (new : List Slot) → longer ≡ states ++ s ∷ [] → KeepsSlots slots new
      → StandsInSlot new (code_of (hash s)) (length states + 1) → IsTable hash longer new
  table_push s longer new pushed keeps stands = subst (λ l. IsTable hash l new) (sym pushed) (record {
    stands = λ r x at. elim (slice_get-push_cases states s x r at) [
      | inl there ↦ keeps.stands (code_of (hash x)) (suc r) (omega arith) (table.stands r x there)
      | inr last ↦ subst (λ y. StandsInSlot new (code_of (hash y)) (suc r)) last.1
          (subst (λ n. StandsInSlot new (code_of (hash s)) n) (let e = last.0 in omega arith) stands)
    ];
  })

  module _ (s : S) (code : ℕ) (is : code ≡ code_of (hash s)) where
    own_stands : (r : ℕ) → slice_get states r ≡ Some s → StandsInSlot slots code (suc r)
    own_stands r at = subst (λ c. StandsInSlot slots c (suc r)) (sym is) (table.stands r s at)

    pub absent_at_free : (steps : ℕ) → IsNotIn states slots s code steps → (slot_after slots code steps).1 ≡ 0 → (r : ℕ) → slice_get states r ≡ Some s → ⊥
    absent_at_free steps before free r at =
        let own = own_stands r at in
        elim (cases_order own.steps steps) [
          | inl same ↦
              let e : 0 ≡ suc r = sym free ∙ ap (λ i. number_in (slot_after slots code i)) (sym same) ∙ ap number_in own.here in
              omega arith
          | inr (inl less) ↦ before.absent own.steps r less own.here at
          | inr (inr more) ↦ own.taken steps more free
        ]

    pub absent_at_end : (steps : ℕ) → length slots ≤ steps → IsNotIn states slots s code steps → (r : ℕ) → slice_get states r ≡ Some s → ⊥
    absent_at_end steps end before r at =
        let own = own_stands r at in
        let within = own.within in
        before.absent own.steps r (omega arith) own.here at
