-- Rows of numbers by states, and what states have together.
use Rattle.std.proofs.Common.{◌≡◌, ◌<◌, ◌≤◌, ◌+◌, ◌*◌, ◌/◌, ◌⊎◌, ◌↔◌, ◌++◌, ◌∷◌, [], ℕ, List, Contains, All, length, get_or, set, subst, inl, inr, refl, sym, ap, ◌∙◌, arith}
use Rattle.std.proofs.lemmas.Bool.{cases_eq, cases_lt}
use Rattle.std.proofs.lemmas.List.{get_or_default, get_or_past, get_or-set_same, get_or-set_other, length-set}
use Rattle.std.proofs.lemmas.List.Elements.{Contains-append_left, Contains-get_or, Contains-push, Contains-push_cases}
use Rattle.word_automata.specs.Nondeterministic.{NondeterministicAutomaton}
use Rattle.bit_set.specs.Bits.{Has}
use Rattle.bit_set.specs.SetLists.{HasAt, HasRoom, AddsNumbers, AreEmpty}
use Rattle.bit_set.proofs.ForCallers.{adds_none, adds_same, HasAt-within, same_lengths}
use Rattle.atoms.specs.Covers.{AreAtomsOf, IsSignature}
use Rattle.atoms.specs.private.Family.{Covers}
use Rattle.atoms.specs.private.Rows.{AreNarrow, IsNumberAt, AreEmptyRows, AreRowsOf}

-- the rows of the states at the first places have room for so many numbers
abbrev pub HaveRoom : List ℕ → ℕ → ℕ → List (List ℕ) → Type 0
HaveRoom used bound count rows = (place : ℕ) → place < bound → count ≤ 64 * length (get_or rows (get_or used place 0) [])

-- rows keep their lengths where numbers come to them
module _ (Added : ℕ → ℕ → Type 0) (old new : List (List ℕ)) (adds : AddsNumbers Added old new) where
  pub narrow_kept : (count : ℕ) → AreNarrow count old → AreNarrow count new
  narrow_kept count narrow q = subst (λ l. l ≤ count / 64 + 1) (sym (same_lengths Added old new adds q)) (narrow q)

  pub room_kept : (used : List ℕ) (bound count : ℕ) → HaveRoom used bound count old → HaveRoom used bound count new
  room_kept used bound count room place l = subst (λ x. count ≤ 64 * x) (sym (same_lengths Added old new adds (get_or used place 0))) (room place l)

-- the number comes to the row of the state at the place, if there is one
module _ (used : List ℕ) (number place : ℕ) (old : List (List ℕ)) where
  pub no_row : length used ≤ place → AddsNumbers (IsNumberAt used number place) old old
  no_row past = adds_none HasAt HasRoom (IsNumberAt used number place) old (λ q k is. let l = is.0.0 in omega arith)

  pub row_added : (new : List (List ℕ)) → place < length used → AddsNumbers (λ q k. (q ≡ get_or used place 0) × (k ≡ number)) old new → AddsNumbers (IsNumberAt used number place) old new
  row_added new within adds =
      adds_same HasAt HasRoom (λ q k. (q ≡ get_or used place 0) × (k ≡ number)) (IsNumberAt used number place) old new
      (λ q k is. (sym is.0.1, is.1)) (λ q k is. ((within, sym is.0), is.1)) adds

-- no place yet
pub empty_rows_none : (used : List ℕ) (states count : ℕ) (rows : List (List ℕ)) → AreEmpty states 0 rows → AreEmptyRows used 0 states count rows
empty_rows_none used states count rows empty = record {
  size = empty.count;
  none = empty.none;
  room = λ place l. absurd (omega arith);
}

-- one place more
pub empty_rows_more : (used : List ℕ) (place state states count : ℕ) (rows : List (List ℕ)) (empty : List ℕ) → state ≡ get_or used place 0 → state < states → ((k : ℕ) → Has empty k → ⊥)
    → length empty ≡ count / 64 + 1 → AreEmptyRows used place states count rows → AreEmptyRows used (place + 1) states count (set rows state empty)
empty_rows_more used place state states count rows empty is within none room before =
    let there : state < length rows = (let e = before.size in omega arith) in
    record {
      size = length-set rows state empty ∙ before.size;
      none = λ q k has. elim (cases_eq q state) [
        | inl here ↦ none k (subst (λ s. Has s k) (ap (λ j. get_or (set rows state empty) j []) here ∙ get_or-set_same rows state empty [] there) has)
        | inr other ↦ before.none q k (subst (λ s. Has s k) (get_or-set_other rows state q empty [] other) has)
      ];
      room = λ j l. elim (cases_eq (get_or used j 0) state) [
        | inl here ↦
            subst (λ s. count ≤ 64 * length s) (sym (ap (λ i. get_or (set rows state empty) i []) here ∙ get_or-set_same rows state empty [] there)) (omega arith)
        | inr other ↦
            subst (λ s. count ≤ 64 * length s) (sym (get_or-set_other rows state (get_or used j 0) empty [] other)) (before.room j (earlier j l other))
      ];
    }
  where
    earlier : (j : ℕ) → j < place + 1 → (get_or used j 0 ≡ state → ⊥) → j < place
    earlier j l other = elim (cases_eq j place) [
      | inl same ↦ absurd (other (ap (λ i. get_or used i 0) same ∙ sym is))
      | inr ne ↦ omega arith
    ]

pub narrow_more : (count state : ℕ) (rows : List (List ℕ)) (row : List ℕ) → state < length rows → length row ≡ count / 64 + 1 → AreNarrow count rows → AreNarrow count (set rows state row)
narrow_more count state rows row within room narrow q = elim (cases_eq q state) [
  | inl here ↦ let e : length (get_or (set rows state row) q []) ≡ length row =
      ap (λ j. length (get_or (set rows state row) j [])) here ∙ ap length (get_or-set_same rows state row [] within) in omega arith
  | inr other ↦ subst (λ s. length s ≤ count / 64 + 1) (sym (get_or-set_other rows state q row [] other)) (narrow q)
]

pub narrow_empty : (count states : ℕ) (rows : List (List ℕ)) → AreEmpty states 0 rows → AreNarrow count rows
narrow_empty count states rows empty q = elim (cases_lt q states) [
  | inl there ↦ let e : length (get_or rows q []) ≡ 1 = empty.room q there in omega arith
  | inr past ↦ let e : length (get_or rows q []) ≡ 0 = ap length (get_or_past rows q [] (let c = empty.count in omega arith)) in omega arith
]

module _ (used : List ℕ) (sets : List (List ℕ)) (states : ℕ) where
  -- no set yet
  pub rows_none : (bound count : ℕ) (rows : List (List ℕ)) → AreEmptyRows used bound states count rows → AreRowsOf used sets states 0 rows
  rows_none bound count rows empty = record {
    size = empty.size;
    complete = λ place k l within has. absurd (omega arith);
    sound = λ q k has. absurd (empty.none q k has);
  }

  -- one set more
  pub rows_more : (number : ℕ) (places : List ℕ) (old new : List (List ℕ)) → number < length sets → ((k : ℕ) → Contains places k ↔ HasAt sets number k)
      → HaveRoom used (length used) (length sets) old → AddsNumbers (λ q k. (place : ℕ) × Contains places place × IsNumberAt used number place q k) old new
      → AreRowsOf used sets states number old → AreRowsOf used sets states (number + 1) new
  rows_more number places old new within same room adds before = record {
    size = adds.count ∙ before.size;
    complete = λ place k l is_place has. elim (cases_eq k number) [
      | inl here ↦
          subst (HasAt new (get_or used place 0)) (sym here)
          (adds.added (get_or used place 0) number (place, (same place).1 (subst (λ j. HasAt sets j place) here has), ((is_place, refl), refl))
          (let r = room place is_place in omega arith))
      | inr other ↦ adds.kept (get_or used place 0) k (before.complete place k (omega arith) is_place has)
    ];
    sound = λ q k has. elim (adds.only q k has) [
      | inl earlier ↦ before.sound q k earlier
      | inr some ↦ (some.0, some.2.0, subst (λ j. HasAt sets j some.0) (sym some.2.1) ((same some.0).0 some.1))
    ];
  }

-- rows of a family that covers what states accept
pub rows_atoms : (n : NondeterministicAutomaton) (used : List ℕ) (sets rows : List (List ℕ)) → Covers n used sets → AreRowsOf used sets (length n.states) (length sets) rows → AreAtomsOf n rows
rows_atoms n used sets rows covers are = record {
  count = are.size;
  cover = λ labels q along.
      let atom = covers labels q along in
      let held = atom.1 in (
        atom.0,
        subst (λ x. HasAt rows x atom.0) held.1.1 (are.complete held.0 atom.0 (HasAt-within sets atom.0 held.0 held.2) held.1.0 held.2),
        λ r has. atom.2 r (are.sound r atom.0 has),
      );
}

-- the numbers that the first states have together
pub record IsSignatureOfFirst (rows : List (List ℕ)) (states : List ℕ) (bound : ℕ) (signature : List ℕ) : Type 0 where
  pub only : (k : ℕ) → Has signature k → (m : ℕ) × (m < bound) × HasAt rows (get_or states m 0) k
  pub all : (m k : ℕ) → m < bound → HasAt rows (get_or states m 0) k → Has signature k

module _ (rows : List (List ℕ)) (states : List ℕ) where
  pub signature_none : (signature : List ℕ) → ((k : ℕ) → Has signature k → ⊥) → IsSignatureOfFirst rows states 0 signature
  signature_none signature none = record { only = λ k has. absurd (none k has); all = λ m k l has. absurd (omega arith) }

  pub signature_more : (i : ℕ) (row old new : List ℕ) → row ≡ get_or rows (get_or states i 0) [] → ((k : ℕ) → Has new k → Has old k ⊎ Has row k) → ((k : ℕ) → Has old k → Has new k)
      → ((k : ℕ) → Has row k → Has new k) → IsSignatureOfFirst rows states i old → IsSignatureOfFirst rows states (i + 1) new
  signature_more i row old new is only kept added before = record {
    only = λ k has. elim (only k has) [
      | inl earlier ↦ let b = before.only k earlier in (b.0, (let l = b.1 in omega arith), b.2)
      | inr here ↦ (i, (omega arith), subst (λ s. Has s k) is here)
    ];
    all = λ m k l has. elim (cases_eq m i) [
      | inl here ↦ added k (subst (λ s. Has s k) (sym is) (subst (λ j. HasAt rows (get_or states j 0) k) here has))
      | inr other ↦ kept k (before.all m k (omega arith) has)
    ];
  }

  pub signature_all : (i : ℕ) (signature : List ℕ) → i ≡ length states → All (λ q. q < length rows) states → IsSignatureOfFirst rows states i signature → IsSignature rows states signature
  signature_all i signature end in_range before = record {
    in_range = in_range;
    only = λ k has. let b = before.only k has in (get_or states b.0 0, Contains-get_or states b.0 0 (let l = b.1 in omega arith), b.2);
    all = λ q k there has.
        before.all there.0 k (let l = there.1 in omega arith) (subst (λ j. HasAt rows j k) (sym (get_or_default states there.0 0 q there.1 ∙ there.2)) has);
  }

-- the first states with a property, one by one
module _ (W : ℕ → Type 0) (state : ℕ) (found : List ℕ) (before : (q : ℕ) → Contains found q ↔ ((q < state) × W q)) where
  pub found_skip : (W state → ⊥) → (q : ℕ) → Contains found q ↔ ((q < state + 1) × W q)
  found_skip lacks q = (
    (λ there. let is = (before q).0 there in ((let l = is.0 in omega arith), is.1)),
    (λ is. elim (cases_eq q state) [
      | inl here ↦ absurd (lacks (subst W here is.1))
      | inr other ↦ (before q).1 ((let l = is.0 in omega arith), is.1)
    ]),
  )

  pub found_more : W state → (q : ℕ) → Contains (found ++ state ∷ []) q ↔ ((q < state + 1) × W q)
  found_more has q = (
    (λ there. elim (Contains-push_cases found state q there) [
      | inl earlier ↦ let is = (before q).0 earlier in ((let l = is.0 in omega arith), is.1)
      | inr here ↦ ((omega arith), subst W here has)
    ]),
    (λ is. elim (cases_eq q state) [
      | inl here ↦ subst (Contains (found ++ state ∷ [])) (sym here) (Contains-push found state)
      | inr other ↦ Contains-append_left found (state ∷ []) q ((before q).1 ((let l = is.0 in omega arith), is.1))
    ]),
  )
