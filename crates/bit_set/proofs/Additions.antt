-- What comes to the elements of a list one by one.
use Rattle.std.proofs.Common.{◌≡◌, ◌↔◌, ◌<◌, ◌≤◌, ◌+◌, ◌*◌, ◌⊎◌, [], ℕ, List, Contains, length, get_or, set, subst, inl, inr, refl, sym, ap, ◌∙◌, arith}
use Rattle.std.proofs.lemmas.Bool.{cases_eq, cases_lt}
use Rattle.std.proofs.lemmas.List.{get_or-set_same, get_or-set_other, get_or_default, get_or_past, length-set}
use Rattle.std.proofs.lemmas.List.Elements.{Contains-get_or}
use Rattle.bit_set.specs.Bits.{Has}
use Rattle.bit_set.specs.SetLists.{HasAt, HasRoom, IsInTable, Adds, AddsNumbers}

module _ {X Y : Type 0} (In Room : List X → ℕ → Y → Type 0) where
  -- nothing was added yet
  pub adds_none : (Added : ℕ → Y → Type 0) (old : List X) → ((at : ℕ) (y : Y) → Added at y → ⊥) → Adds In Room Added old old
  adds_none Added old none = record {
    count = refl;
    room = λ at y. ((λ h. h), (λ h. h));
    kept = λ at y h. h;
    added = λ at y a r. absurd (none at y a);
    only = λ at y h. inl h;
  }

  -- what is told by either of two properties comes in two steps
  pub adds_both : (P Q S : ℕ → Y → Type 0) (old mid new : List X) → Adds In Room P old mid → Adds In Room Q mid new
      → ((at : ℕ) (y : Y) → S at y → P at y ⊎ Q at y) → ((at : ℕ) (y : Y) → P at y → S at y) → ((at : ℕ) (y : Y) → Q at y → S at y) → Adds In Room S old new
  adds_both P Q S old mid new first second split left right = record {
    count = second.count ∙ first.count;
    room = λ at y. ((λ h. (first.room at y).0 ((second.room at y).0 h)), (λ h. (second.room at y).1 ((first.room at y).1 h)));
    kept = λ at y h. second.kept at y (first.kept at y h);
    added = λ at y s r. elim (split at y s) [
      | inl p ↦ second.kept at y (first.added at y p r)
      | inr q ↦ second.added at y q ((first.room at y).1 r)
    ];
    only = λ at y h. elim (second.only at y h) [
      | inl m ↦ elim (first.only at y m) [ inl o ↦ inl o | inr p ↦ inr (left at y p) ]
      | inr q ↦ inr (right at y q)
    ];
  }

  -- the same told otherwise
  pub adds_same : (P S : ℕ → Y → Type 0) (old new : List X) → ((at : ℕ) (y : Y) → S at y → P at y) → ((at : ℕ) (y : Y) → P at y → S at y) → Adds In Room P old new → Adds In Room S old new
  adds_same P S old new to from adds = record {
    count = adds.count;
    room = adds.room;
    kept = adds.kept;
    added = λ at y s r. adds.added at y (to at y s) r;
    only = λ at y h. elim (adds.only at y h) [ inl o ↦ inl o | inr p ↦ inr (from at y p) ];
  }

  -- what the first steps of a loop add
  abbrev pub AddsFirst : (ℕ → ℕ → Y → Type 0) → ℕ → List X → List X → Type 0
  AddsFirst R i old new = Adds In Room (λ at y. (m : ℕ) × (m < i) × R m at y) old new

  pub adds_first : (R : ℕ → ℕ → Y → Type 0) (old : List X) → AddsFirst R 0 old old
  adds_first R old = adds_none (λ at y. (m : ℕ) × (m < 0) × R m at y) old (λ at y some. absurd (let l = some.1 in omega arith))

  pub adds_more : (R : ℕ → ℕ → Y → Type 0) (i : ℕ) (old mid new : List X) → AddsFirst R i old mid → Adds In Room (R i) mid new → AddsFirst R (i + 1) old new
  adds_more R i old mid new first second =
      adds_both (λ at y. (m : ℕ) × (m < i) × R m at y) (R i) (λ at y. (m : ℕ) × (m < i + 1) × R m at y) old mid new first second
      (λ at y s. elim (cases_lt s.0 i) [
        | inl below ↦ inl (s.0, below, s.2)
        | inr past ↦ inr (let e : s.0 ≡ i = (let l = s.1 in omega arith) in subst (λ m. R m at y) e s.2)
      ])
      (λ at y p. (p.0, (let l = p.1 in omega arith), p.2))
      (λ at y q. (i, omega arith, q))

  -- what a loop over a list adds for its elements
  pub adds_all : {Z : Type 0} (R : Z → ℕ → Y → Type 0) (zs : List Z) (d : Z) (i : ℕ) (old new : List X) → i ≡ length zs → AddsFirst (λ m. R (get_or zs m d)) i old new
      → Adds In Room (λ at y. (z : Z) × Contains zs z × R z at y) old new
  adds_all {Z = Z} R zs d i old new end adds =
      adds_same (λ at y. (m : ℕ) × (m < i) × R (get_or zs m d) at y) (λ at y. (z : Z) × Contains zs z × R z at y) old new
      (λ at y s. let there = s.1 in
      (there.0, (let l = there.1 in omega arith), subst (λ z. R z at y) (sym (get_or_default zs there.0 d s.0 there.1 ∙ there.2)) s.2))
      (λ at y p. (get_or zs p.0 d, Contains-get_or zs p.0 d (let l = p.1 in omega arith), p.2))
      adds

-- an element after one was changed
pub get_or-set_cases : {X : Type 0} (old : List X) (place : ℕ) (x d : X) (at : ℕ) → place < length old
    → ((at ≡ place) × (get_or (set old place x) at d ≡ x)) ⊎ ((get_or (set old place x) at d ≡ get_or old at d) × (at ≡ place → ⊥))
get_or-set_cases old place x d at within = elim (cases_eq at place) [
  | inl same ↦ inl (same, ap (λ k. get_or (set old place x) k d) same ∙ get_or-set_same old place x d within)
  | inr other ↦ inr (get_or-set_other old place at x d other, other)
]

-- one number comes to the set at a place
pub adds_one : (Room : List (List ℕ) → ℕ → ℕ → Type 0) (old : List (List ℕ)) (place number : ℕ) (row : List ℕ) → place < length old
    → ((k : ℕ) → Has row k → Has (get_or old place []) k ⊎ (k ≡ number)) → ((k : ℕ) → Has (get_or old place []) k → Has row k)
    → (Room old place number → Has row number) → ((at y : ℕ) → Room (set old place row) at y ↔ Room old at y)
    → Adds HasAt Room (λ k x. (k ≡ place) × (x ≡ number)) old (set old place row)
adds_one Room old place number row within only kept added room = record {
  count = length-set old place row;
  room = room;
  kept = λ at y h. elim (get_or-set_cases old place row [] at within) [
    | inl here ↦ subst (λ s. Has s y) (sym here.1) (kept y (subst (λ k. HasAt old k y) here.0 h))
    | inr other ↦ subst (λ s. Has s y) (sym other.0) h
  ];
  added = λ at y is fits. elim (get_or-set_cases old place row [] at within) [
    | inl here ↦ subst (λ s. Has s y) (sym here.1) (subst (Has row) (sym is.1) (added (subst (Room old place) is.1 (subst (λ k. Room old k y) is.0 fits))))
    | inr other ↦ absurd (other.1 is.0)
  ];
  only = λ at y h. elim (get_or-set_cases old place row [] at within) [
    | inl here ↦ elim (only y (subst (λ s. Has s y) here.1 h)) [
      | inl earlier ↦ inl (subst (λ k. HasAt old k y) (sym here.0) earlier)
      | inr same ↦ inr (here.0, same)
    ]
    | inr other ↦ inl (subst (λ s. Has s y) other.0 h)
  ];
}

-- where the set has room for it
pub adds_number : (old : List (List ℕ)) (place number : ℕ) (row : List ℕ) → place < length old
    → ((k : ℕ) → Has row k → Has (get_or old place []) k ⊎ (k ≡ number)) → ((k : ℕ) → Has (get_or old place []) k → Has row k)
    → (number < 64 * length (get_or old place []) → Has row number) → length row ≡ length (get_or old place [])
    → AddsNumbers (λ k x. (k ≡ place) × (x ≡ number)) old (set old place row)
adds_number old place number row within only kept added room =
    adds_one HasRoom old place number row within only kept added
    (λ at y. elim (get_or-set_cases old place row [] at within) [
      | inl here ↦
          let e : length (get_or (set old place row) at []) ≡ length (get_or old at []) = ap length here.1 ∙ room ∙ ap (λ k. length (get_or old k [])) (sym here.0) in
          ((λ h. omega arith), (λ h. omega arith))
      | inr other ↦ let e : length (get_or (set old place row) at []) ≡ length (get_or old at []) = ap length other.0 in ((λ h. omega arith), (λ h. omega arith))
    ])

-- where the set has got room for it
pub adds_with_room : (words : ℕ) (old : List (List ℕ)) (place number : ℕ) (was wide row : List ℕ) → place < length old → was ≡ get_or old place was
    → ((k : ℕ) → Has wide k ↔ Has was k) → words ≤ length wide
    → ((k : ℕ) → Has row k → Has wide k ⊎ (k ≡ number)) → ((k : ℕ) → Has wide k → Has row k) → (number < 64 * length wide → Has row number)
    → Adds HasAt (IsInTable words) (λ k x. (k ≡ place) × (x ≡ number)) old (set old place row)
adds_with_room words old place number was wide row within is same fits only kept added =
    let e : was ≡ get_or old place [] = is ∙ get_or_default old place was [] within in
    let count = length-set old place row in
    adds_one (IsInTable words) old place number row within
    (λ k has. elim (only k has) [ inl before ↦ inl (subst (λ s. Has s k) e ((same k).0 before)) | inr new ↦ inr new ])
    (λ k has. kept k ((same k).1 (subst (λ s. Has s k) (sym e) has)))
    (λ room. added (let l = room.1 in omega arith))
    (λ at y. ((λ h. ((let l = h.0 in omega arith), h.1)), (λ h. ((let l = h.0 in omega arith), h.1))))

-- told of the set as it was read
pub adds_number_at : (old : List (List ℕ)) (place number : ℕ) (was row : List ℕ) → place < length old → was ≡ get_or old place was
    → ((k : ℕ) → Has row k → Has was k ⊎ (k ≡ number)) → ((k : ℕ) → Has was k → Has row k)
    → (number < 64 * length was → Has row number) → length row ≡ length was
    → AddsNumbers (λ k x. (k ≡ place) × (x ≡ number)) old (set old place row)
adds_number_at old place number was row within is only kept added room =
    let e : was ≡ get_or old place [] = is ∙ get_or_default old place was [] within in
    adds_number old place number row within (λ k has. subst (λ s. Has s k ⊎ (k ≡ number)) e (only k has)) (λ k has. kept k (subst (λ s. Has s k) (sym e) has))
    (λ l. added (subst (λ s. number < 64 * length s) (sym e) l)) (room ∙ ap length e)

-- nothing comes to a place past the sets, which is in no table of them
pub adds_past_table : (words : ℕ) (old : List (List ℕ)) (place number : ℕ) → length old ≤ place
    → Adds HasAt (IsInTable words) (λ k x. (k ≡ place) × (x ≡ number)) old old
adds_past_table words old place number past = record {
  count = refl;
  room = λ at y. ((λ h. h), (λ h. h));
  kept = λ at y h. h;
  added = λ at y told fits. absurd (let s = told.0 in let l = fits.0 in omega arith);
  only = λ at y h. inl h;
}

-- nor has it room
pub adds_past : (old : List (List ℕ)) (place number : ℕ) → length old ≤ place → AddsNumbers (λ k x. (k ≡ place) × (x ≡ number)) old old
adds_past old place number past = record {
  count = refl;
  room = λ at y. ((λ h. h), (λ h. h));
  kept = λ at y h. h;
  added = λ at y told fits. absurd (
      let e : length (get_or old at []) ≡ 0 = ap length (get_or_past old at [] (let s = told.0 in omega arith)) in
      let f : y < 64 * length (get_or old at []) = fits in omega arith);
  only = λ at y h. inl h;
}
