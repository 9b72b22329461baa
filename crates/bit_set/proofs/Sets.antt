-- Sets of numbers, word by word.
use Rattle.std.proofs.Common.{◌≡◌, ◌↔◌, ◌⊎◌, ℕ, ◌+◌, ◌*◌, ◌/◌, ◌%◌, ◌^◌, ◌<◌, ◌≤◌, List, [], ◌∷◌, ◌++◌, Contains, length, take, get_or, set, refl, sym, ◌∙◌, ap, subst, inl, inr, arith}
use Rattle.std.proofs.lemmas.Bool.{cases_lt, cases_eq}
use Rattle.std.proofs.lemmas.List.{get_or_past, get_or_read, get_or-set_same, get_or-set_other, length-set, take_more}
use Rattle.std.proofs.lemmas.List.Elements.{Contains-push, Contains-push_cases, Contains-append_left}
use Rattle.std.specs.Prelude.{bit_or}
use Rattle.std.specs.Int.{bit_at}
use Rattle.bit_set.specs.Bits.{Has}
use Rattle.bit_set.specs.private.Words.{HasBit, IsPart, AddsBit, TakesBit, AreCommonBits, IsWordOfAll}
use Rattle.bit_set.proofs.Bits.{HasBit-zero, HasBit-or, some_bit}

-- what holds below a number and at it holds below the next one
pub below_next : (P : ℕ → Type 0) (at : ℕ) → ((k : ℕ) → k < at → P k) → P at → (k : ℕ) → k < at + 1 → P k
below_next P at below here k l = elim (cases_lt k at) [ inl less ↦ below k less | inr not ↦ subst P (let e : at ≡ k = omega arith in e) here ]

-- the number of a bit of the word at a place is in the set
pub Has-word : (words : List ℕ) (at i : ℕ) → i < 64 → HasBit (get_or words at 0) i ↔ Has words (at * 64 + i)
Has-word words at i within =
    let place : at ≡ (at * 64 + i) / 64 = omega arith in
    let bit : i ≡ (at * 64 + i) % 64 = omega arith in
    let same : bit_at (get_or words at 0) i ≡ bit_at (get_or words ((at * 64 + i) / 64) 0) ((at * 64 + i) % 64)
    = ap (λ w. bit_at (get_or words w 0) i) place ∙ ap (λ b. bit_at (get_or words ((at * 64 + i) / 64) 0) b) bit in
    (λ has. sym same ∙ has, λ has. same ∙ has)

-- words that are 0 have no number
pub Has-none : (words : List ℕ) → ((at : ℕ) → at < length words → get_or words at 0 ≡ 0) → (k : ℕ) → Has words k → ⊥
Has-none words none k has = elim (cases_lt (k / 64) (length words)) [
  | inl less ↦ HasBit-zero (k % 64) (subst (λ w. bit_at w (k % 64) ≡ 1) (none (k / 64) less) has)
  | inr past ↦ HasBit-zero (k % 64) (subst (λ w. bit_at w (k % 64) ≡ 1) (get_or_past words (k / 64) 0 past) has)
]

-- a number is in a word that is there
pub Has-within : (words : List ℕ) (k : ℕ) → Has words k → k / 64 < length words
Has-within words k has = elim (cases_lt (k / 64) (length words)) [
  | inl less ↦ less
  | inr past ↦ absurd (HasBit-zero (k % 64) (subst (λ w. bit_at w (k % 64) ≡ 1) (get_or_past words (k / 64) 0 past) has))
]

-- a set with another word at a place
module _ (words : List ℕ) (at word : ℕ) where
  word_at : at < length words → (k : ℕ) → k / 64 ≡ at → get_or (set words at word) (k / 64) 0 ≡ word
  word_at within k same = ap (λ a. get_or (set words at word) a 0) same ∙ get_or-set_same words at word 0 within

  word_beside : (k : ℕ) → (k / 64 ≡ at → ⊥) → get_or (set words at word) (k / 64) 0 ≡ get_or words (k / 64) 0
  word_beside k other = get_or-set_other words at (k / 64) word 0 other

-- a set whose word at a place has one more bit
module _ (words : List ℕ) (at bit word : ℕ) (within : at < length words) (small : bit < 64) (adds : AddsBit (get_or words at 0) bit word) where
  pub inserted_only : (k : ℕ) → Has (set words at word) k → Has words k ⊎ (k ≡ at * 64 + bit)
  inserted_only k has = elim (cases_eq (k / 64) at) [
    | inl same ↦ elim (cases_eq (k % 64) bit) [
      | inl bits ↦ inr (omega arith)
      | inr other ↦ inl (
          ap (λ a. bit_at (get_or words a 0) (k % 64)) same
          ∙ sym (adds.others (k % 64) other)
          ∙ ap (λ w. bit_at w (k % 64)) (sym (word_at words at word within k same)) ∙ has)
    ]
    | inr other ↦ inl (ap (λ w. bit_at w (k % 64)) (sym (word_beside words at word k other)) ∙ has)
  ]

  pub inserted_kept : (k : ℕ) → Has words k → Has (set words at word) k
  inserted_kept k has = elim (cases_eq (k / 64) at) [
    | inl same ↦ elim (cases_eq (k % 64) bit) [
      | inl bits ↦ ap (λ w. bit_at w (k % 64)) (word_at words at word within k same) ∙ ap (bit_at word) bits ∙ adds.added
      | inr other ↦
          ap (λ w. bit_at w (k % 64)) (word_at words at word within k same)
          ∙ adds.others (k % 64) other
          ∙ ap (λ a. bit_at (get_or words a 0) (k % 64)) (sym same) ∙ has
    ]
    | inr other ↦ ap (λ w. bit_at w (k % 64)) (word_beside words at word k other) ∙ has
  ]

  pub inserted_added : (k : ℕ) → k ≡ at * 64 + bit → Has (set words at word) k
  inserted_added k is =
      ap (λ w. bit_at w (k % 64)) (word_at words at word within k (omega arith)) ∙ ap (bit_at word) (let e : k % 64 ≡ bit = omega arith in e) ∙ adds.added

-- a set whose word at a place has one bit less
module _ (words : List ℕ) (at bit word : ℕ) (within : at < length words) (takes : TakesBit (get_or words at 0) bit word) where
  pub removed_taken : (k : ℕ) → k / 64 ≡ at → k % 64 ≡ bit → Has (set words at word) k → ⊥
  removed_taken k same bits has = takes.taken (ap (bit_at word) (sym bits) ∙ ap (λ w. bit_at w (k % 64)) (sym (word_at words at word within k same)) ∙ has)

  pub removed_kept : (k : ℕ) → (k / 64 ≡ at → k % 64 ≡ bit → ⊥) → Has words k → Has (set words at word) k
  removed_kept k other has = elim (cases_eq (k / 64) at) [
    | inl same ↦
        ap (λ w. bit_at w (k % 64)) (word_at words at word within k same)
        ∙ takes.others (k % 64) (omega arith) (other same)
        ∙ ap (λ a. bit_at (get_or words a 0) (k % 64)) (sym same) ∙ has
    | inr apart ↦ ap (λ w. bit_at w (k % 64)) (word_beside words at word k apart) ∙ has
  ]

  pub removed_only : (k : ℕ) → Has (set words at word) k → Has words k
  removed_only k has = elim (cases_eq (k / 64) at) [
    | inl same ↦ elim (cases_eq (k % 64) bit) [
      | inl bits ↦ absurd (removed_taken k same bits has)
      | inr other ↦
          ap (λ a. bit_at (get_or words a 0) (k % 64)) same
          ∙ sym (takes.others (k % 64) (omega arith) other)
          ∙ ap (λ w. bit_at w (k % 64)) (sym (word_at words at word within k same)) ∙ has
    ]
    | inr other ↦ ap (λ w. bit_at w (k % 64)) (sym (word_beside words at word k other)) ∙ has
  ]

-- the words before the place are those of both sets together, and the others as before
pub record AreJoined (old other new : List ℕ) (at : ℕ) : Type 0 where
  pub count : length new ≡ length old
  pub joined : (k : ℕ) → k < at → get_or new k 0 ≡ bit_or (get_or old k 0) (get_or other k 0)
  pub others : (k : ℕ) → at ≤ k → get_or new k 0 ≡ get_or old k 0

pub joined_none : (old other : List ℕ) → AreJoined old other old 0
joined_none old other = record { count = refl; joined = λ k l. absurd (omega arith); others = λ k l. refl }

pub joined_more : (old other new : List ℕ) (at word : ℕ) → AreJoined old other new at → at < length old → word ≡ bit_or (get_or new at 0) (get_or other at 0)
    → AreJoined old other (set new at word) (at + 1)
joined_more old other new at word h within is = record {
  count = length-set new at word ∙ h.count;
  joined = λ k l. elim (cases_eq k at) [
    | inl same ↦
        ap (λ a. get_or (set new at word) a 0) same
        ∙ get_or-set_same new at word 0 (let e = h.count in omega arith)
        ∙ is
        ∙ ap (λ w. bit_or w (get_or other at 0)) (h.others at (omega arith))
        ∙ ap (λ a. bit_or (get_or old a 0) (get_or other a 0)) (sym same)
    | inr apart ↦ get_or-set_other new at k word 0 apart ∙ h.joined k (omega arith)
  ];
  others = λ k l. get_or-set_other new at k word 0 (λ same. absurd (omega arith)) ∙ h.others k (omega arith);
}

module _ (old other new : List ℕ) (at : ℕ) (h : AreJoined old other new at) where
  pub joined_only : (k : ℕ) → Has new k → Has old k ⊎ Has other k
  joined_only k has = elim (cases_lt (k / 64) at) [
    | inl less ↦ (HasBit-or (get_or old (k / 64) 0) (get_or other (k / 64) 0) (k % 64)).0
        (ap (λ w. bit_at w (k % 64)) (sym (h.joined (k / 64) less)) ∙ has)
    | inr past ↦ inl (ap (λ w. bit_at w (k % 64)) (sym (h.others (k / 64) past)) ∙ has)
  ]

  pub joined_kept : (k : ℕ) → Has old k → Has new k
  joined_kept k has = elim (cases_lt (k / 64) at) [
    | inl less ↦ ap (λ w. bit_at w (k % 64)) (h.joined (k / 64) less)
        ∙ (HasBit-or (get_or old (k / 64) 0) (get_or other (k / 64) 0) (k % 64)).1 (inl has)
    | inr past ↦ ap (λ w. bit_at w (k % 64)) (h.others (k / 64) past) ∙ has
  ]

  pub joined_added : length other ≤ at → (k : ℕ) → Has other k → Has new k
  joined_added all k has =
      ap (λ w. bit_at w (k % 64)) (h.joined (k / 64) (let l = Has-within other k has in omega arith))
      ∙ (HasBit-or (get_or old (k / 64) 0) (get_or other (k / 64) 0) (k % 64)).1 (inr has)

-- numbers of the words before the place
pub within_more : (words other : List ℕ) (at : ℕ) → ((k : ℕ) → k < at * 64 → Has words k → Has other k) → IsPart (get_or words at 0) (get_or other at 0)
    → (k : ℕ) → k < (at + 1) * 64 → Has words k → Has other k
within_more words other at before part k below has = elim (cases_lt k (at * 64)) [
  | inl less ↦ before k less has
  | inr past ↦
      let place : k / 64 ≡ at = omega arith in
      let mine : HasBit (get_or words at 0) (k % 64) = subst (λ a. bit_at (get_or words a 0) (k % 64) ≡ 1) place has in
      subst (λ a. bit_at (get_or other a 0) (k % 64) ≡ 1) (sym place) (part (k % 64) (omega arith) mine)
]

pub within_all : (words other : List ℕ) (at : ℕ) → ((k : ℕ) → k < at * 64 → Has words k → Has other k) → length words ≤ at → (k : ℕ) → Has words k → Has other k
within_all words other at before all k has = before k (let l = Has-within words k has in omega arith) has

-- where all numbers are in the other set, each word is part of the other's
pub within_part : (words other : List ℕ) (at : ℕ) → ((k : ℕ) → Has words k → Has other k) → IsPart (get_or words at 0) (get_or other at 0)
within_part words other at all i small has = (Has-word other at i small).1 (all (at * 64 + i) ((Has-word words at i small).0 has))

-- the list has in addition the numbers of the bits of the word that are not left
pub record HasNumbers (old new : List ℕ) (first word rest : ℕ) : Type 0 where
  pub kept : (k : ℕ) → Contains old k → Contains new k
  pub added : (i : ℕ) → i < 64 → HasBit word i → Contains new (first + i) ⊎ HasBit rest i
  pub only : (k : ℕ) → Contains new k → Contains old k ⊎ ((i : ℕ) × (i < 64) × HasBit word i × (k ≡ first + i))
  pub part : (i : ℕ) → i < 64 → HasBit rest i → HasBit word i

pub numbers_begun : (old : List ℕ) (first word : ℕ) → HasNumbers old old first word word
numbers_begun old first word = record { kept = λ k there. there; added = λ i l has. inr has; only = λ k there. inl there; part = λ i l has. has }

pub numbers_pushed : (old new : List ℕ) (first word rest bit less : ℕ) → HasNumbers old new first word rest → bit < 64 → HasBit rest bit → TakesBit rest bit less
    → HasNumbers old (new ++ (first + bit) ∷ []) first word less
numbers_pushed old new first word rest bit less h small here takes = record {
  kept = λ k there. Contains-append_left new ((first + bit) ∷ []) k (h.kept k there);
  added = λ i l has. elim (cases_eq i bit) [
    | inl same ↦ inl (subst (λ x. Contains (new ++ (first + bit) ∷ []) (first + x)) (sym same) (Contains-push new (first + bit)))
    | inr other ↦ elim (h.added i l has) [
      | inl there ↦ inl (Contains-append_left new ((first + bit) ∷ []) (first + i) there)
      | inr left ↦ inr (takes.others i l other ∙ left)
    ]
  ];
  only = λ k there. elim (Contains-push_cases new (first + bit) k there) [
    | inl before ↦ h.only k before
    | inr same ↦ inr (bit, small, h.part bit small here, sym same)
  ];
  part = λ i l has. elim (cases_eq i bit) [
    | inl same ↦ absurd (takes.taken (subst (HasBit less) same has))
    | inr other ↦ h.part i l (sym (takes.others i l other) ∙ has)
  ];
}

pub numbers_ended : (old new : List ℕ) (first word rest : ℕ) → HasNumbers old new first word rest → rest ≡ 0 → (i : ℕ) → i < 64 → HasBit word i → Contains new (first + i)
numbers_ended old _ first word rest h none i l has = elim (h.added i l has) [
  | inl there ↦ there
  | inr left ↦ absurd (HasBit-zero i (subst (λ w. HasBit w i) none left))
]

-- the list has in addition the numbers of all bits of the word
pub numbers_added : (old new : List ℕ) (first word : ℕ) → ((k : ℕ) → Contains old k → Contains new k) → ((i : ℕ) → i < 64 → HasBit word i → Contains new (first + i))
    → ((k : ℕ) → Contains new k → Contains old k ⊎ ((i : ℕ) × (i < 64) × HasBit word i × (k ≡ first + i))) → HasNumbers old new first word 0
numbers_added old new first word kept added only = record { kept = kept; added = λ i l has. inl (added i l has); only = only; part = λ i l has. absurd (HasBit-zero i has) }

-- the numbers have the property, and are all those of the first words that have it
pub record AreNumbers (P : ℕ → Type 0) (numbers : List ℕ) (at : ℕ) : Type 0 where
  pub some : (k : ℕ) → Contains numbers k → P k
  pub all : (k : ℕ) → k < at * 64 → P k → Contains numbers k

nothing : (k : ℕ) → Contains [] k → ⊥
nothing k (place, within, here) = omega arith

pub numbers_none : (P : ℕ → Type 0) → AreNumbers P [] 0
numbers_none P = record { some = λ k there. absurd (nothing k there); all = λ k l has. absurd (omega arith) }

-- the numbers of one more word, whose bits tell of which the property holds
pub numbers_more : (P : ℕ → Type 0) (word : ℕ) (old new : List ℕ) (at : ℕ) → ((i : ℕ) → i < 64 → HasBit word i ↔ P (at * 64 + i)) → AreNumbers P old at
    → HasNumbers old new (at * 64) word 0 → AreNumbers P new (at + 1)
numbers_more P word old new at bits h adds = record {
  some = λ k there. elim (adds.only k there) [
    | inl before ↦ h.some k before
    | inr bit ↦ subst P (sym bit.3) ((bits bit.0 bit.1).0 bit.2)
  ];
  all = λ k l has. elim (cases_lt k (at * 64)) [
    | inl less ↦ adds.kept k (h.all k less has)
    | inr past ↦
        let number : at * 64 + k % 64 ≡ k = omega arith in
        let here : HasBit word (k % 64) = (bits (k % 64) (omega arith)).1 (subst P (sym number) has) in
        subst (Contains new) number (numbers_ended old new (at * 64) word 0 adds refl (k % 64) (omega arith) here)
  ];
}

pub numbers_all : (P : ℕ → Type 0) (numbers : List ℕ) (at : ℕ) → AreNumbers P numbers at → ((k : ℕ) → P k → k / 64 < at) → (k : ℕ) → Contains numbers k ↔ P k
numbers_all P numbers at h within k = (h.some k, λ has. h.all k (let l = within k has in omega arith) has)

-- the word that is read at a place of a set
pub word_read : (words now : List ℕ) (at word : ℕ) → at < length words → word ≡ get_or words at word → words ≡ now → word ≡ get_or now at 0
word_read words now at word inside is same = subst (λ (xs : List ℕ). word ≡ get_or xs at 0) same (get_or_read words at word inside is 0)

-- numbers of two sets
abbrev pub HaveBoth : List ℕ → List ℕ → ℕ → Type 0
HaveBoth words other k = Has words k × Has other k

pub both_bits : (words other : List ℕ) (at common : ℕ) → AreCommonBits (get_or words at 0) (get_or other at 0) common
    → (i : ℕ) → i < 64 → HasBit common i ↔ HaveBoth words other (at * 64 + i)
both_bits words other at common is i small =
    let mine = Has-word words at i small in
    let its = Has-word other at i small in
    (λ has. let both = (is i).0 has in (mine.0 both.0, its.0 both.1), λ both. (is i).1 (mine.1 both.0, its.1 both.1))

-- a number of a common bit
pub both_found : (words other : List ℕ) (at common : ℕ) → AreCommonBits (get_or words at 0) (get_or other at 0) common → common < 2 ^ 64 → (common ≡ 0 → ⊥)
    → (k : ℕ) × Has words k × Has other k
both_found words other at common is small some =
    let bit = some_bit common small some in
    let both = (both_bits words other at common is bit.0 bit.1).0 bit.2 in
    (at * 64 + bit.0, both.0, both.1)

-- none of both in one more word
pub apart_more : (words other : List ℕ) (at : ℕ) → ((k : ℕ) → k < at * 64 → HaveBoth words other k → ⊥) → AreCommonBits (get_or words at 0) (get_or other at 0) 0
    → (k : ℕ) → k < (at + 1) * 64 → HaveBoth words other k → ⊥
apart_more words other at before is k below both = elim (cases_lt k (at * 64)) [
  | inl less ↦ before k less both
  | inr past ↦
      let number : at * 64 + k % 64 ≡ k = omega arith in
      HasBit-zero (k % 64) ((both_bits words other at 0 is (k % 64) (omega arith)).1 (subst (HaveBoth words other) (sym number) both))
]

-- the words of one more set
module _ (sets : List (List ℕ)) (places : List ℕ) (i at word : ℕ) (h : IsWordOfAll sets (take i places) at word) (within : i < length places) where
  pub word_skipped : length sets ≤ get_or places i 0 → IsWordOfAll sets (take (i + 1) places) at word
  word_skipped past = record {
    only = λ b has. let found = h.only b has in
        (found.0, subst (λ xs. Contains xs found.0) (sym (take_more places i 0 within)) (Contains-append_left (take i places) (get_or places i 0 ∷ []) found.0 found.1), found.2);
    all = λ p b there has. elim (Contains-push_cases (take i places) (get_or places i 0) p (subst (λ xs. Contains xs p) (take_more places i 0 within) there)) [
      | inl before ↦ h.all p b before has
      | inr same ↦ absurd (HasBit-zero b (subst (λ (set : List ℕ). HasBit (get_or set at 0) b) (get_or_past sets (get_or places i 0) [] past)
          (subst (λ x. HasBit (get_or (get_or sets x []) at 0) b) (sym same) has)))
    ];
  }

  pub word_joined : (other : ℕ) → other ≡ get_or (get_or sets (get_or places i 0) []) at 0 → IsWordOfAll sets (take (i + 1) places) at (bit_or word other)
  word_joined other is = record {
    only = λ b has. elim ((HasBit-or word other b).0 has) [
      | inl old ↦ let found = h.only b old in
          (found.0, subst (λ xs. Contains xs found.0) (sym (take_more places i 0 within)) (Contains-append_left (take i places) (get_or places i 0 ∷ []) found.0 found.1), found.2)
      | inr new ↦ (
        get_or places i 0,
        subst (λ xs. Contains xs (get_or places i 0)) (sym (take_more places i 0 within)) (Contains-push (take i places) (get_or places i 0)),
        subst (λ w. HasBit w b) is new,
      )
    ];
    all = λ p b there has. (HasBit-or word other b).1
        (elim (Contains-push_cases (take i places) (get_or places i 0) p (subst (λ xs. Contains xs p) (take_more places i 0 within) there)) [
          | inl before ↦ inl (h.all p b before has)
          | inr same ↦ inr (subst (λ w. HasBit w b) (sym is) (subst (λ x. HasBit (get_or (get_or sets x []) at 0) b) (sym same) has))
        ]);
  }
