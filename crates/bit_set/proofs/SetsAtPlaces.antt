-- Sets at the places of lists.
use Rattle.std.proofs.Common.{◌≡◌, ◌↔◌, ◌<◌, ◌+◌, ◌*◌, ◌/◌, ◌++◌, ◌∷◌, [], ℕ, List, length, get_or, subst, inl, inr, refl, ap, ◌∙◌, arith}
use Rattle.std.proofs.lemmas.Bool.{cases_lt}
use Rattle.std.proofs.lemmas.List.{get_or_append_left, get_or_past, get_or_push, length_push}
use Rattle.bit_set.specs.Bits.{Has}
use Rattle.bit_set.specs.SetLists.{HasAt, AddsNumbers, AreEmpty}
use Rattle.bit_set.proofs.Sets.{Has-within}

-- a set that has a number is there
pub HasAt-within : (sets : List (List ℕ)) (k x : ℕ) → HasAt sets k x → k < length sets
HasAt-within sets k x has = elim (cases_lt k (length sets)) [
  | inl there ↦ there
  | inr past ↦ absurd (let l = Has-within [] x (subst (λ s. Has s x) (get_or_past sets k [] past) has) in omega arith)
]

-- words that have bits for the same numbers are as many
same_room : (a b : ℕ) → ((y : ℕ) → (y < 64 * a) ↔ (y < 64 * b)) → a ≡ b
same_room a b fits = elim (cases_lt a b) [
  | inl less ↦ absurd (let h : 64 * a < 64 * a = (fits (64 * a)).1 (omega arith) in omega arith)
  | inr more ↦ elim (cases_lt b a) [
    | inl less ↦ absurd (let h : 64 * b < 64 * b = (fits (64 * b)).0 (omega arith) in omega arith)
    | inr same ↦ omega arith
  ]
]

-- sets keep their lengths where numbers come to them
pub same_lengths : (Added : ℕ → ℕ → Type 0) (old new : List (List ℕ)) → AddsNumbers Added old new → (k : ℕ) → length (get_or new k []) ≡ length (get_or old k [])
same_lengths Added old new adds k = same_room (length (get_or new k [])) (length (get_or old k [])) (adds.room k)

-- empty sets, one by one
pub empty_none : (bound : ℕ) → AreEmpty 0 bound []
empty_none bound = record {
  count = refl;
  none = λ k number has. absurd (let l = HasAt-within [] k number has in omega arith);
  room = λ k l. absurd (omega arith);
}

pub none_more : (sets : List (List ℕ)) (empty : List ℕ) → ((k number : ℕ) → HasAt sets k number → ⊥) → ((k : ℕ) → Has empty k → ⊥)
    → (k number : ℕ) → HasAt (sets ++ empty ∷ []) k number → ⊥
none_more sets empty before none k number has = elim (cases_lt k (length sets)) [
  | inl earlier ↦ before k number (subst (λ s. Has s number) (get_or_append_left sets (empty ∷ []) [] k earlier) has)
  | inr past ↦
      let end : length sets ≡ k = (let l = HasAt-within (sets ++ empty ∷ []) k number has in let e = length_push sets empty in omega arith) in
      none number (subst (λ s. Has s number) (get_or_push sets empty [] k end) has)
]

pub empty_more : (amount bound : ℕ) (sets : List (List ℕ)) (empty : List ℕ) → AreEmpty amount bound sets → ((k : ℕ) → Has empty k → ⊥) → length empty ≡ bound / 64 + 1
    → AreEmpty (amount + 1) bound (sets ++ empty ∷ [])
empty_more amount bound sets empty before none room = record {
  count = length_push sets empty ∙ ap (λ k. k + 1) before.count;
  none = none_more sets empty before.none none;
  room = λ k l. elim (cases_lt k (length sets)) [
    | inl earlier ↦ ap length (get_or_append_left sets (empty ∷ []) [] k earlier) ∙ before.room k (let e = before.count in omega arith)
    | inr past ↦
        let end : length sets ≡ k = (let e = before.count in omega arith) in
        ap length (get_or_push sets empty [] k end) ∙ room
  ];
}
