-- Sets at places, and unions of sets in families that grow at their ends.
use Rattle.std.proofs.Common.{Bool, true, false, nat_eq, if◌then◌else◌, ◌≡◌, ◌↔◌, ◌<◌, ◌⊎◌, ℕ, List, [], ◌∷◌, ◌++◌, Contains, length, get_or, subst, inl, inr, refl, sym, ap, ◌∙◌, arith}
use Rattle.std.proofs.lemmas.List.{get_or_append_left, get_or_default, get_or_push, length_push}
use Rattle.std.proofs.lemmas.List.Elements.{Contains-push_cases}
use Rattle.std.specs.List.{list_any}
use Rattle.std.specs.Cmp.Lexicographic.{pointwise, bytes_decides}
use Rattle.indexmap.specs.IndexSet.{insert_key}
use Rattle.indexmap.proofs.CallerLemmas.{Contains-list_any}
use Rattle.word_automata.proofs.ForCallers.{Contains-none}
use Rattle.bit_set.specs.Bits.{Has}
use Rattle.bit_set.specs.SetLists.{HasAt}
use Rattle.bit_set.proofs.ForCallers.{HasAt-within}
use Rattle.atoms.specs.private.Family.{IsUnion, IsPart, AreUnions, Begins}

-- the numbers of the set at a place
pub numbers_at : (sets : List (List ℕ)) (at : ℕ) (was items places : List ℕ) → at < length sets → was ≡ get_or sets at was → ((k : ℕ) → Contains items k ↔ Has was k) → places ≡ items
    → (k : ℕ) → Contains places k ↔ HasAt sets at k
numbers_at sets at was items places within is same are =
    let e : was ≡ get_or sets at [] = is ∙ get_or_default sets at was [] within in
    subst (λ xs. (k : ℕ) → Contains xs k ↔ HasAt sets at k) (sym are) (subst (λ s. (k : ℕ) → Contains items k ↔ Has s k) e same)

pub begins_same : (old : List (List ℕ)) → Begins old old
begins_same old = record { count = omega arith; same = λ k l. refl }

pub begins_push : (old : List (List ℕ)) (set : List ℕ) → Begins old (old ++ set ∷ [])
begins_push old set = record {
  count = let e = length_push old set in omega arith;
  same = λ k l. get_or_append_left old (set ∷ []) [] k l;
}

pub begins_both : (old mid new : List (List ℕ)) → Begins old mid → Begins mid new → Begins old new
begins_both old mid new first second = record {
  count = let a = first.count in let b = second.count in omega arith;
  same = λ k l. second.same k (let a = first.count in omega arith) ∙ first.same k l;
}

-- a union stays one
pub union_begins : (old new : List (List ℕ)) → Begins old new → (P : ℕ → Type 0) → IsUnion old P → IsUnion new P
union_begins old new begins P union q p =
    let u = union q p in
    let e = begins.same u.0 (HasAt-within old u.0 q u.1) in
    (u.0, subst (λ s. Has s q) (sym e) u.1, λ r has. u.2 r (subst (λ s. Has s r) e has))

-- of the same
pub union_same : (sets : List (List ℕ)) (P Q : ℕ → Type 0) → ((q : ℕ) → Q q → P q) → ((q : ℕ) → P q → Q q) → IsUnion sets P → IsUnion sets Q
union_same sets P Q to from union q has = let u = union q (to q has) in (u.0, u.1, λ r there. from r (u.2 r there))

-- a set is a union of sets among which it is
pub union_last : (old : List (List ℕ)) (set : List ℕ) → IsUnion (old ++ set ∷ []) (Has set)
union_last old set q has =
    let e : get_or (old ++ set ∷ []) (length old) [] ≡ set = get_or_push old set [] (length old) refl in
    (length old, subst (λ s. Has s q) (sym e) has, λ r there. subst (λ s. Has s r) e there)

-- all that was seen stays a union
pub unions_begin : (old new seen : List (List ℕ)) → Begins old new → AreUnions old seen → AreUnions new seen
unions_begin old new seen begins unions set there = union_begins old new begins (Has set) (unions set there)

-- nothing was seen yet
pub unions_none : (sets seen : List (List ℕ)) → seen ≡ [] → AreUnions sets seen
unions_none sets seen none set there = absurd (Contains-none set (subst (λ xs. Contains xs set) none there))

-- a set that is found was seen
pub was_seen : (seen : List (List ℕ)) (set : List ℕ) → list_any (pointwise nat_eq set) seen ≡ true → Contains seen set
was_seen seen set found = Contains-list_any (pointwise nat_eq) (λ x y h. (bytes_decides x y).0 h) seen set found

-- also with one set more
pub unions_push : (sets seen : List (List ℕ)) (set : List ℕ) → AreUnions sets seen → IsUnion sets (Has set) → AreUnions sets (seen ++ set ∷ [])
unions_push sets seen set unions union other there = elim (Contains-push_cases seen set other there) [
  | inl earlier ↦ unions other earlier
  | inr same ↦ subst (λ s. IsUnion sets (Has s)) same union
]

-- each number of the union is in one of the sets, all of which the set has
abbrev pub AreMet : List (List ℕ) → List ℕ → List ℕ → Type 0
AreMet sets set union = (q : ℕ) → Has union q → (k : ℕ) × HasAt sets k q × ((r : ℕ) → HasAt sets k r → Has set r)

module _ (sets : List (List ℕ)) (set : List ℕ) where
  pub met_more : (k : ℕ) (other old new : List ℕ) → other ≡ get_or sets k [] → IsPart sets set k → ((q : ℕ) → Has new q → Has old q ⊎ Has other q)
      → AreMet sets set old → AreMet sets set new
  met_more k other old new is part only met q has = elim (only q has) [
    | inl earlier ↦ met q earlier
    | inr added ↦ (k, subst (λ s. Has s q) is added, part.1)
  ]

  -- so a set that lies in it is a union
  pub met_all : (union : List ℕ) → AreMet sets set union → ((q : ℕ) → Has set q → Has union q) → IsUnion sets (Has set)
  met_all union met within q has = met q (within q has)

-- a set that comes to those seen is a union
pub unions_inserted : (sets seen more : List (List ℕ)) (set : List ℕ) → more ≡ insert_key (pointwise nat_eq) seen set → AreUnions sets seen → IsUnion sets (Has set) → AreUnions sets more
unions_inserted sets seen more set inserted unions union = by (list_any (pointwise nat_eq set) seen) refl
  where
    by : (b : Bool) → list_any (pointwise nat_eq set) seen ≡ b → AreUnions sets more
    by true there = subst (AreUnions sets) (sym (inserted ∙ ap (λ b. if b then seen else seen ++ set ∷ []) there)) unions
    by false absent = subst (AreUnions sets) (sym (inserted ∙ ap (λ b. if b then seen else seen ++ set ∷ []) absent)) (unions_push sets seen set unions union)
