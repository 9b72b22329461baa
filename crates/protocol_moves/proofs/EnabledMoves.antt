-- Whether a move leads anywhere.
use Rattle.std.proofs.Common.{◌≡◌, ◌==◌, ◌↔◌, inl, inr, ℕ, zero, suc, ◌+◌, ◌-◌, ◌<◌, ◌≤◌, Bool, true, false, List, [], ◌∷◌, ◌++◌, length, refl, ap, sym, subst, ◌∙◌, ◌&&◌, not, arith, set, get_or, map, Option}
use Rattle.std.specs.List.{Contains}
use Rattle.std.proofs.lemmas.Bool.{ne_eqb, eq-eqb, cases_lt, false_from_ne_true, or_cases, or_left, or_right}
use Rattle.std.proofs.lemmas.List.Folds.{list_any_at}
use Rattle.protocol_model.specs.System.{Guard}
use Rattle.protocol_moves.specs.declared.extent.Extent.{Extent}
use Rattle.protocol_model.specs.Moves.{is_in, table_value, popped, IsAtMove, IsPairMove, IsRingMove, IsTwoMove, IsStackMove}
use Rattle.protocol_moves.specs.private.Extents.{HaveExtents, all_hold}
use Rattle.protocol_moves.specs.Results.{AreExactly}
use Rattle.protocol_moves.specs.private.Gathering.{gathered, alone_if, at_changed, two_changed, some_below, can_change_at, can_change_two}
use Rattle.std.proofs.Math.Bool.{and-false}
use Rattle.protocol_moves.proofs.Gathered.{gathered_to, gathered_from, alone_to, alone_from}
use Rattle.protocol_moves.proofs.EndMove.{never, ring_old_empty}
use Rattle.protocol_moves.proofs.TestedMove.{all_hold_is}
use Rattle.protocol_moves.proofs.Positions.{at_exactly, pair_exactly, ring_exactly, two_exactly}

-- numbers below a count

pub some_at : (test : ℕ → Bool) (n k : ℕ) → k < n → test k ≡ true → some_below test n ≡ true
some_at test zero k h e = absurd (omega arith)
some_at test (suc n) k h e =
    elim (cases_lt k n) [
      | inl less ↦ or_left (some_below test n) (test n) (some_at test n k less e)
      | inr more ↦
          let is : k ≡ n = omega arith in
          or_right (some_below test n) (test n) (subst (λ i. test i ≡ true) is e)
    ]

pub none_at : (test : ℕ → Bool) (n : ℕ) → ((k : ℕ) → k < n → test k ≡ false) → some_below test n ≡ false
none_at test zero f = refl
none_at test (suc n) f = rw (none_at test n (λ k h. f k (omega arith)), f n (omega arith)) refl

record IsFound (test : ℕ → Bool) (n : ℕ) : Type 0 where
  place : ℕ
  within : place < n
  found : test place ≡ true

found_below : (test : ℕ → Bool) (n : ℕ) → some_below test n ≡ true → IsFound test n
found_below test zero h = cc
found_below test (suc n) h =
    elim (or_cases (some_below test n) (test n) h) [
      | inl earlier ↦
          let m = found_below test n earlier in
          record { place = m.place; within = omega (arith, m.within); found = m.found }
      | inr here ↦ record { place = n; within = omega arith; found = here }
    ]

-- lists that are gathered from numbers

some_gathered : (parts : ℕ → List (List ℕ)) (test : ℕ → Bool) (n : ℕ) →
    ((k : ℕ) → (test k ≡ true) ↔ ((new : List ℕ) × Contains (parts k) new)) →
    (some_below test n ≡ true) ↔ ((new : List ℕ) × Contains (gathered parts n) new)
some_gathered parts test n f = (there, back)
  where
    there : some_below test n ≡ true → (new : List ℕ) × Contains (gathered parts n) new
    there h =
        let m = found_below test n h in
        let new = (f m.place).0 m.found in
        (new.0, gathered_from parts n new.0 m.place m.within new.1)

    back : ((new : List ℕ) × Contains (gathered parts n) new) → some_below test n ≡ true
    back new =
        let m = gathered_to parts n new.0 new.1 in
        some_at test n m.place m.within ((f m.place).1 (new.0, m.given))

some_alone : (b : Bool) (list : List ℕ) → (b ≡ true) ↔ ((new : List ℕ) × Contains (alone_if b list) new)
some_alone b list = (λ h. (list, alone_from b list list h refl), λ m. (alone_to b list m.0 m.1).0)

some_exactly : (P : List ℕ → Type 0) (lists : List (List ℕ)) (b : Bool) → AreExactly P lists →
    (b ≡ true) ↔ ((new : List ℕ) × Contains lists new) → (b ≡ true) ↔ ((new : List ℕ) × P new)
some_exactly P lists b exact e =
    (λ h. let m = e.0 h in (m.0, (exact.each m.0).0 m.1), λ m. e.1 (m.0, (exact.each m.0).1 m.1))

-- each move

pub at_enabled : (f t : ℕ) (guards : List Guard) (table : List (ℕ × ℕ)) (old : List ℕ) →
    (some_below (can_change_at f guards old) (length old) ≡ true) ↔ ((new : List ℕ) × IsAtMove f t guards table old new)
at_enabled f t guards table old =
    let parts = at_changed f t guards table old in
    some_exactly (IsAtMove f t guards table old) (gathered parts (length old)) (some_below (can_change_at f guards old) (length old))
    (at_exactly f t guards table old (gathered parts (length old)) refl)
    (some_gathered parts (can_change_at f guards old) (length old)
    (λ k. some_alone (can_change_at f guards old k) (set (map (table_value table) old) k t)))

some_two : (a b c d : ℕ) (old : List ℕ) (i j : ℕ) →
    (can_change_two a b old i j ≡ true) ↔ ((new : List ℕ) × Contains (two_changed a b c d old i j) new)
some_two a b c d old i j = some_alone (can_change_two a b old i j) (set (set old i c) j d)

pub pair_enabled : (a b c d : ℕ) (old : List ℕ) →
    (some_below (λ k. can_change_two a b old k (k + 1)) (length old - 1) ≡ true) ↔ ((new : List ℕ) × IsPairMove a b c d old new)
pair_enabled a b c d old =
    let parts : ℕ → List (List ℕ) = λ k. two_changed a b c d old k (k + 1) in
    let test : ℕ → Bool = λ k. can_change_two a b old k (k + 1) in
    some_exactly (IsPairMove a b c d old) (gathered parts (length old - 1)) (some_below test (length old - 1))
    (pair_exactly a b c d old (gathered parts (length old - 1)) refl)
    (some_gathered parts test (length old - 1) (λ k. some_two a b c d old k (k + 1)))

pub two_enabled : (a b c d : ℕ) (old : List ℕ) →
    (some_below (λ i. some_below (can_change_two a b old i) (length old)) (length old) ≡ true) ↔ ((new : List ℕ) × IsTwoMove a b c d old new)
two_enabled a b c d old =
    let parts : ℕ → List (List ℕ) = λ i. gathered (two_changed a b c d old i) (length old) in
    let test : ℕ → Bool = λ i. some_below (can_change_two a b old i) (length old) in
    some_exactly (IsTwoMove a b c d old) (gathered parts (length old)) (some_below test (length old))
    (two_exactly a b c d old (gathered parts (length old)) refl)
    (some_gathered parts test (length old)
    (λ i. some_gathered (two_changed a b c d old i) (can_change_two a b old i) (length old) (some_two a b c d old i)))

pub ring_enabled : (a b c d : ℕ) (old : List ℕ) →
    (can_change_two a b old (length old - 1) 0 ≡ true) ↔ ((new : List ℕ) × IsRingMove a b c d old new)
ring_enabled a b c d [] = never (λ m. ring_old_empty a b c d [] m.0 refl m.1)
ring_enabled a b c d (x ∷ old) =
    let list = x ∷ old in
    some_exactly (IsRingMove a b c d list) (two_changed a b c d list (length list - 1) 0) (can_change_two a b list (length list - 1) 0)
    (ring_exactly a b c d list (two_changed a b c d list (length list - 1) 0) (omega arith) refl)
    (some_two a b c d list (length list - 1) 0)

pub stack_enabled : (pop : Option ℕ) (push old : List ℕ) (b : Bool) → (b ≡ true) ↔ ((rest : List ℕ) × (old ≡ popped pop ++ rest)) →
    (b ≡ true) ↔ ((new : List ℕ) × IsStackMove pop push old new)
stack_enabled pop push old b e = (
  λ h. let m = e.0 h in (push ++ m.0, record { below = m.0; was = m.1; becomes = refl }),
  λ m. e.1 (m.1.below, m.1.was),
)

pub set_enabled : (a b : ℕ) (old : List ℕ) (e : Bool) → (e ≡ true) ↔ (old ≡ a ∷ []) →
    (e ≡ true) ↔ ((new : List ℕ) × ((old ≡ a ∷ []) × (new ≡ b ∷ [])))
set_enabled a b old e s = (λ h. (b ∷ [], (s.0 h, refl)), λ m. s.1 m.1.0)

pub test_is : (b e : Bool) (P : Type 0) → b ≡ e → (e ≡ true) ↔ P → (b ≡ true) ↔ P
test_is b e P same m = subst (λ x. (x ≡ true) ↔ P) (sym same) m

-- what the loops test

pub start_is : (f : ℕ) (guards : List Guard) (extents : List Extent) (list : List ℕ) (i : ℕ) (holds : Bool) →
    HaveExtents guards extents list → i < length list → holds ≡ all_hold guards extents i →
    ((get_or list i 0 == f) && holds) ≡ can_change_at f guards list i
start_is f guards extents list i holds have h e =
    ap (λ b. (get_or list i 0 == f) && b) (e ∙ all_hold_is guards extents list i have h)

pub neighbours_are : (a b : ℕ) (list : List ℕ) (i : ℕ) → 1 ≤ i →
    ((get_or list (i - 1) 0 == a) && (get_or list i 0 == b)) ≡ can_change_two a b list (i - 1) (i - 1 + 1)
neighbours_are a b list i h =
    let next : i - 1 + 1 ≡ i = omega arith in
    let apart : i - 1 ≡ i → ⊥ = λ e. omega (arith, e) in
    subst (λ k. ((get_or list (i - 1) 0 == a) && (get_or list i 0 == b)) ≡ can_change_two a b list (i - 1) k) (sym next)
    (rw (ne_eqb (i - 1) i apart) refl)

pub partner_is : (a b : ℕ) (list : List ℕ) (i j : ℕ) (apart : Bool) → get_or list i 0 ≡ a → apart ≡ not (i == j) →
    (apart && (get_or list j 0 == b)) ≡ can_change_two a b list i j
partner_is a b list i j apart e f = rw (f, eq-eqb (get_or list i 0) a e) refl

pub no_partner : (a b : ℕ) (list : List ℕ) (i j : ℕ) → (get_or list i 0 ≡ a → ⊥) → can_change_two a b list i j ≡ false
no_partner a b list i j e = rw (ne_eqb (get_or list i 0) a e) (and-false (not (i == j)))

pub none_changed : (a b c d : ℕ) (list : List ℕ) (i n : ℕ) → (get_or list i 0 ≡ a → ⊥) → gathered (two_changed a b c d list i) n ≡ []
none_changed a b c d list i zero e = refl
none_changed a b c d list i (suc n) e = rw (none_changed a b c d list i n e, no_partner a b list i n e) refl

pub no_second : (a b : ℕ) (list : List ℕ) (i j : ℕ) → is_in list b ≡ false → j < length list → can_change_two a b list i j ≡ false
no_second a b list i j e h =
    let other : (get_or list j 0 == b) ≡ false =
    false_from_ne_true (get_or list j 0 == b) (λ t. both_ways (sym e ∙ list_any_at (λ y. y == b) list j 0 h t)) in
    rw (other, and-false (get_or list i 0 == a)) (and-false (not (i == j)))
  where
    both_ways : false ≡ true → ⊥
    both_ways x = cc
