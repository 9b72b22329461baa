-- Moves at two positions in or_cases order.
use Rattle.std.proofs.Common.{◌≡◌, ◌==◌, inl, inr, ℕ, suc, ◌+◌, ◌<◌, Bool, true, false, List, [], ◌∷◌, ◌++◌, length, refl, ap, sym, ◌∙◌, ◌||◌, ◌&&◌, arith, drop, get_or}
use Rattle.std.proofs.lemmas.List.{drop_all}
use Rattle.std.proofs.lemmas.Bool.Decides.{Decides-eqb}
use Rattle.std.proofs.lemmas.Bool.{and_parts, and_from, or_cases, or_left, or_right}
use Rattle.protocol_model.specs.Moves.{ChangesTwo, IsTwoMove}
use Rattle.protocol_moves.specs.private.Extents.{is_same, is_one_change, is_two_changes}
use Rattle.protocol_moves.proofs.Lists.{drop_more}

-- n, p, q, b: none, the first, the second or both changes have been met; s, f, g: the letters are the same, or the first or second change
turn : (n p q b s f g two one_q one_p same : Bool) →
    ((n && ((s && two) || ((f && one_q) || (g && one_p))))
    || ((p && ((s && one_q) || (g && same))) || ((q && ((s && one_p) || (f && same))) || (b && (s && same)))))
    ≡ (((n && s) && two)
    || ((((p && s) || (n && f)) && one_q) || ((((q && s) || (n && g)) && one_p) || ((((b && s) || (q && f)) || (p && g)) && same))))
turn n p q b s f g two one_q one_p same = grind arith

-- what is left is decided by what has been met
abbrev pub is_left_over : ℕ → ℕ → ℕ → ℕ → Bool → Bool → Bool → Bool → List ℕ → List ℕ → Bool
is_left_over a b c d none first second both old new =
    (none && is_two_changes a b c d old new)
    || ((first && is_one_change b d old new) || ((second && is_one_change a c old new) || (both && is_same old new)))

pub two_turn : (a b c d : ℕ) (none first second both : Bool) (old new : List ℕ) (i : ℕ) → i < length old → length old ≡ length new →
    is_left_over a b c d none first second both (drop i old) (drop i new)
    ≡ is_left_over a b c d (none && (get_or old i 0 == get_or new i 0))
    ((first && (get_or old i 0 == get_or new i 0)) || (none && ((get_or old i 0 == a) && (get_or new i 0 == c))))
    ((second && (get_or old i 0 == get_or new i 0)) || (none && ((get_or old i 0 == b) && (get_or new i 0 == d))))
    (((both && (get_or old i 0 == get_or new i 0)) || (second && ((get_or old i 0 == a) && (get_or new i 0 == c))))
    || (first && ((get_or old i 0 == b) && (get_or new i 0 == d))))
    (drop (i + 1) old) (drop (i + 1) new)
two_turn a b c d none first second both old new i h l =
    let rest_old = drop (i + 1) old in
    let rest_new = drop (i + 1) new in
    rw (drop_more old i 0 h, drop_more new i 0 (omega arith))
    (turn none first second both (get_or old i 0 == get_or new i 0) ((get_or old i 0 == a) && (get_or new i 0 == c))
    ((get_or old i 0 == b) && (get_or new i 0 == d)) (is_two_changes a b c d rest_old rest_new) (is_one_change b d rest_old rest_new)
    (is_one_change a c rest_old rest_new) (is_same rest_old rest_new))

at_end : (n p q b : Bool) → ((n && false) || ((p && false) || ((q && false) || (b && true)))) ≡ b
at_end n p q b = grind arith

pub two_last : (a b c d : ℕ) (none first second both : Bool) (old new : List ℕ) (i : ℕ) → i ≡ length old → length old ≡ length new →
    is_left_over a b c d none first second both (drop i old) (drop i new) ≡ both
two_last a b c d none first second both old new i h l =
    rw (drop_all i old (omega arith), drop_all i new (omega arith)) (at_end none first second both)

at_start : (n p q b : Bool) → ((true && n) || ((false && p) || ((false && q) || (false && b)))) ≡ n
at_start n p q b = grind arith

pub two_first : (a b c d : ℕ) (old new : List ℕ) → is_left_over a b c d true false false false old new ≡ is_two_changes a b c d old new
two_first a b c d old new =
    at_start (is_two_changes a b c d old new) (is_one_change b d old new) (is_one_change a c old new) (is_same old new)

-- the tests and the moves

eq_of : (x y : ℕ) → (x == y) ≡ true → x ≡ y
eq_of x y h = (Decides-eqb x y).0 h

eq_self : (x : ℕ) → (x == x) ≡ true
eq_self x = (Decides-eqb x x).1 refl

pub same_is : (old new : List ℕ) → is_same old new ≡ true → old ≡ new
same_is [] [] h = refl
same_is [] (y ∷ new) h = cc
same_is (x ∷ old) [] h = cc
same_is (x ∷ old) (y ∷ new) h =
    ap (λ z. z ∷ old) (eq_of x y ((and_parts (x == y) (is_same old new) h).0))
    ∙ ap (λ zs. y ∷ zs) (same_is old new ((and_parts (x == y) (is_same old new) h).1))

pub is_same_self : (xs : List ℕ) → is_same xs xs ≡ true
is_same_self [] = refl
is_same_self (x ∷ xs) = rw (eq_self x) (is_same_self xs)

record IsOneChange (a c : ℕ) (old new : List ℕ) : Type 0 where
  before : List ℕ
  after : List ℕ
  was : old ≡ before ++ a ∷ after
  becomes : new ≡ before ++ c ∷ after

two_parts : (x y a c : ℕ) (same : Bool) → (((x == a) && (y == c)) && same) ≡ true → (x ≡ a) × (y ≡ c) × (same ≡ true)
two_parts x y a c same h =
    let both = (and_parts ((x == a) && (y == c)) same h).0 in
    (eq_of x a ((and_parts (x == a) (y == c) both).0), eq_of y c ((and_parts (x == a) (y == c) both).1), (and_parts ((x == a) && (y == c)) same h).1)

one_found : (a c : ℕ) (old new : List ℕ) → is_one_change a c old new ≡ true → IsOneChange a c old new
one_found a c [] new h = cc
one_found a c (x ∷ old) [] h = cc
one_found a c (x ∷ old) (y ∷ new) h =
    elim (or_cases ((x == y) && is_one_change a c old new) (((x == a) && (y == c)) && is_same old new) h) [
      | inl stays ↦
          let later = one_found a c old new ((and_parts (x == y) (is_one_change a c old new) stays).1) in
          let same = eq_of x y ((and_parts (x == y) (is_one_change a c old new) stays).0) in
          record {
            before = x ∷ later.before;
            after = later.after;
            was = ap (λ zs. x ∷ zs) later.was;
            becomes = ap (λ z. z ∷ new) (sym same) ∙ ap (λ zs. x ∷ zs) later.becomes;
          }
      | inr moves ↦
          let parts = two_parts x y a c (is_same old new) moves in
          record {
            before = [];
            after = old;
            was = ap (λ z. z ∷ old) parts.0;
            becomes = ap (λ z. z ∷ new) parts.1 ∙ ap (λ zs. c ∷ zs) (sym (same_is old new parts.2));
          }
    ]

pub two_found : (a b c d : ℕ) (old new : List ℕ) → is_two_changes a b c d old new ≡ true → IsTwoMove a b c d old new
two_found a b c d [] new h = cc
two_found a b c d (x ∷ old) [] h = cc
two_found a b c d (x ∷ old) (y ∷ new) h =
    elim (or_cases ((x == y) && is_two_changes a b c d old new) _ h) [
      | inl stays ↦
          let same = eq_of x y ((and_parts (x == y) (is_two_changes a b c d old new) stays).0) in
          elim (two_found a b c d old new ((and_parts (x == y) (is_two_changes a b c d old new) stays).1)) [
            | inl later ↦ inl (more a b c d x y old new same later)
            | inr later ↦ inr (more b a d c x y old new same later)
          ]
      | inr moves ↦
          elim (or_cases (((x == a) && (y == c)) && is_one_change b d old new) _ moves) [
            | inl first ↦
                let parts = two_parts x y a c (is_one_change b d old new) first in
                inl (begins a b c d x y old new parts.0 parts.1 (one_found b d old new parts.2))
            | inr second ↦
                let parts = two_parts x y b d (is_one_change a c old new) second in
                inr (begins b a d c x y old new parts.0 parts.1 (one_found a c old new parts.2))
          ]
    ]
  where
    more : (a b c d x y : ℕ) (old new : List ℕ) → x ≡ y → ChangesTwo a b c d old new → ChangesTwo a b c d (x ∷ old) (y ∷ new)
    more a b c d x y old new same later =
        record {
          before = x ∷ later.before;
          between = later.between;
          after = later.after;
          was = ap (λ zs. x ∷ zs) later.was;
          becomes = ap (λ z. z ∷ new) (sym same) ∙ ap (λ zs. x ∷ zs) later.becomes;
        }

    begins : (a b c d x y : ℕ) (old new : List ℕ) → x ≡ a → y ≡ c → IsOneChange b d old new → ChangesTwo a b c d (x ∷ old) (y ∷ new)
    begins a b c d x y old new e f later =
        record {
          before = [];
          between = later.before;
          after = later.after;
          was = ap (λ z. z ∷ old) e ∙ ap (λ zs. a ∷ zs) later.was;
          becomes = ap (λ z. z ∷ new) f ∙ ap (λ zs. c ∷ zs) later.becomes;
        }

one_given : (a c : ℕ) (before after : List ℕ) → is_one_change a c (before ++ a ∷ after) (before ++ c ∷ after) ≡ true
one_given a c [] after =
    or_right _ (((a == a) && (c == c)) && is_same after after)
    (and_from ((a == a) && (c == c)) (is_same after after) (and_from (a == a) (c == c) (eq_self a) (eq_self c)) (is_same_self after))
one_given a c (x ∷ before) after =
    or_left ((x == x) && is_one_change a c (before ++ a ∷ after) (before ++ c ∷ after)) _
    (and_from (x == x) _ (eq_self x) (one_given a c before after))

first_given : (a b c d : ℕ) (before between after : List ℕ) →
    is_two_changes a b c d (before ++ a ∷ (between ++ b ∷ after)) (before ++ c ∷ (between ++ d ∷ after)) ≡ true
first_given a b c d [] between after =
    or_right _ _ (or_left (((a == a) && (c == c)) && is_one_change b d (between ++ b ∷ after) (between ++ d ∷ after)) _
    (and_from ((a == a) && (c == c)) _ (and_from (a == a) (c == c) (eq_self a) (eq_self c)) (one_given b d between after)))
first_given a b c d (x ∷ before) between after =
    or_left ((x == x) && is_two_changes a b c d (before ++ a ∷ (between ++ b ∷ after)) (before ++ c ∷ (between ++ d ∷ after))) _
    (and_from (x == x) _ (eq_self x) (first_given a b c d before between after))

second_given : (a b c d : ℕ) (before between after : List ℕ) →
    is_two_changes a b c d (before ++ b ∷ (between ++ a ∷ after)) (before ++ d ∷ (between ++ c ∷ after)) ≡ true
second_given a b c d [] between after =
    or_right _ _ (or_right _ (((b == b) && (d == d)) && is_one_change a c (between ++ a ∷ after) (between ++ c ∷ after))
    (and_from ((b == b) && (d == d)) _ (and_from (b == b) (d == d) (eq_self b) (eq_self d)) (one_given a c between after)))
second_given a b c d (x ∷ before) between after =
    or_left ((x == x) && is_two_changes a b c d (before ++ b ∷ (between ++ a ∷ after)) (before ++ d ∷ (between ++ c ∷ after))) _
    (and_from (x == x) _ (eq_self x) (second_given a b c d before between after))

pub two_given : (a b c d : ℕ) (old new : List ℕ) → IsTwoMove a b c d old new → is_two_changes a b c d old new ≡ true
two_given a b c d old new (inl m) = rw (m.was, m.becomes) (first_given a b c d m.before m.between m.after)
two_given a b c d old new (inr m) = rw (m.was, m.becomes) (second_given a b c d m.before m.between m.after)

pub two_length : (a b c d : ℕ) (old new : List ℕ) → is_two_changes a b c d old new ≡ true → length old ≡ length new
two_length a b c d old new h = lengths (two_found a b c d old new h)
  where
    one_length : (between after : List ℕ) (b d : ℕ) → length (between ++ b ∷ after) ≡ length (between ++ d ∷ after)
    one_length [] after b d = refl
    one_length (x ∷ between) after b d = ap suc (one_length between after b d)

    cut_length : (before between after : List ℕ) (a b c d : ℕ) →
        length (before ++ a ∷ (between ++ b ∷ after)) ≡ length (before ++ c ∷ (between ++ d ∷ after))
    cut_length [] between after a b c d = ap suc (one_length between after b d)
    cut_length (x ∷ before) between after a b c d = ap suc (cut_length before between after a b c d)

    lengths : IsTwoMove a b c d old new → length old ≡ length new
    lengths (inl m) = ap length m.was ∙ cut_length m.before m.between m.after a b c d ∙ sym (ap length m.becomes)
    lengths (inr m) = ap length m.was ∙ cut_length m.before m.between m.after b a d c ∙ sym (ap length m.becomes)
