-- The simulation of a pattern's atoms is the definition of a match.
use Rattle.std.proofs.Common.{◌≡◌, ℕ, zero, suc, ◌+◌, ◌<◌, ◌≤◌, Bool, true, false, List, [], ◌∷◌, length, refl, ap, sym, ◌∙◌, ◌||◌, ◌&&◌, ◌==◌, arith, replicate, take, drop, set, get_or, ◌++◌}
use Rattle.std.proofs.lemmas.List.{take-set, drop-set, take-append-drop, drop_all}
use Rattle.protocol_syntax.specs.declared.protocol.Many.{Many}
use Rattle.protocol_syntax.specs.declared.protocol.Many.TheVariants.{One, Star, Plus}
use Rattle.protocol_model.specs.declared.system.Atom.{Atom}
use Rattle.protocol_model.specs.Moves.{is_in}
use Rattle.protocol_model.specs.Patterns.{atoms_match, starred, repeated}
use Rattle.protocol_moves.specs.private.Simulation.{is_passed, is_kept, is_left, begun_after, going_after, reaches_end}
use Rattle.protocol_moves.proofs.Lists.{drop_more}

-- whether the rest of the list can be matched from some atom that is begun or going on
abbrev pub can_match : List Atom → List Bool → List Bool → List ℕ → Bool
can_match atoms [] going w = false
can_match [] (b ∷ begun) going w = b && (length w == 0)
can_match (atom ∷ atoms) (b ∷ begun) [] w = false
can_match (atom ∷ atoms) (b ∷ begun) (o ∷ going) w =
    (b && atoms_match (atom ∷ atoms) w)
    || ((o && starred (is_in atom.letters) (atoms_match atoms) w) || can_match atoms begun going w)

step_one : (i b r o st mw m na res : Bool) →
    (na || (((i && o) && st) || (((i && (b || r)) && mw) || ((o && m) || res))))
    ≡ (na || ((r && (i && mw)) || ((b && (i && mw)) || ((o && (m || (i && st))) || res))))
step_one i b r o st mw m na res = grind arith

step_star : (i b r o st mw m na res : Bool) →
    (na || (((i && ((b || r) || o)) && st) || (((i && false) && mw) || ((((b || r) || o) && m) || res))))
    ≡ (na || ((r && (m || (i && st))) || ((b && (m || (i && st))) || ((o && (m || (i && st))) || res))))
step_star i b r o st mw m na res = grind arith

step_plus : (i b r o st mw m na res : Bool) →
    (na || (((i && ((b || r) || o)) && st) || (((i && false) && mw) || ((o && m) || res))))
    ≡ (na || ((r && (i && st)) || ((b && (i && st)) || ((o && (m || (i && st))) || res))))
step_plus i b r o st mw m na res = grind arith

-- one atom at one letter
step : (many : Many) (letter : ℕ → Bool) (rest : List ℕ → Bool) (x : ℕ) (w : List ℕ) (b r o na res : Bool) →
    (na || (((letter x && is_kept many (b || r) o) && starred letter rest w)
    || (((letter x && is_left many (b || r)) && rest w) || ((is_passed many (b || r) o && rest (x ∷ w)) || res))))
    ≡ (na || ((r && repeated many letter rest (x ∷ w))
    || ((b && repeated many letter rest (x ∷ w)) || ((o && starred letter rest (x ∷ w)) || res))))
step One letter rest x w b r o na res = step_one (letter x) b r o (starred letter rest w) (rest w) (rest (x ∷ w)) na res
step Star letter rest x w b r o na res = step_star (letter x) b r o (starred letter rest w) (rest w) (rest (x ∷ w)) na res
step Plus letter rest x w b r o na res = step_plus (letter x) b r o (starred letter rest w) (rest w) (rest (x ∷ w)) na res

not_zero : (n : ℕ) → (suc n == 0) ≡ false
not_zero n = grind arith

last_step : (na r b f : Bool) → f ≡ false → na ≡ (na || ((r && f) || (b && f)))
last_step na r b f h = rw h (grind arith)

-- after a letter the rest can be matched exactly where the letter and the rest could
pub after_letter : (x : ℕ) (reached next : Bool) (atoms : List Atom) (begun going : List Bool) (w : List ℕ) →
    length atoms < length begun → length atoms ≤ length going →
    can_match atoms (begun_after x reached next atoms begun going) (going_after x reached atoms begun going) w
    ≡ ((next && atoms_match atoms w) || ((reached && atoms_match atoms (x ∷ w)) || can_match atoms begun going (x ∷ w)))
after_letter x reached next [] [] going w h k = absurd (omega arith)
after_letter x reached next [] (b ∷ begun) going w h k =
    last_step (next && (length w == 0)) reached b (length (x ∷ w) == 0) (not_zero (length w))
after_letter x reached next (atom ∷ atoms) [] going w h k = absurd (omega arith)
after_letter x reached next (atom ∷ atoms) (b ∷ begun) [] w h k = absurd (omega arith)
after_letter x reached next (atom ∷ atoms) (b ∷ begun) (o ∷ going) w h k =
    let letter = is_in atom.letters in
    let rest = atoms_match atoms in
    let na = next && atoms_match (atom ∷ atoms) w in
    ap (λ c. na || (((letter x && is_kept atom.many (b || reached) o) && starred letter rest w) || c))
    (after_letter x (is_passed atom.many (b || reached) o) (letter x && is_left atom.many (b || reached)) atoms begun going w (omega arith) (omega arith))
    ∙ step atom.many letter rest x w b reached o na (can_match atoms begun going (x ∷ w))

end_step : (many : Many) (letter : ℕ → Bool) (rest : List ℕ → Bool) (b r o res : Bool) →
    ((is_passed many (b || r) o && rest []) || res)
    ≡ ((r && repeated many letter rest []) || ((b && repeated many letter rest []) || ((o && starred letter rest []) || res)))
end_step One letter rest b r o res = end_other (rest []) b r o res
  where
    end_other : (m b r o res : Bool) → ((o && m) || res) ≡ ((r && false) || ((b && false) || ((o && m) || res)))
    end_other m b r o res = grind arith
end_step Star letter rest b r o res = end_star (rest []) b r o res
  where
    end_star : (m b r o res : Bool) → ((((b || r) || o) && m) || res) ≡ ((r && m) || ((b && m) || ((o && m) || res)))
    end_star m b r o res = grind arith
end_step Plus letter rest b r o res = end_other (rest []) b r o res
  where
    end_other : (m b r o res : Bool) → ((o && m) || res) ≡ ((r && false) || ((b && false) || ((o && m) || res)))
    end_other m b r o res = grind arith

last_end : (b r : Bool) → (b || r) ≡ ((r && true) || (b && true))
last_end b r = grind arith

pub at_end : (reached : Bool) (atoms : List Atom) (begun going : List Bool) → length atoms < length begun → length atoms ≤ length going →
    reaches_end reached atoms begun going ≡ ((reached && atoms_match atoms []) || can_match atoms begun going [])
at_end reached [] [] going h k = absurd (omega arith)
at_end reached [] (b ∷ begun) going h k = last_end b reached
at_end reached (atom ∷ atoms) [] going h k = absurd (omega arith)
at_end reached (atom ∷ atoms) (b ∷ begun) [] h k = absurd (omega arith)
at_end reached (atom ∷ atoms) (b ∷ begun) (o ∷ going) h k =
    at_end (is_passed atom.many (b || reached) o) atoms begun going (omega arith) (omega arith)
    ∙ end_step atom.many (is_in atom.letters) (atoms_match atoms) b reached o (can_match atoms begun going [])

-- no atom is begun and none goes on
none_begun : (atoms : List Atom) (n m : ℕ) (w : List ℕ) → can_match atoms (replicate n false) (replicate m false) w ≡ false
none_begun atoms zero m w = refl
none_begun [] (suc n) m w = refl
none_begun (atom ∷ atoms) (suc n) zero w = refl
none_begun (atom ∷ atoms) (suc n) (suc m) w = none_begun atoms n m w

or_false : (b c : Bool) → c ≡ false → (b || c) ≡ b
or_false true c h = refl
or_false false c h = h

-- only the first atom is begun
pub first_begun : (atoms : List Atom) (n m : ℕ) (w : List ℕ) → length atoms ≤ m →
    can_match atoms (true ∷ replicate n false) (replicate m false) w ≡ atoms_match atoms w
first_begun [] n m w h = refl
first_begun (atom ∷ atoms) n zero w h = absurd (omega arith)
first_begun (atom ∷ atoms) n (suc m) w h =
    or_false (atoms_match (atom ∷ atoms) w) (can_match atoms (replicate n false) (replicate m false) w) (none_begun atoms n m w)

-- the end of that loop
pub begun_last : (x : ℕ) (reached next : Bool) (atoms : List Atom) (j : ℕ) (begun going : List Bool) →
    j ≡ length atoms → length atoms < length begun →
    (take j begun ++ begun_after x reached next (drop j atoms) (drop j begun) (drop j going)) ≡ set begun j next
begun_last x reached next atoms j begun going e k =
    let head : begun_after x reached next (drop j atoms) (drop j begun) (drop j going) ≡ next ∷ drop (j + 1) begun =
    rw (drop_all j atoms (omega arith), drop_more begun j false (omega arith)) refl in
    ap (λ ys. take j begun ++ ys) head
    ∙ sym (sym (take-append-drop j (set begun j next))
    ∙ ap (λ ys. ys ++ drop j (set begun j next)) (take-set begun j next)
    ∙ ap (λ ys. take j begun ++ ys) (drop-set begun j next (omega arith)))

pub going_last : (x : ℕ) (reached : Bool) (atoms : List Atom) (j : ℕ) (begun going : List Bool) →
    j ≡ length atoms → length atoms < length begun →
    (take j going ++ going_after x reached (drop j atoms) (drop j begun) (drop j going)) ≡ going
going_last x reached atoms j begun going e k =
    let head : going_after x reached (drop j atoms) (drop j begun) (drop j going) ≡ drop j going =
    rw (drop_all j atoms (omega arith), drop_more begun j false (omega arith)) (at_last x reached (get_or begun j false) (drop (j + 1) begun) (drop j going)) in
    ap (λ ys. take j going ++ ys) head ∙ take-append-drop j going
  where
    at_last : (x : ℕ) (reached b : Bool) (begun going : List Bool) → going_after x reached [] (b ∷ begun) going ≡ going
    at_last x reached b begun [] = refl
    at_last x reached b begun (o ∷ going) = refl
