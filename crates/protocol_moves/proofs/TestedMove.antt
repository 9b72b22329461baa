-- What the tests of moves compute, by extents.
use Rattle.std.proofs.Common.{◌≡◌, ◌==◌, ℕ, zero, suc, ◌+◌, ◌-◌, ◌<◌, ◌≤◌, min, Bool, true, false, List, [], ◌∷◌, length, refl, ap, sym, subst, ◌∙◌, ◌&&◌, not, nat_lt, arith, take, drop, set, get_or, add-one, map, if◌then◌else◌}
use Rattle.std.specs.List.{list_all}
use Rattle.protocol_model.specs.System.{Guard}
use Rattle.protocol_moves.specs.declared.extent.Extent.{Extent}
use Rattle.protocol_model.specs.Moves.{table_value, guard_holds}
use Rattle.protocol_moves.specs.private.Extents.{is_marked, IsExtent, is_hit, changes, is_at, is_pair_at, HaveExtents, all_hold}
use Rattle.protocol_moves.specs.private.Gathering.{alone_if, at_changed}
use Rattle.protocol_moves.proofs.ExtentLemmas.{IsExtentTo, more_marks, no_more_marks}
use Rattle.protocol_moves.proofs.OneMove.{guard_at, length_changes}

pub mark_turn : (marks : List Bool) (k first last first' last' : ℕ) (m : Bool) → k < length marks → get_or marks k false ≡ m →
    first' ≡ (if m then min first k else first) → last' ≡ (if m then k else last) →
    IsExtentTo marks k first last → IsExtentTo marks (k + 1) first' last'
mark_turn marks k first last first' last' true h e f l x = rw (f, l) (more_marks marks k first last h e x)
mark_turn marks k first last first' last' false h e f l x = rw (f, l) (no_more_marks marks k first last h e x)

pub get_change : (table : List (ℕ × ℕ)) (old new : List ℕ) (k : ℕ) → k < length old → length old ≡ length new →
    get_or (changes table old new) k false ≡ not (table_value table (get_or old k 0) == get_or new k 0)
get_change table [] new k h l = absurd (omega arith)
get_change table (x ∷ old) [] k h l = absurd (omega arith)
get_change table (x ∷ old) (y ∷ new) zero h l = refl
get_change table (x ∷ old) (y ∷ new) (suc k) h l = get_change table old new k (omega arith) (omega arith)

push_one : (guards : List Guard) (extents : List Extent) (list : List ℕ) (k : ℕ) (g : Guard) (e : Extent) →
    k < length guards → k < length extents → g ≡ get_or guards k g → HaveExtents (take k guards) extents list →
    IsExtent (map (is_hit g) list) e.first e.last → HaveExtents (take (suc k) guards) (set extents k e) list
push_one [] extents list k g e h l is have x = absurd (omega arith)
push_one (g' ∷ guards) [] list k g e h l is have x = absurd (omega arith)
push_one (g' ∷ guards) (e' ∷ extents) list zero g e h l is have x =
    (subst (λ guard. IsExtent (map (is_hit guard) list) e.first e.last) is x, tt)
push_one (g' ∷ guards) (e' ∷ extents) list (suc k) g e h l is have x =
    (have.0, push_one guards extents list k g e (omega arith) (omega arith) is have.1 x)

pub extents_push : (guards : List Guard) (extents : List Extent) (list : List ℕ) (k : ℕ) (g : Guard) (e : Extent) →
    k < length guards → k < length extents → g ≡ get_or guards k g → HaveExtents (take k guards) extents list →
    IsExtent (map (is_hit g) list) e.first e.last → HaveExtents (take (k + 1) guards) (set extents k e) list
extents_push guards extents list k g e h l is have x = rw (add-one k) (push_one guards extents list k g e h l is have x)

pub all_hold_is : (guards : List Guard) (extents : List Extent) (list : List ℕ) (i : ℕ) → HaveExtents guards extents list → i < length list →
    all_hold guards extents i ≡ list_all (guard_holds (take i list) (drop (i + 1) list)) guards
all_hold_is [] extents list i have h = refl
all_hold_is (guard ∷ guards) [] list i have h = absurd have
all_hold_is (guard ∷ guards) (extent ∷ extents) list i have h =
    ap (λ b. b && all_hold guards extents i) (guard_at guard list extent.first extent.last i have.0 h)
    ∙ ap (λ b. guard_holds (take i list) (drop (i + 1) list) guard && b) (all_hold_is guards extents list i have.1 h)

group : (o n b a h : Bool) → (((o && n) && (b && a)) && h) ≡ (o && (n && (b && (a && h))))
group o n b a h = grind arith

pub at_by : (f t : ℕ) (guards : List Guard) (table : List (ℕ × ℕ)) (old new : List ℕ) (i first last : ℕ) (extents : List Extent) →
    length old ≡ length new → i < length old → IsExtent (changes table old new) first last → HaveExtents guards extents old →
    ((((get_or old i 0 == f) && (get_or new i 0 == t)) && (not (nat_lt first i) && not (nat_lt i last))) && all_hold guards extents i)
    ≡ is_at f t guards table old new i
at_by f t guards table old new i first last extents l h x have =
    let long = length_changes table old new l in
    group (get_or old i 0 == f) (get_or new i 0 == t) (not (nat_lt first i)) (not (nat_lt i last)) (all_hold guards extents i)
    ∙ ap (λ b. (get_or old i 0 == f) && ((get_or new i 0 == t) && (not b && (not (nat_lt i last) && all_hold guards extents i))))
    (sym (x.before i (omega (arith, long))))
    ∙ ap (λ b. (get_or old i 0 == f) && ((get_or new i 0 == t) && (not (is_marked (take i (changes table old new))) && (not b && all_hold guards extents i))))
    (sym (x.after i (omega (arith, long))))
    ∙ ap (λ b. (get_or old i 0 == f) && ((get_or new i 0 == t) && (not (is_marked (take i (changes table old new)))
    && (not (is_marked (drop (i + 1) (changes table old new))) && b))))
    (all_hold_is guards extents old i have h)

group_pair : (oa nc ob nd b a : Bool) → (((oa && nc) && (ob && nd)) && (b && a)) ≡ (oa && (ob && (nc && (nd && (b && a)))))
group_pair oa nc ob nd b a = grind arith

pub pair_by : (a b c d : ℕ) (old new : List ℕ) (i first last : ℕ) → length old ≡ length new → i + 1 < length old →
    IsExtent (changes [] old new) first last →
    ((((get_or old i 0 == a) && (get_or new i 0 == c)) && ((get_or old (i + 1) 0 == b) && (get_or new (i + 1) 0 == d)))
    && (not (nat_lt first i) && not (nat_lt (i + 1) last)))
    ≡ is_pair_at a b c d old new i
pair_by a b c d old new i first last l h x =
    let long = length_changes [] old new l in
    let next : i + 1 + 1 ≡ i + 2 = omega arith in
    let after : is_marked (drop (i + 2) (changes [] old new)) ≡ nat_lt (i + 1) last =
    ap (λ k. is_marked (drop k (changes [] old new))) (sym next) ∙ x.after (i + 1) (omega (arith, long)) in
    rw (x.before i (omega (arith, long)), after)
    (group_pair (get_or old i 0 == a) (get_or new i 0 == c) (get_or old (i + 1) 0 == b) (get_or new (i + 1) 0 == d)
    (not (nat_lt first i)) (not (nat_lt (i + 1) last)))

-- the same, at the second of the two positions
pub pair_turn : (a b c d : ℕ) (old new : List ℕ) (i first last : ℕ) → length old ≡ length new → 1 ≤ i → i < length old →
    IsExtent (changes [] old new) first last →
    ((((get_or old (i - 1) 0 == a) && (get_or new (i - 1) 0 == c)) && ((get_or old i 0 == b) && (get_or new i 0 == d)))
    && (not (nat_lt first (i - 1)) && not (nat_lt i last)))
    ≡ is_pair_at a b c d old new (i - 1)
pair_turn a b c d old new i first last l low h x =
    let next : i - 1 + 1 ≡ i = omega arith in
    subst (λ k. ((((get_or old (i - 1) 0 == a) && (get_or new (i - 1) 0 == c)) && ((get_or old k 0 == b) && (get_or new k 0 == d)))
    && (not (nat_lt first (i - 1)) && not (nat_lt k last))) ≡ is_pair_at a b c d old new (i - 1)) next
    (pair_by a b c d old new (i - 1) first last l (omega arith) x)

pub three_hold : (moves stays holds within all : Bool) {answer : Bool} → stays ≡ within → holds ≡ all → ((moves && stays) && holds) ≡ answer →
    ((moves && within) && all) ≡ answer
three_hold moves stays holds within all e f h = rw (← e, ← f) h

pub two_hold : (moves stays within : Bool) {answer : Bool} → stays ≡ within → (moves && stays) ≡ answer → (moves && within) ≡ answer
two_hold moves stays within e h = rw (← e) h

pub at_step : (f t : ℕ) (guards : List Guard) (table : List (ℕ × ℕ)) (list others : List ℕ) (extents : List Extent) (i : ℕ) (holds : Bool) →
    HaveExtents guards extents list → i < length list → others ≡ map (table_value table) list → holds ≡ all_hold guards extents i →
    alone_if ((get_or list i 0 == f) && holds) (set others i t) ≡ at_changed f t guards table list i
at_step f t guards table list others extents i holds have h e k =
    ap (λ xs. alone_if ((get_or list i 0 == f) && holds) (set xs i t)) e
    ∙ ap (λ b. alone_if ((get_or list i 0 == f) && b) (set (map (table_value table) list) i t))
    (k ∙ all_hold_is guards extents list i have h)
