-- Moves at one position and at two neighbours, found from extents.
use Rattle.std.proofs.Common.{◌≡◌, ◌==◌, ℕ, zero, suc, ◌+◌, ◌<◌, ◌≤◌, Bool, true, false, List, [], ◌∷◌, ◌++◌, length, refl, ap, sym, subst, ◌∙◌, ◌||◌, ◌&&◌, not, nat_lt, arith, take, drop, get_or, map, if◌then◌else◌, IsTrue}
use Rattle.std.specs.List.{list_any, list_all}
use Rattle.std.proofs.Math.Seq.{take-append_seam, drop-append-add}
use Rattle.std.proofs.lemmas.List.{take-append-drop}
use Rattle.std.proofs.lemmas.List.Folds.{list_any-append}
use Rattle.std.proofs.lemmas.Bool.Decides.{Decides-eqb}
use Rattle.protocol_syntax.specs.declared.protocol.Region.{Region}
use Rattle.protocol_syntax.specs.declared.protocol.Region.TheVariants.{Left, Right, Others}
use Rattle.protocol_model.specs.System.{Guard}
use Rattle.protocol_model.specs.Moves.{is_in, table_value, guard_holds, region_letters, IsAtMove, IsPairMove}
use Rattle.protocol_model.proofs.ForCallers.{list_any_map}
use Rattle.protocol_moves.specs.private.Extents.{is_marked, IsExtent, is_hit, changes, is_region_hit, holds_at, is_at, is_pair_at}
use Rattle.protocol_moves.proofs.Lists.{drop_more}
use Rattle.std.proofs.lemmas.List.{length-map, length-take-le}
use Rattle.std.proofs.lemmas.Bool.{and_parts, not-true}

pub take_map : {X Y : Type 0} (f : X → Y) (i : ℕ) (xs : List X) → take i (map f xs) ≡ map f (take i xs)
take_map f zero xs = refl
take_map f (suc i) [] = refl
take_map f (suc i) (x ∷ xs) = ap (λ ys. f x ∷ ys) (take_map f i xs)

pub drop_map : {X Y : Type 0} (f : X → Y) (i : ℕ) (xs : List X) → drop i (map f xs) ≡ map f (drop i xs)
drop_map f zero xs = refl
drop_map f (suc i) [] = refl
drop_map f (suc i) (x ∷ xs) = drop_map f i xs

-- guards

none_outside : (p : ℕ → Bool) (xs : List ℕ) → not (list_any (λ x. not (p x)) xs) ≡ list_all p xs
none_outside p [] = refl
none_outside p (x ∷ xs) = de_morgan (p x) (list_any (λ y. not (p y)) xs) ∙ ap (λ b. p x && b) (none_outside p xs)
  where
    de_morgan : (a b : Bool) → not (not a || b) ≡ (a && not b)
    de_morgan true b = refl
    de_morgan false b = refl

hits_in : (all : Bool) (p : ℕ → Bool) (xs : List ℕ) →
    (if all then not (list_any (λ x. if all then not (p x) else p x) xs) else list_any (λ x. if all then not (p x) else p x) xs)
    ≡ (if all then list_all p xs else list_any p xs)
hits_in true p xs = none_outside p xs
hits_in false p xs = refl

region_hits : (region : Region) (h : ℕ → Bool) (before after : List ℕ) →
    is_region_hit region (list_any h before) (list_any h after) ≡ list_any h (region_letters region before after)
region_hits Left h before after = refl
region_hits Right h before after = refl
region_hits Others h before after = sym (list_any-append h before after)

pub guard_at : (guard : Guard) (list : List ℕ) (first last i : ℕ) → IsExtent (map (is_hit guard) list) first last → i < length list →
    holds_at guard (nat_lt first i) (nat_lt i last) ≡ guard_holds (take i list) (drop (i + 1) list) guard
guard_at guard list first last i e h =
    let hit = is_hit guard in
    let before : nat_lt first i ≡ list_any hit (take i list) =
    sym (e.before i (omega (arith, length-map list hit))) ∙ ap is_marked (take_map hit i list) ∙ list_any_map (λ m. m) hit (take i list) in
    let after : nat_lt i last ≡ list_any hit (drop (i + 1) list) =
    sym (e.after i (omega (arith, length-map list hit))) ∙ ap is_marked (drop_map hit (i + 1) list) ∙ list_any_map (λ m. m) hit (drop (i + 1) list) in
    rw (before, after, region_hits guard.region hit (take i list) (drop (i + 1) list))
    (hits_in guard.all (is_in guard.letters) (region_letters guard.region (take i list) (drop (i + 1) list)))

-- changes

changes_take : (table : List (ℕ × ℕ)) (i : ℕ) (old new : List ℕ) → take i (changes table old new) ≡ changes table (take i old) (take i new)
changes_take table zero old new = refl
changes_take table (suc i) [] new = refl
changes_take table (suc i) (x ∷ old) [] = refl
changes_take table (suc i) (x ∷ old) (y ∷ new) = ap (λ ms. not (table_value table x == y) ∷ ms) (changes_take table i old new)

changes_empty : (table : List (ℕ × ℕ)) (old : List ℕ) → changes table old [] ≡ []
changes_empty table [] = refl
changes_empty table (x ∷ old) = refl

changes_drop : (table : List (ℕ × ℕ)) (i : ℕ) (old new : List ℕ) → drop i (changes table old new) ≡ changes table (drop i old) (drop i new)
changes_drop table zero old new = refl
changes_drop table (suc i) [] new = refl
changes_drop table (suc i) (x ∷ old) [] = sym (changes_empty table (drop i old))
changes_drop table (suc i) (x ∷ old) (y ∷ new) = changes_drop table i old new

pub length_changes : (table : List (ℕ × ℕ)) (old new : List ℕ) → length old ≡ length new → length (changes table old new) ≡ length old
length_changes table [] new h = refl
length_changes table (x ∷ old) [] h = absurd (omega arith)
length_changes table (x ∷ old) (y ∷ new) h = ap suc (length_changes table old new (omega arith))

or_first : (a b : Bool) → (not a || b) ≡ false → a ≡ true
or_first true b h = refl
or_first false b h = cc

or_second : (a b : Bool) → (not a || b) ≡ false → b ≡ false
or_second true b h = h
or_second false b h = cc

changes_none : (table : List (ℕ × ℕ)) (old new : List ℕ) → length old ≡ length new → is_marked (changes table old new) ≡ false →
    new ≡ map (table_value table) old
changes_none table [] [] h n = refl
changes_none table [] (y ∷ new) h n = absurd (omega arith)
changes_none table (x ∷ old) [] h n = absurd (omega arith)
changes_none table (x ∷ old) (y ∷ new) h n =
    let same : table_value table x ≡ y =
    (Decides-eqb (table_value table x) y).0 (or_first (table_value table x == y) (is_marked (changes table old new)) n) in
    ap (λ z. z ∷ new) (sym same)
    ∙ ap (λ zs. table_value table x ∷ zs) (changes_none table old new (omega arith) (or_second (table_value table x == y) (is_marked (changes table old new)) n))

changes_of_map : (table : List (ℕ × ℕ)) (old : List ℕ) → is_marked (changes table old (map (table_value table) old)) ≡ false
changes_of_map table [] = refl
changes_of_map table (x ∷ old) =
    rw ((Decides-eqb (table_value table x) (table_value table x)).1 refl) (changes_of_map table old)

-- cuts

pub split_at : (xs : List ℕ) (i : ℕ) → i < length xs → xs ≡ take i xs ++ get_or xs i 0 ∷ drop (i + 1) xs
split_at xs i h = sym (take-append-drop i xs) ∙ ap (λ ys. take i xs ++ ys) (drop_more xs i 0 h)

pub get_seam : (xs ys : List ℕ) (y : ℕ) → get_or (xs ++ y ∷ ys) (length xs) 0 ≡ y
get_seam [] ys y = refl
get_seam (x ∷ xs) ys y = get_seam xs ys y

length_drop : (k : ℕ) (xs ys : List ℕ) → length xs ≡ length ys → length (drop k xs) ≡ length (drop k ys)
length_drop zero xs ys h = h
length_drop (suc k) [] [] h = refl
length_drop (suc k) [] (y ∷ ys) h = absurd (omega arith)
length_drop (suc k) (x ∷ xs) [] h = absurd (omega arith)
length_drop (suc k) (x ∷ xs) (y ∷ ys) h = length_drop k xs ys (omega arith)

is_true : (b : Bool) → b ≡ true → IsTrue b
is_true b h = h

true_is : (b : Bool) → IsTrue b → b ≡ true
true_is b h = h

-- without a change in a part, the part is what the table makes of the old one
part_before : (table : List (ℕ × ℕ)) (old new : List ℕ) (i : ℕ) → length old ≡ length new → i ≤ length old →
    is_marked (take i (changes table old new)) ≡ false → take i new ≡ map (table_value table) (take i old)
part_before table old new i h l n =
    changes_none table (take i old) (take i new) (length-take-le i old l ∙ sym (length-take-le i new (omega arith)))
    (rw (← changes_take table i old new) n)

part_after : (table : List (ℕ × ℕ)) (old new : List ℕ) (i : ℕ) → length old ≡ length new →
    is_marked (drop i (changes table old new)) ≡ false → drop i new ≡ map (table_value table) (drop i old)
part_after table old new i h n =
    changes_none table (drop i old) (drop i new) (length_drop i old new h) (rw (← changes_drop table i old new) n)

pub at_found : (f t : ℕ) (guards : List Guard) (table : List (ℕ × ℕ)) (old new : List ℕ) (i : ℕ) → length old ≡ length new → i < length old →
    is_at f t guards table old new i ≡ true → IsAtMove f t guards table old new
at_found f t guards table old new i h l e =
    let was : get_or old i 0 ≡ f = (Decides-eqb (get_or old i 0) f).0 ((and_parts (get_or old i 0 == f) _ e).0) in
    let e1 = (and_parts (get_or old i 0 == f) _ e).1 in
    let becomes : get_or new i 0 ≡ t = (Decides-eqb (get_or new i 0) t).0 ((and_parts (get_or new i 0 == t) _ e1).0) in
    let e2 = (and_parts (get_or new i 0 == t) _ e1).1 in
    let none_before = not-true (is_marked (take i (changes table old new))) ((and_parts (not (is_marked (take i (changes table old new)))) _ e2).0) in
    let e3 = (and_parts (not (is_marked (take i (changes table old new)))) _ e2).1 in
    let none_after = not-true (is_marked (drop (i + 1) (changes table old new))) ((and_parts (not (is_marked (drop (i + 1) (changes table old new)))) _ e3).0) in
    let guarded = (and_parts (not (is_marked (drop (i + 1) (changes table old new)))) _ e3).1 in
    record {
      before = take i old;
      after = drop (i + 1) old;
      was = split_at old i l ∙ ap (λ x. take i old ++ x ∷ drop (i + 1) old) was;
      becomes =
          split_at new i (omega arith) ∙ ap (λ x. take i new ++ x ∷ drop (i + 1) new) becomes
          ∙ ap (λ ys. ys ++ t ∷ drop (i + 1) new) (part_before table old new i h (omega arith) none_before)
          ∙ ap (λ ys. map (table_value table) (take i old) ++ t ∷ ys) (part_after table old new (i + 1) h none_after);
      guarded = is_true (list_all (guard_holds (take i old) (drop (i + 1) old)) guards) guarded;
    }

at_given : (f t : ℕ) (guards : List Guard) (table : List (ℕ × ℕ)) (before after : List ℕ) → IsTrue (list_all (guard_holds before after) guards) →
    is_at f t guards table (before ++ f ∷ after) (map (table_value table) before ++ t ∷ map (table_value table) after) (length before) ≡ true
at_given f t guards table before after g =
    let tv = table_value table in
    let old = before ++ f ∷ after in
    let new = map tv before ++ t ∷ map tv after in
    let n = length before in
    let same : length (map tv before) ≡ n = length-map before tv in
    let take_new : take n new ≡ map tv before =
    subst (λ k. take k new ≡ map tv before) same (take-append_seam (map tv before) (t ∷ map tv after)) in
    let drop_new : drop (n + 1) new ≡ map tv after =
    subst (λ k. drop (k + 1) new ≡ map tv after) same (drop-append-add (map tv before) (t ∷ map tv after) 1) in
    let get_new : get_or new n 0 ≡ t = subst (λ k. get_or new k 0 ≡ t) same (get_seam (map tv before) (map tv after) t) in
    let take_old : take n old ≡ before = take-append_seam before (f ∷ after) in
    let drop_old : drop (n + 1) old ≡ after = drop-append-add before (f ∷ after) 1 in
    rw (
      get_seam before after f,
      get_new,
      (Decides-eqb f f).1 refl,
      (Decides-eqb t t).1 refl,
      changes_take table n old new,
      changes_drop table (n + 1) old new,
      take_old,
      drop_old,
      take_new,
      drop_new,
      changes_of_map table before,
      changes_of_map table after,
      true_is (list_all (guard_holds before after) guards) g,
    ) refl

pub length_seam : (xs ys : List ℕ) (y : ℕ) → length xs < length (xs ++ y ∷ ys)
length_seam [] ys y = omega arith
length_seam (x ∷ xs) ys y = omega (arith, length_seam xs ys y)

pub at_none : (f t : ℕ) (guards : List Guard) (table : List (ℕ × ℕ)) (old new : List ℕ) →
    ((i : ℕ) → i < length old → is_at f t guards table old new i ≡ false) → IsAtMove f t guards table old new → ⊥
at_none f t guards table old new h m =
    let given : is_at f t guards table old new (length m.before) ≡ true =
    rw (m.was, m.becomes) (at_given f t guards table m.before m.after m.guarded) in
    let within : length m.before < length old = rw m.was (length_seam m.before m.after f) in
    true_false (sym given ∙ h (length m.before) within)
  where
    true_false : true ≡ false → ⊥
    true_false e = cc

pub at_length : (f t : ℕ) (guards : List Guard) (table : List (ℕ × ℕ)) (old new : List ℕ) → IsAtMove f t guards table old new → length old ≡ length new
at_length f t guards table old new m =
    ap length m.was ∙ same_length m.before m.after f t ∙ sym (ap length m.becomes)
  where
    same_length : (before after : List ℕ) (f t : ℕ) → length (before ++ f ∷ after) ≡ length (map (table_value table) before ++ t ∷ map (table_value table) after)
    same_length [] after f t = ap suc (sym (length-map after (table_value table)))
    same_length (x ∷ before) after f t = ap suc (same_length before after f t)

-- two neighbours

map_nothing : (xs : List ℕ) → map (table_value []) xs ≡ xs
map_nothing [] = refl
map_nothing (x ∷ xs) = ap (λ ys. x ∷ ys) (map_nothing xs)

split_pair : (xs : List ℕ) (i : ℕ) → i + 1 < length xs → xs ≡ take i xs ++ get_or xs i 0 ∷ (get_or xs (i + 1) 0 ∷ drop (i + 2) xs)
split_pair xs i h =
    let next : i + 1 + 1 ≡ i + 2 = omega arith in
    split_at xs i (omega arith)
    ∙ ap (λ ys. take i xs ++ get_or xs i 0 ∷ ys) (drop_more xs (i + 1) 0 h)
    ∙ ap (λ k. take i xs ++ get_or xs i 0 ∷ (get_or xs (i + 1) 0 ∷ drop k xs)) next

pub pair_found : (a b c d : ℕ) (old new : List ℕ) (i : ℕ) → length old ≡ length new → i + 1 < length old →
    is_pair_at a b c d old new i ≡ true → IsPairMove a b c d old new
pair_found a b c d old new i h l e =
    let was_a : get_or old i 0 ≡ a = (Decides-eqb (get_or old i 0) a).0 ((and_parts (get_or old i 0 == a) _ e).0) in
    let e1 = (and_parts (get_or old i 0 == a) _ e).1 in
    let was_b : get_or old (i + 1) 0 ≡ b = (Decides-eqb (get_or old (i + 1) 0) b).0 ((and_parts (get_or old (i + 1) 0 == b) _ e1).0) in
    let e2 = (and_parts (get_or old (i + 1) 0 == b) _ e1).1 in
    let is_c : get_or new i 0 ≡ c = (Decides-eqb (get_or new i 0) c).0 ((and_parts (get_or new i 0 == c) _ e2).0) in
    let e3 = (and_parts (get_or new i 0 == c) _ e2).1 in
    let is_d : get_or new (i + 1) 0 ≡ d = (Decides-eqb (get_or new (i + 1) 0) d).0 ((and_parts (get_or new (i + 1) 0 == d) _ e3).0) in
    let e4 = (and_parts (get_or new (i + 1) 0 == d) _ e3).1 in
    let none_before = not-true (is_marked (take i (changes [] old new))) ((and_parts (not (is_marked (take i (changes [] old new)))) _ e4).0) in
    let none_after = not-true (is_marked (drop (i + 2) (changes [] old new))) ((and_parts (not (is_marked (take i (changes [] old new)))) _ e4).1) in
    record {
      before = take i old;
      after = drop (i + 2) old;
      was = split_pair old i l ∙ ap (λ x. take i old ++ x ∷ (get_or old (i + 1) 0 ∷ drop (i + 2) old)) was_a
          ∙ ap (λ x. take i old ++ a ∷ (x ∷ drop (i + 2) old)) was_b;
      becomes = split_pair new i (omega arith) ∙ ap (λ x. take i new ++ x ∷ (get_or new (i + 1) 0 ∷ drop (i + 2) new)) is_c
          ∙ ap (λ x. take i new ++ c ∷ (x ∷ drop (i + 2) new)) is_d
          ∙ ap (λ ys. ys ++ c ∷ (d ∷ drop (i + 2) new)) (part_before [] old new i h (omega arith) none_before ∙ map_nothing (take i old))
          ∙ ap (λ ys. take i old ++ c ∷ (d ∷ ys)) (part_after [] old new (i + 2) h none_after ∙ map_nothing (drop (i + 2) old));
    }

no_change : (xs : List ℕ) → is_marked (changes [] xs xs) ≡ false
no_change xs = subst (λ ys. is_marked (changes [] xs ys) ≡ false) (map_nothing xs) (changes_of_map [] xs)

get_next : (xs ys : List ℕ) (x y : ℕ) → get_or (xs ++ x ∷ (y ∷ ys)) (length xs + 1) 0 ≡ y
get_next [] ys x y = refl
get_next (z ∷ xs) ys x y =
    let next : suc (length xs) + 1 ≡ suc (length xs + 1) = omega arith in
    rw next (get_next xs ys x y)

pair_given : (a b c d : ℕ) (before after : List ℕ) →
    is_pair_at a b c d (before ++ a ∷ (b ∷ after)) (before ++ c ∷ (d ∷ after)) (length before) ≡ true
pair_given a b c d before after =
    let old = before ++ a ∷ (b ∷ after) in
    let new = before ++ c ∷ (d ∷ after) in
    let n = length before in
    rw (
      get_seam before (b ∷ after) a,
      get_next before after a b,
      get_seam before (d ∷ after) c,
      get_next before after c d,
      (Decides-eqb a a).1 refl,
      (Decides-eqb b b).1 refl,
      (Decides-eqb c c).1 refl,
      (Decides-eqb d d).1 refl,
      changes_take [] n old new,
      changes_drop [] (n + 2) old new,
      take-append_seam before (a ∷ (b ∷ after)),
      take-append_seam before (c ∷ (d ∷ after)),
      drop-append-add before (a ∷ (b ∷ after)) 2,
      drop-append-add before (c ∷ (d ∷ after)) 2,
      no_change before,
      no_change after,
    ) refl

pair_within : (xs ys : List ℕ) (x y : ℕ) → length xs + 1 < length (xs ++ x ∷ (y ∷ ys))
pair_within [] ys x y = omega arith
pair_within (z ∷ xs) ys x y = omega (arith, pair_within xs ys x y)

pub pair_none : (a b c d : ℕ) (old new : List ℕ) → ((i : ℕ) → i + 1 < length old → is_pair_at a b c d old new i ≡ false) →
    IsPairMove a b c d old new → ⊥
pair_none a b c d old new h m =
    let given : is_pair_at a b c d old new (length m.before) ≡ true = rw (m.was, m.becomes) (pair_given a b c d m.before m.after) in
    let within : length m.before + 1 < length old = rw m.was (pair_within m.before m.after a b) in
    true_false (sym given ∙ h (length m.before) within)
  where
    true_false : true ≡ false → ⊥
    true_false e = cc

pub pair_length : (a b c d : ℕ) (old new : List ℕ) → IsPairMove a b c d old new → length old ≡ length new
pair_length a b c d old new m = ap length m.was ∙ same_length m.before m.after ∙ sym (ap length m.becomes)
  where
    same_length : (before after : List ℕ) → length (before ++ a ∷ (b ∷ after)) ≡ length (before ++ c ∷ (d ∷ after))
    same_length [] after = refl
    same_length (x ∷ before) after = ap suc (same_length before after)
