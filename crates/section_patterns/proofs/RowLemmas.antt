-- Rows as states: a row matches a configuration where its patterns match the lists of the sections, one after the other.
use Rattle.std.proofs.Common.{◌≡◌, ◌≢◌, ◌==◌, ◌<◌, ◌+◌, ◌||◌, ◌↔◌, ◌⊎◌, ℕ, zero, suc, Bool, true, false, List, [], ◌∷◌, ◌++◌, Option, None, Some, Contains, AllPairs, IsTrue, length, get_or, slice_get, unwrap_or, refl, sym, ap, subst, ◌∙◌, inl, inr, arith, eq-eqb, eqb-true, ne_eqb, if◌then◌else◌, add-zero}
use Rattle.std.specs.List.{list_all, list_any, AllByRecursion}
use Rattle.std.proofs.lemmas.Bool.{cases_Bool, false≢true, and_parts, and_from, or_cases, or_left, or_right}
use Rattle.std.proofs.lemmas.Option.{same_Some, slice_get_within, slice_get-get_or, get_or_from_slice_get}
use Rattle.std.proofs.lemmas.List.Folds.{list_any-append}
use Rattle.std.proofs.lemmas.List.Sums.{AllPass-from_list_all, list_all-from_AllPass}
use Rattle.std.proofs.lemmas.List.Elements.{All-contains, All-from_recursion, Contains-push, Contains-push_cases}
use Rattle.word_automata.specs.Nondeterministic.{NondeterministicAutomaton, Accepts, with_start, empty_nondeterministic}
use Rattle.word_automata.specs.Path.{IsPath}
use Rattle.word_automata.proofs.ForCallers.{Contains-none}
use Rattle.protocol_model.proofs.ForCallers.{fits_length}
use Rattle.protocol_model.specs.declared.system.Section.{Section}
use Rattle.protocol_model.specs.declared.system.Pattern.{Pattern}
use Rattle.protocol_model.specs.declared.system.Row.{Row}
use Rattle.protocol_model.specs.declared.system.Configuration.{Configuration}
use Rattle.protocol_model.specs.System.{SystemData, letter_count, letter_count_at, IsValidRow, IsValidPattern}
use Rattle.protocol_model.specs.Patterns.{atoms_match, lists_fit, list_at, row_matches, fits}
use Rattle.protocol_model.specs.Words.{separator_of, word_of}
use Rattle.section_patterns.specs.private.Languages.{AcceptsFrom, IsAdded}
use Rattle.section_patterns.specs.private.Lists.{IsRest, IsWordOfRows, HasPatternOf, HasPatternsOf, part_matches, pattern_for, parts_match}

or_false : (b : Bool) → (b || false) ≡ true → b ≡ true
or_false true h = refl
or_false false h = h

-- the pattern of a section that the row names
pattern_for_named : (parts : List (ℕ × Pattern)) (k : ℕ) (pattern : Pattern) → pattern_for parts k ≡ Some pattern
    → (i : ℕ) × ((part : ℕ × Pattern) × ((slice_get parts i ≡ Some part) × (part.0 ≡ k) × (part.1 ≡ pattern)))
pattern_for_named [] k pattern e = cc
pattern_for_named (part ∷ parts) k pattern e = elim (cases_Bool (part.0 == k)) [
  | inl here ↦
      let e' = sym (ap (λ b. if b then Some part.1 else pattern_for parts k) here) ∙ e in
      (0, (part, (refl, eqb-true part.0 k here, same_Some part.1 pattern e')))
  | inr other ↦
      let e' = sym (ap (λ b. if b then Some part.1 else pattern_for parts k) other) ∙ e in
      let rest = pattern_for_named parts k pattern e' in
      (suc rest.0, rest.1)
]

-- an element at a place
Contains-place : {X : Type 0} (xs : List X) (i : ℕ) (x : X) → slice_get xs i ≡ Some x → Contains xs x
Contains-place xs i x e = (i, slice_get_within xs i x e, get_or_from_slice_get xs i x x e)

-- what all of a list have, at a place
all_at : {X : Type 0} (P : X → Type 0) (xs : List X) → AllByRecursion P xs → (i : ℕ) (x : X) → slice_get xs i ≡ Some x → P x
all_at P xs h i x e = All-contains P xs x (All-from_recursion P xs h) (Contains-place xs i x e)

-- patterns of a valid row are those of their sections
patterns_by : (parts : List (ℕ × Pattern)) (number : ℕ) (sections : List Section)
    → ((k : ℕ) (section : Section) → slice_get sections k ≡ Some section → HasPatternOf (pattern_for parts (number + k)) section)
    → HasPatternsOf parts number sections
patterns_by parts number [] each = tt
patterns_by parts number (section ∷ sections) each = (
  subst (λ n. HasPatternOf (pattern_for parts n) section) (add-zero number) (each 0 section refl),
  patterns_by parts (number + 1) sections
      (λ k s e. let same : number + suc k ≡ (number + 1) + k = omega arith in
      subst (λ n. HasPatternOf (pattern_for parts n) s) same (each (suc k) s e)),
)

count_at : (sections : List Section) (k : ℕ) (section : Section) → slice_get sections k ≡ Some section → letter_count_at sections k ≡ letter_count section
count_at sections k section e = ap (λ o. elim o as (λ v. ℕ) [ None ↦ 0 | Some s ↦ letter_count s ]) e

pub valid_patterns : (sections : List Section) (row : Row) → IsValidRow sections row → HasPatternsOf row.parts 0 sections
valid_patterns sections row valid = patterns_by row.parts 0 sections (λ k section e. by k section e (pattern_for row.parts (0 + k)) refl)
  where
    by : (k : ℕ) (section : Section) → slice_get sections k ≡ Some section → (pattern : Option Pattern) → pattern_for row.parts (0 + k) ≡ pattern
        → HasPatternOf pattern section
    by k section e None found = tt
    by k section e (Some pattern) found =
        let named = pattern_for_named row.parts (0 + k) pattern found in
        let part = named.1.0 in
        let valid_pattern = all_at (λ part. IsValidPattern (letter_count_at sections part.0) part.1) row.parts valid.patterns named.0 part named.1.1.0 in
        let count : letter_count_at sections part.0 ≡ letter_count section =
        ap (letter_count_at sections) (named.1.1.1 ∙ (omega arith)) ∙ count_at sections k section e in
        subst (IsValidPattern (letter_count section)) named.1.1.2 (subst (λ n. IsValidPattern n part.1) count valid_pattern)

-- a section that the row names once has the pattern
pattern_for_distinct : (parts : List (ℕ × Pattern)) → AllPairs (λ a b. a.0 ≢ b.0) parts → (i : ℕ) (part : ℕ × Pattern) → slice_get parts i ≡ Some part
    → pattern_for parts part.0 ≡ Some part.1
pattern_for_distinct [] distinct i part e = cc
pattern_for_distinct (first ∷ parts) distinct zero part e =
    let same = same_Some first part e in
    ap (λ b. if b then Some first.1 else pattern_for parts part.0) (eq-eqb first.0 part.0 (ap (λ p. p.0) same)) ∙ ap (λ p. Some p.1) same
pattern_for_distinct (first ∷ parts) distinct (suc i) part e =
    let within = slice_get_within parts i part e in
    let at : get_or (first ∷ parts) (suc i) part ≡ part = get_or_from_slice_get parts i part part e in
    let differs : first.0 ≢ part.0 = subst (λ p. first.0 ≢ p.0) at (distinct 0 (suc i) part (omega arith) (omega arith)) in
    let later : AllPairs (λ a b. a.0 ≢ b.0) parts = λ j k d less inside. distinct (suc j) (suc k) d (omega arith) (omega arith) in
    ap (λ b. if b then Some first.1 else pattern_for parts part.0) (ne_eqb first.0 part.0 differs) ∙ pattern_for_distinct parts later i part e

-- the tests of the lists, one by one and together
parts_match_by : (parts : List (ℕ × Pattern)) (number : ℕ) (lists : List (List ℕ))
    → ((k : ℕ) (list : List ℕ) → slice_get lists k ≡ Some list → part_matches (pattern_for parts (number + k)) list ≡ true)
    → parts_match parts number lists ≡ true
parts_match_by parts number [] each = refl
parts_match_by parts number (list ∷ lists) each =
    and_from (part_matches (pattern_for parts number) list) (parts_match parts (number + 1) lists)
    (subst (λ n. part_matches (pattern_for parts n) list ≡ true) (add-zero number) (each 0 list refl))
    (parts_match_by parts (number + 1) lists
    (λ k l e. let same : number + suc k ≡ (number + 1) + k = omega arith in
    subst (λ n. part_matches (pattern_for parts n) l ≡ true) same (each (suc k) l e)))

parts_match_at : (parts : List (ℕ × Pattern)) (number : ℕ) (lists : List (List ℕ)) → parts_match parts number lists ≡ true
    → (k : ℕ) (list : List ℕ) → slice_get lists k ≡ Some list → part_matches (pattern_for parts (number + k)) list ≡ true
parts_match_at parts number [] h k list e = cc
parts_match_at parts number (first ∷ lists) h zero list e =
    let here = (and_parts (part_matches (pattern_for parts number) first) (parts_match parts (number + 1) lists) h).0 in
    subst (λ n. part_matches (pattern_for parts n) list ≡ true) (sym (add-zero number))
    (subst (λ l. part_matches (pattern_for parts number) l ≡ true) (same_Some first list e) here)
parts_match_at parts number (first ∷ lists) h (suc k) list e =
    let rest = (and_parts (part_matches (pattern_for parts number) first) (parts_match parts (number + 1) lists) h).1 in
    let same : (number + 1) + k ≡ number + suc k = omega arith in
    subst (λ n. part_matches (pattern_for parts n) list ≡ true) same (parts_match_at parts (number + 1) lists rest k list e)

-- a test of all elements, by places
list_all_by : {X : Type 0} (p : X → Bool) (xs : List X) → ((i : ℕ) (x : X) → slice_get xs i ≡ Some x → p x ≡ true) → list_all p xs ≡ true
list_all_by p xs each = list_all-from_AllPass p xs (λ i d h. each i (get_or xs i d) (slice_get-get_or xs i d h))

list_all_get : {X : Type 0} (p : X → Bool) (xs : List X) → list_all p xs ≡ true → (i : ℕ) (x : X) → slice_get xs i ≡ Some x → p x ≡ true
list_all_get p xs h i x e = All-contains (λ y. p y ≡ true) xs x (AllPass-from_list_all p xs h) (Contains-place xs i x e)

module _ (sections : List Section) (row : Row) (valid : IsValidRow sections row) (c : Configuration) where
  -- a row that matches has a pattern for each list
  row_in : row_matches c row ≡ true → parts_match row.parts 0 c.lists ≡ true
  row_in h = parts_match_by row.parts 0 c.lists (λ k list e. by k list e (pattern_for row.parts (0 + k)) refl)
    where
      by : (k : ℕ) (list : List ℕ) → slice_get c.lists k ≡ Some list → (pattern : Option Pattern) → pattern_for row.parts (0 + k) ≡ pattern
          → part_matches pattern list ≡ true
      by k list e None found = refl
      by k list e (Some pattern) found =
          let named = pattern_for_named row.parts (0 + k) pattern found in
          let part = named.1.0 in
          let here = list_all_get (λ part. atoms_match part.1.atoms (list_at c part.0)) row.parts h named.0 part named.1.1.0 in
          let number : part.0 ≡ k = named.1.1.1 ∙ (omega arith) in
          let at : list_at c part.0 ≡ list = ap (list_at c) number ∙ ap (λ o. unwrap_or o []) e in
          subst (λ l. atoms_match pattern.atoms l ≡ true) at
          (subst (λ p. atoms_match p.atoms (list_at c part.0) ≡ true) named.1.1.2 here)

  row_out : lists_fit sections c.lists ≡ true → parts_match row.parts 0 c.lists ≡ true → row_matches c row ≡ true
  row_out fitting h = list_all_by (λ part. atoms_match part.1.atoms (list_at c part.0)) row.parts (λ i part e.
      let number : part.0 < length c.lists =
      omega (arith, all_at (λ part. part.0 < length sections) row.parts valid.in_range i part e, fits_length sections c.lists fitting) in
      let there : slice_get c.lists part.0 ≡ Some (get_or c.lists part.0 []) = slice_get-get_or c.lists part.0 [] number in
      let here = parts_match_at row.parts 0 c.lists h part.0 (get_or c.lists part.0 []) there in
      let found : pattern_for row.parts (0 + part.0) ≡ Some part.1 =
      ap (pattern_for row.parts) (omega arith) ∙ pattern_for_distinct row.parts valid.distinct i part e in
      let at : get_or c.lists part.0 [] ≡ list_at c part.0 = sym (ap (λ o. unwrap_or o []) there) in
      subst (λ l. atoms_match part.1.atoms l ≡ true) at
      (subst (λ o. part_matches o (get_or c.lists part.0 []) ≡ true) found here))

-- the words of the configurations that a row matches
module _ (s : SystemData) (row : Row) (valid : IsValidRow s.sections row) (w : List ℕ) where
  pub rest_in : IsRest row.parts 0 0 (separator_of s) s.sections w
      → (c : Configuration) × ((fits s c ≡ true) × (row_matches c row ≡ true) × (w ≡ word_of s c))
  rest_in r =
      let c : Configuration = record { lists = r.lists } in
      (c, (r.fitting, row_out s.sections row valid c r.fitting r.matches, r.spelled))

  pub rest_out : (c : Configuration) → fits s c ≡ true → row_matches c row ≡ true → w ≡ word_of s c → IsRest row.parts 0 0 (separator_of s) s.sections w
  rest_out c fitting matches e =
      record { lists = c.lists; fitting = fitting; matches = row_in s.sections row valid c matches; spelled = e }

-- the words of the one row of an automaton
module _ (s : SystemData) (row : Row) (mid : NondeterministicAutomaton) (start : ℕ) (valid : IsValidRow s.sections row)
    (added : IsAdded (empty_nondeterministic (separator_of s + 1)) mid start (IsRest row.parts 0 0 (separator_of s) s.sections)) (w : List ℕ) where
  only_start : (q : ℕ) → Contains (mid.starts ++ start ∷ []) q → q ≡ start
  only_start q h = elim (Contains-push_cases mid.starts start q h) [
    | inl before ↦ absurd (Contains-none q (subst (λ starts. Contains starts q) added.same_starts before))
    | inr last ↦ sym last
  ]

  accepted_in : Accepts (with_start mid start) w → IsWordOfRows s (row ∷ []) w
  accepted_in (q, moves, end, contains, path, accepting, spells) =
      let from : AcceptsFrom mid start w = record {
        moves = moves;
        end = end;
        path = subst (λ p. IsPath mid.states p moves end) (only_start q contains) path;
        accepting = accepting;
        spells = spells;
      } in
      let r = rest_in s row valid w ((added.accepts w).0 from) in
      (r.0, and_from (fits s r.0) (row_matches r.0 row || false) r.1.0 (or_left (row_matches r.0 row) false r.1.1), r.1.2)

  accepted_out : IsWordOfRows s (row ∷ []) w → Accepts (with_start mid start) w
  accepted_out (c, matches, e) =
      let parts = and_parts (fits s c) (row_matches c row || false) matches in
      let a = (added.accepts w).1 (rest_out s row valid w c parts.0 (or_false (row_matches c row) parts.1) e) in
      (start, a.moves, a.end, Contains-push mid.starts start, a.path, a.accepting, a.spells)

  pub row_alone : (new : NondeterministicAutomaton) → new ≡ with_start mid start → Accepts new w ↔ IsWordOfRows s (row ∷ []) w
  row_alone new e = subst (λ n. Accepts n w ↔ IsWordOfRows s (row ∷ []) w) (sym e) (accepted_in, accepted_out)

-- no configuration is matched by no row
pub no_rows : (s : SystemData) (rows : List Row) → rows ≡ [] → (b : Bool) (w : List ℕ) → b ≡ false → IsTrue b ↔ IsWordOfRows s rows w
no_rows s rows none b w fails = (
  λ accepted. absurd (false≢true (sym fails ∙ accepted)),
  λ r. let matched = subst (λ xs. IsWordOfRows s xs w) none r in absurd (false≢true (and_parts (fits s matched.0) false matched.1).1),
)

-- a configuration that some row of two lists matches
module _ (s : SystemData) (first second rows : List Row) (cut : rows ≡ first ++ second) where
  both_match : (c : Configuration) → list_any (row_matches c) rows ≡ (list_any (row_matches c) first || list_any (row_matches c) second)
  both_match c = ap (list_any (row_matches c)) cut ∙ list_any-append (row_matches c) first second

  of_first : (w : List ℕ) → IsWordOfRows s first w → IsWordOfRows s rows w
  of_first w (c, matches, e) =
      let parts = and_parts (fits s c) (list_any (row_matches c) first) matches in
      (c, and_from (fits s c) (list_any (row_matches c) rows) parts.0 (both_match c ∙ or_left (list_any (row_matches c) first) (list_any (row_matches c) second) parts.1), e)

  of_second : (w : List ℕ) → IsWordOfRows s second w → IsWordOfRows s rows w
  of_second w (c, matches, e) =
      let parts = and_parts (fits s c) (list_any (row_matches c) second) matches in
      (c, and_from (fits s c) (list_any (row_matches c) rows) parts.0 (both_match c ∙ or_right (list_any (row_matches c) first) (list_any (row_matches c) second) parts.1), e)

  of_either : (w : List ℕ) → IsWordOfRows s rows w → IsWordOfRows s first w ⊎ IsWordOfRows s second w
  of_either w (c, matches, e) =
      let parts = and_parts (fits s c) (list_any (row_matches c) rows) matches in
      elim (or_cases (list_any (row_matches c) first) (list_any (row_matches c) second) (sym (both_match c) ∙ parts.1)) [
        | inl here ↦ inl (c, and_from (fits s c) (list_any (row_matches c) first) parts.0 here, e)
        | inr there ↦ inr (c, and_from (fits s c) (list_any (row_matches c) second) parts.0 there, e)
      ]

  -- its words are those of both lists
  pub rows_of_both : (a b both : Bool) (w : List ℕ) → both ≡ (a || b) → (IsTrue a ↔ IsWordOfRows s first w) → (IsTrue b ↔ IsWordOfRows s second w) → IsTrue both ↔ IsWordOfRows s rows w
  rows_of_both a b both w united left right = (
    λ accepted. elim (or_cases a b (sym united ∙ accepted)) [ inl here ↦ of_first w (left.0 here) | inr there ↦ of_second w (right.0 there) ],
    λ r. elim (of_either w r) [ inl here ↦ united ∙ or_left a b (left.1 here) | inr there ↦ united ∙ or_right a b (right.1 there) ],
  )
