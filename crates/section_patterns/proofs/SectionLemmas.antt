-- The lists of sections as states.
use Rattle.std.proofs.Common.{◌≡◌, ◌==◌, ◌≤◌, ◌+◌, ◌||◌, ◌&&◌, ℕ, Bool, true, false, List, [], ◌∷◌, ◌++◌, Option, None, Some, IfSome, Contains, All, length, refl, sym, ap, subst, ◌∙◌, inl, inr, arith, eqb-true, nat_lt}
use Rattle.std.specs.List.{list_all, range_with_len, filter}
use Rattle.std.proofs.lemmas.Bool.{false≢true, and_parts, and_from, or_left, or_right}
use Rattle.std.proofs.lemmas.List.{append-nil}
use Rattle.std.proofs.lemmas.List.Elements.{All-cons, All-tail}
use Rattle.word_automata.specs.Nondeterministic.{NondeterministicAutomaton}
use Rattle.word_automata.proofs.ForCallers.{Contains-cases, Contains-here, Contains-none}
use Rattle.protocol_syntax.specs.declared.limits.TheConstants.{MAX_ATOMS}
use Rattle.protocol_model.specs.declared.system.Section.{Section}
use Rattle.protocol_model.specs.declared.system.Pattern.{Pattern}
use Rattle.protocol_model.specs.declared.system.Atom.{Atom}
use Rattle.protocol_model.specs.System.{letter_count}
use Rattle.protocol_model.specs.Patterns.{atoms_match, has_any_length, list_fits, lists_fit}
use Rattle.protocol_model.specs.Words.{raised, raised_lists, joined}
use Rattle.section_patterns.specs.private.Languages.{AcceptsFrom, BeginsWithLetter, BeginsWithLetters, IsAdded}
use Rattle.section_patterns.specs.private.Lists.{BeginsWithList, IsBehind, IsRest, HasPatternOf, part_matches, pattern_for, parts_match}
use Rattle.section_patterns.proofs.ListLemmas.{raised_chosen, raised_chosen_cases}
use Rattle.section_patterns.proofs.PatternLemmas.{added_then, list-map, list-test, letter-map, atoms_below}

-- whether the list fits the section and the pattern matches it
abbrev pub fits_and_matches : Section → Option Pattern → List ℕ → Bool
fits_and_matches section pattern list = list_fits section list && part_matches pattern list

-- the letters of the section that the pattern matches alone, each raised by the offset
abbrev chosen : Section → Option Pattern → ℕ → List ℕ
chosen section pattern offset = raised offset (filter (λ a. part_matches pattern (a ∷ [])) (range_with_len 0 (letter_count section)))

-- the test of a list that follows from that of its letters
fitting : (section : Section) (pattern : Option Pattern) (list : List ℕ) → list_all (λ a. nat_lt a (letter_count section)) list ≡ true
    → (has_any_length section.kind || (length list == 1)) ≡ true → part_matches pattern list ≡ true → fits_and_matches section pattern list ≡ true
fitting section pattern list below any matches =
    and_from (list_fits section list) (part_matches pattern list)
    (and_from (list_all (λ a. nat_lt a (letter_count section)) list) (has_any_length section.kind || (length list == 1)) below any) matches

module _ (section : Section) (pattern : Option Pattern) (offset : ℕ) (L : List ℕ → Type 0) where
  -- a cell has one letter
  pub cell_in : (w : List ℕ) → BeginsWithLetter (chosen section pattern offset) L w
      → BeginsWithList (fits_and_matches section pattern) offset L w
  cell_in w b =
      let found = raised_chosen_cases offset (letter_count section) (λ a. part_matches pattern (a ∷ [])) b.letter b.is_letter in
      record {
        list = found.0 ∷ [];
        rest = b.rest;
        matches = fitting section pattern (found.0 ∷ []) (and_from (nat_lt found.0 (letter_count section)) true found.1.0 refl)
            (or_right (has_any_length section.kind) true refl) found.1.1;
        begins = b.joined ∙ ap (λ x. x ∷ b.rest) (sym found.1.2);
        accepted = b.accepted;
      }

  pub cell_out : has_any_length section.kind ≡ false → (w : List ℕ) → BeginsWithList (fits_and_matches section pattern) offset L w
      → BeginsWithLetter (chosen section pattern offset) L w
  cell_out cell w b = by b.list b.matches b.begins
    where
      single : (list : List ℕ) → fits_and_matches section pattern list ≡ true → length list ≡ 1
      single list h =
          let fits = (and_parts (list_fits section list) (part_matches pattern list) h).0 in
          let any = (and_parts (list_all (λ a. nat_lt a (letter_count section)) list) (has_any_length section.kind || (length list == 1)) fits).1 in
          eqb-true (length list) 1 (sym (ap (λ b. b || (length list == 1)) cell) ∙ any)

      by : (list : List ℕ) → fits_and_matches section pattern list ≡ true → w ≡ raised offset list ++ b.rest
          → BeginsWithLetter (chosen section pattern offset) L w
      by [] h e = absurd (omega (arith, single [] h))
      by (x ∷ []) h e =
          let parts = and_parts (list_fits section (x ∷ [])) (part_matches pattern (x ∷ [])) h in
          let below = (and_parts (nat_lt x (letter_count section)) true
          (and_parts (list_all (λ a. nat_lt a (letter_count section)) (x ∷ [])) (has_any_length section.kind || (length (x ∷ []) == 1)) parts.0).0).0 in
          record {
            letter = x + offset;
            rest = b.rest;
            is_letter = raised_chosen offset (letter_count section) (λ a. part_matches pattern (a ∷ [])) x below parts.1;
            joined = e;
            accepted = b.accepted;
          }
      by (x ∷ (y ∷ list)) h e = absurd (omega (arith, single (x ∷ (y ∷ list)) h))

  -- the lists of letters that are chosen
  loop_lists : (front rest : List ℕ)
      → All (λ a. Contains (chosen section None offset) a) front
      → (list : List ℕ) × ((list_all (λ a. nat_lt a (letter_count section)) list ≡ true) × (front ++ rest ≡ raised offset list ++ rest))
  loop_lists [] rest all = ([], (refl, refl))
  loop_lists (x ∷ front) rest all =
      let letters = chosen section None offset in
      let found = raised_chosen_cases offset (letter_count section) (λ a. part_matches None (a ∷ [])) x (all 0 x (omega arith)) in
      let later = loop_lists front rest (All-tail (λ a. Contains letters a) x front all) in (
        found.0 ∷ later.0,
        (
          and_from (nat_lt found.0 (letter_count section)) (list_all (λ a. nat_lt a (letter_count section)) later.0) found.1.0 later.1.0,
          ap (λ y. y ∷ (front ++ rest)) (sym found.1.2) ∙ ap (λ more. (found.0 + offset) ∷ more) later.1.1,
        ),
      )

  loop_letters : (list : List ℕ) → list_all (λ a. nat_lt a (letter_count section)) list ≡ true
      → All (λ a. Contains (chosen section None offset) a) (raised offset list)
  loop_letters [] h = λ k d within. absurd (omega arith)
  loop_letters (x ∷ list) h =
      let letters = chosen section None offset in
      let parts = and_parts (nat_lt x (letter_count section)) (list_all (λ a. nat_lt a (letter_count section)) list) h in
      All-cons (λ a. Contains letters a) (x + offset) (raised offset list)
      (raised_chosen offset (letter_count section) (λ a. part_matches None (a ∷ [])) x parts.0 refl) (loop_letters list parts.1)

module _ (section : Section) (offset : ℕ) (L : List ℕ → Type 0) (any : has_any_length section.kind ≡ true) where
  -- without a pattern there may be any letters
  pub loop_in : (w : List ℕ) → BeginsWithLetters (chosen section None offset) L w
      → BeginsWithList (fits_and_matches section None) offset L w
  loop_in w b =
      let found = loop_lists section None offset L b.front b.rest b.are_letters in
      record {
        list = found.0;
        rest = b.rest;
        matches = fitting section None found.0 found.1.0 (or_left (has_any_length section.kind) (length found.0 == 1) any) refl;
        begins = b.joined ∙ found.1.1;
        accepted = b.accepted;
      }

  pub loop_out : (w : List ℕ) → BeginsWithList (fits_and_matches section None) offset L w
      → BeginsWithLetters (chosen section None offset) L w
  loop_out w b =
      let fits = (and_parts (list_fits section b.list) true b.matches).0 in
      let below = (and_parts (list_all (λ a. nat_lt a (letter_count section)) b.list) (has_any_length section.kind || (length b.list == 1)) fits).0 in
      record {
        front = raised offset b.list;
        rest = b.rest;
        are_letters = loop_letters section None offset L b.list below;
        joined = b.begins;
        accepted = b.accepted;
      }

  -- with a pattern the list has letters of the section alone
  module _ (pattern : Pattern) (has : HasPatternOf (Some pattern) section) where
    pub pattern_in : (w : List ℕ) → BeginsWithList (atoms_match pattern.atoms) offset L w
        → BeginsWithList (fits_and_matches section (Some pattern)) offset L w
    pattern_in w b =
        list-test (atoms_match pattern.atoms) (fits_and_matches section (Some pattern)) offset L
        (λ list h. fitting section (Some pattern) list (atoms_below (letter_count section) pattern.atoms has.in_range list h)
        (or_left (has_any_length section.kind) (length list == 1) any) h) w b

    pub pattern_out : (w : List ℕ) → BeginsWithList (fits_and_matches section (Some pattern)) offset L w
        → BeginsWithList (atoms_match pattern.atoms) offset L w
    pattern_out w b =
        list-test (fits_and_matches section (Some pattern)) (atoms_match pattern.atoms) offset L
        (λ list h. (and_parts (list_fits section list) (atoms_match pattern.atoms list) h).1) w b

-- a pattern of a section has few atoms
pub few_atoms : (pattern : Option Pattern) (section : Section) → HasPatternOf pattern section → IfSome pattern (λ p. length p.atoms ≤ MAX_ATOMS)
few_atoms None section has = tt
few_atoms (Some pattern) section has = has.limit

-- another name for what a state accepts
pub added_as : (old new : NondeterministicAutomaton) (state : ℕ) (L M : List ℕ → Type 0) → IsAdded old new state L → ((w : List ℕ) → L w → M w)
    → ((w : List ℕ) → M w → L w) → IsAdded old new state M
added_as old new state L M added to from = record {
  same_letters = added.same_letters;
  same_starts = added.same_starts;
  more = added.more;
  is_state = added.is_state;
  kept = added.kept;
  accepts = λ w. (λ a. to w ((added.accepts w).0 a), λ m. (added.accepts w).1 (from w m));
}

behind-map : (separator : ℕ) (later : List Section) (L M : List ℕ → Type 0) → ((w : List ℕ) → L w → M w) → (w : List ℕ)
    → IsBehind separator later L w → IsBehind separator later M w
behind-map separator [] L M f w h = f w h
behind-map separator (section ∷ later) L M f w h = letter-map (separator ∷ []) L M f w h

module _ (parts : List (ℕ × Pattern)) (number offset separator : ℕ) (section : Section) where
  -- the word of a list and of later ones
  unfold_in : (later : List Section) (w : List ℕ)
      → BeginsWithList (fits_and_matches section (pattern_for parts number)) offset
      (IsBehind separator later (IsRest parts (number + 1) (offset + letter_count section) separator later)) w
      → IsRest parts number offset separator (section ∷ later) w
  unfold_in [] w b =
      let parts_of = and_parts (list_fits section b.list) (part_matches (pattern_for parts number) b.list) b.matches in
      let last : b.rest ≡ [] = b.accepted.spelled in
      record {
        lists = b.list ∷ [];
        fitting = and_from (list_fits section b.list) true parts_of.0 refl;
        matches = and_from (part_matches (pattern_for parts number) b.list) true parts_of.1 refl;
        spelled = b.begins ∙ ap (λ rest. raised offset b.list ++ rest) last ∙ append-nil (raised offset b.list);
      }
  unfold_in (next ∷ later) w b =
      let inner = b.accepted in
      let is_separator : separator ≡ inner.letter = elim (Contains-cases separator [] inner.letter inner.is_letter) [
        | inl same ↦ same
        | inr none ↦ absurd (Contains-none inner.letter none)
      ] in
      by inner.accepted.lists inner.accepted.fitting inner.accepted.matches
      (b.begins ∙ ap (λ rest. raised offset b.list ++ rest)
      (inner.joined ∙ ap (λ a. a ∷ inner.rest) (sym is_separator) ∙ ap (λ rest. separator ∷ rest) inner.accepted.spelled))
    where
      by : (lists : List (List ℕ)) → lists_fit (next ∷ later) lists ≡ true → parts_match parts (number + 1) lists ≡ true
          → w ≡ raised offset b.list ++ separator ∷ joined separator (raised_lists (offset + letter_count section) (next ∷ later) lists)
          → IsRest parts number offset separator (section ∷ (next ∷ later)) w
      by [] fitting matches e = absurd (false≢true fitting)
      by (first ∷ lists) fitting matches e =
          let parts_of = and_parts (list_fits section b.list) (part_matches (pattern_for parts number) b.list) b.matches in
          record {
            lists = b.list ∷ (first ∷ lists);
            fitting = and_from (list_fits section b.list) (lists_fit (next ∷ later) (first ∷ lists)) parts_of.0 fitting;
            matches = and_from (part_matches (pattern_for parts number) b.list) (parts_match parts (number + 1) (first ∷ lists)) parts_of.1 matches;
            spelled = e;
          }

  unfold_out : (later : List Section) (w : List ℕ) → IsRest parts number offset separator (section ∷ later) w
      → BeginsWithList (fits_and_matches section (pattern_for parts number)) offset
      (IsBehind separator later (IsRest parts (number + 1) (offset + letter_count section) separator later)) w
  unfold_out later w r = by later r.lists r.fitting r.matches r.spelled
    where
      by : (later : List Section) (lists : List (List ℕ)) → lists_fit (section ∷ later) lists ≡ true → parts_match parts number lists ≡ true
          → w ≡ joined separator (raised_lists offset (section ∷ later) lists)
          → BeginsWithList (fits_and_matches section (pattern_for parts number)) offset
          (IsBehind separator later (IsRest parts (number + 1) (offset + letter_count section) separator later)) w
      by later [] fitting matches e = absurd (false≢true fitting)
      by [] (list ∷ []) fitting matches e =
          let fits = and_parts (list_fits section list) true fitting in
          let pass = and_parts (part_matches (pattern_for parts number) list) true matches in
          record {
            list = list;
            rest = [];
            matches = and_from (list_fits section list) (part_matches (pattern_for parts number) list) fits.0 pass.0;
            begins = e ∙ sym (append-nil (raised offset list));
            accepted = record { lists = []; fitting = refl; matches = refl; spelled = refl };
          }
      by [] (list ∷ (other ∷ lists)) fitting matches e = absurd (false≢true (and_parts (list_fits section list) false fitting).1)
      by (next ∷ later) (list ∷ []) fitting matches e = absurd (false≢true (and_parts (list_fits section list) false fitting).1)
      by (next ∷ later) (list ∷ (other ∷ lists)) fitting matches e =
          let fits = and_parts (list_fits section list) (lists_fit (next ∷ later) (other ∷ lists)) fitting in
          let pass = and_parts (part_matches (pattern_for parts number) list) (parts_match parts (number + 1) (other ∷ lists)) matches in
          let rest = joined separator (raised_lists (offset + letter_count section) (next ∷ later) (other ∷ lists)) in
          record {
            list = list;
            rest = separator ∷ rest;
            matches = and_from (list_fits section list) (part_matches (pattern_for parts number) list) fits.0 pass.0;
            begins = e;
            accepted = record {
              letter = separator;
              rest = rest;
              is_letter = Contains-here [] separator;
              joined = refl;
              accepted = record { lists = other ∷ lists; fitting = fits.1; matches = pass.1; spelled = refl };
            };
          }

  -- a section in front of the later ones
  pub section_more : (old mid late new : NondeterministicAutomaton) (behind next state : ℕ) (later : List Section)
      → IsAdded old mid behind (IsRest parts (number + 1) (offset + letter_count section) separator later)
      → IsAdded mid late next (IsBehind separator later (AcceptsFrom mid behind))
      → IsAdded late new state (BeginsWithList (fits_and_matches section (pattern_for parts number)) offset (AcceptsFrom late next))
      → IsAdded old new state (IsRest parts number offset separator (section ∷ later))
  section_more old mid late new behind next state later first second third =
      let rest = IsRest parts (number + 1) (offset + letter_count section) separator later in
      let front = added_then old mid late behind next rest (IsBehind separator later (AcceptsFrom mid behind)) (IsBehind separator later rest) first second
      (λ w. (
        behind-map separator later (AcceptsFrom mid behind) rest (λ u a. (first.accepts u).0 a) w,
        behind-map separator later rest (AcceptsFrom mid behind) (λ u a. (first.accepts u).1 a) w,
      )) in
      let test = fits_and_matches section (pattern_for parts number) in
      added_then old late new next state (IsBehind separator later rest) (BeginsWithList test offset (AcceptsFrom late next))
      (IsRest parts number offset separator (section ∷ later)) front third
      (λ w. (
        λ b. unfold_in later w (list-map test offset (AcceptsFrom late next) (IsBehind separator later rest) (λ u a. (front.accepts u).0 a) w b),
        λ r. list-map test offset (IsBehind separator later rest) (AcceptsFrom late next) (λ u a. (front.accepts u).1 a) w (unfold_out later w r),
      ))

-- no section
pub sections_none : (parts : List (ℕ × Pattern)) (number offset separator : ℕ) (old new : NondeterministicAutomaton) (state : ℕ)
    → IsAdded old new state (λ w. w ≡ []) → IsAdded old new state (IsRest parts number offset separator [])
sections_none parts number offset separator old new state added =
    added_as old new state (λ w. w ≡ []) (IsRest parts number offset separator []) added
    (λ w e. record { lists = []; fitting = refl; matches = refl; spelled = e }) (λ w r. r.spelled)

-- a cell
pub cell_added : (section : Section) (pattern : Option Pattern) (offset : ℕ) (L : List ℕ → Type 0) (old new : NondeterministicAutomaton) (state : ℕ)
    (letters : List ℕ) → has_any_length section.kind ≡ false
    → letters ≡ chosen section pattern offset
    → IsAdded old new state (BeginsWithLetter letters L)
    → IsAdded old new state (BeginsWithList (fits_and_matches section pattern) offset L)
cell_added section pattern offset L old new state letters cell are added =
    added_as old new state (BeginsWithLetter (chosen section pattern offset) L) (BeginsWithList (fits_and_matches section pattern) offset L)
    (subst (λ l. IsAdded old new state (BeginsWithLetter l L)) are added)
    (cell_in section pattern offset L) (cell_out section pattern offset L cell)

-- lists of any length, with no pattern
pub any_added : (section : Section) (pattern : Option Pattern) (offset : ℕ) (L : List ℕ → Type 0) (old new : NondeterministicAutomaton) (state : ℕ)
    (letters : List ℕ) → has_any_length section.kind ≡ true → pattern ≡ None
    → letters ≡ chosen section None offset
    → IsAdded old new state (BeginsWithLetters letters L)
    → IsAdded old new state (BeginsWithList (fits_and_matches section pattern) offset L)
any_added section pattern offset L old new state letters any none are added =
    subst (λ o. IsAdded old new state (BeginsWithList (fits_and_matches section o) offset L)) (sym none)
    (added_as old new state (BeginsWithLetters (chosen section None offset) L) (BeginsWithList (fits_and_matches section None) offset L)
    (subst (λ l. IsAdded old new state (BeginsWithLetters l L)) are added)
    (loop_in section offset L any) (loop_out section offset L any))

-- lists of any length, with a pattern
pub pattern_added : (section : Section) (given : Option Pattern) (offset : ℕ) (L : List ℕ → Type 0) (old new : NondeterministicAutomaton) (state : ℕ)
    (pattern : Pattern) (atoms : List Atom) → has_any_length section.kind ≡ true → given ≡ Some pattern → HasPatternOf given section
    → atoms ≡ pattern.atoms → IsAdded old new state (BeginsWithList (atoms_match atoms) offset L)
    → IsAdded old new state (BeginsWithList (fits_and_matches section given) offset L)
pattern_added section given offset L old new state pattern atoms any some has are added =
    let has_some = subst (λ o. HasPatternOf o section) some has in
    subst (λ o. IsAdded old new state (BeginsWithList (fits_and_matches section o) offset L)) (sym some)
    (added_as old new state (BeginsWithList (atoms_match pattern.atoms) offset L) (BeginsWithList (fits_and_matches section (Some pattern)) offset L)
    (subst (λ xs. IsAdded old new state (BeginsWithList (atoms_match xs) offset L)) are added)
    (pattern_in section offset L any pattern has_some) (pattern_out section offset L any pattern has_some))

-- the same as one step of a recursion over the sections
pub section_next : (parts : List (ℕ × Pattern)) (number offset separator : ℕ) (sections later : List Section) (section : Section) (count : ℕ)
    (found : Option Pattern) (old mid late new : NondeterministicAutomaton) (behind next state : ℕ)
    → section ∷ later ≡ sections → count ≡ letter_count section → found ≡ pattern_for parts number
    → IsAdded old mid behind (IsRest parts (number + 1) (offset + count) separator later)
    → IsAdded mid late next (IsBehind separator later (AcceptsFrom mid behind))
    → IsAdded late new state (BeginsWithList (fits_and_matches section found) offset (AcceptsFrom late next))
    → IsAdded old new state (IsRest parts number offset separator sections)
section_next parts number offset separator sections later section count found old mid late new behind next state whole counts finds first second third =
    subst (λ xs. IsAdded old new state (IsRest parts number offset separator xs)) whole
    (section_more parts number offset separator section old mid late new behind next state later
    (subst (λ n. IsAdded old mid behind (IsRest parts (number + 1) (offset + n) separator later)) counts first) second
    (subst (λ o. IsAdded late new state (BeginsWithList (fits_and_matches section o) offset (AcceptsFrom late next))) finds third))
