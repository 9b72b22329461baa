-- Patterns as states.
use Rattle.std.proofs.Common.{◌≡◌, ◌==◌, ◌<◌, ◌+◌, ◌||◌, ◌&&◌, ◌↔◌, ℕ, Bool, true, List, [], ◌∷◌, ◌++◌, Contains, All, length, refl, sym, ap, subst, ◌∙◌, inl, inr, arith, eqb-true, nat_lt, lt-ltb}
use Rattle.std.specs.List.{list_all, AllByRecursion}
use Rattle.std.proofs.lemmas.Bool.{cases_Bool, false≢true, and_parts, and_from, or_left, or_right}
use Rattle.std.proofs.lemmas.List.Elements.{All-cons, All-tail}
use Rattle.word_automata.specs.Nondeterministic.{NondeterministicAutomaton}
use Rattle.word_automata.proofs.ForCallers.{Contains-map, Contains-map_cases}
use Rattle.protocol_syntax.specs.declared.protocol.Many.{Many}
use Rattle.protocol_syntax.specs.declared.protocol.Many.TheVariants.{One, Star, Plus}
use Rattle.protocol_model.specs.declared.system.Atom.{Atom}
use Rattle.protocol_model.specs.System.{AllBelow}
use Rattle.protocol_model.specs.Moves.{is_in}
use Rattle.protocol_model.specs.Patterns.{starred, repeated, atoms_match}
use Rattle.protocol_model.specs.Words.{raised}
use Rattle.section_patterns.specs.private.Languages.{AcceptsFrom, BeginsWithLetter, BeginsWithLetters, IsAdded}
use Rattle.section_patterns.specs.private.Lists.{BeginsWithAtom, BeginsWithList}
use Rattle.section_patterns.proofs.ListLemmas.{is_in-Contains, Contains-is_in}

-- one state in front of another, which was added before
pub added_then : (old mid new : NondeterministicAutomaton) (behind state : ℕ) (L M N : List ℕ → Type 0) → IsAdded old mid behind L → IsAdded mid new state M
    → ((w : List ℕ) → M w ↔ N w) → IsAdded old new state N
added_then old mid new behind state L M N first second same = record {
  same_letters = second.same_letters ∙ first.same_letters;
  same_starts = second.same_starts ∙ first.same_starts;
  more = omega (arith, first.more, second.more);
  is_state = second.is_state;
  kept = λ q h w.
      let within : q < length mid.states = omega (arith, first.more) in (
        λ a. (first.kept q h w).0 ((second.kept q within w).0 a),
        λ a. (second.kept q within w).1 ((first.kept q h w).1 a),
      );
  accepts = λ w. (λ a. (same w).0 ((second.accepts w).0 a), λ n. (second.accepts w).1 ((same w).1 n));
}

pub letter-map : (letters : List ℕ) (L M : List ℕ → Type 0) → ((w : List ℕ) → L w → M w) → (w : List ℕ) → BeginsWithLetter letters L w
    → BeginsWithLetter letters M w
letter-map letters L M f w b =
    record { letter = b.letter; rest = b.rest; is_letter = b.is_letter; joined = b.joined; accepted = f b.rest b.accepted }

pub letters-map : (letters : List ℕ) (L M : List ℕ → Type 0) → ((w : List ℕ) → L w → M w) → (w : List ℕ) → BeginsWithLetters letters L w
    → BeginsWithLetters letters M w
letters-map letters L M f w b =
    record { front = b.front; rest = b.rest; are_letters = b.are_letters; joined = b.joined; accepted = f b.rest b.accepted }

pub list-map : (test : List ℕ → Bool) (offset : ℕ) (L M : List ℕ → Type 0) → ((w : List ℕ) → L w → M w) → (w : List ℕ) → BeginsWithList test offset L w
    → BeginsWithList test offset M w
list-map test offset L M f w b =
    record { list = b.list; rest = b.rest; matches = b.matches; begins = b.begins; accepted = f b.rest b.accepted }

pub list-test : (p q : List ℕ → Bool) (offset : ℕ) (L : List ℕ → Type 0) → ((list : List ℕ) → p list ≡ true → q list ≡ true) → (w : List ℕ)
    → BeginsWithList p offset L w → BeginsWithList q offset L w
list-test p q offset L f w b =
    record { list = b.list; rest = b.rest; matches = f b.list b.matches; begins = b.begins; accepted = b.accepted }

atom-map : (many : Many) (letters : List ℕ) (L M : List ℕ → Type 0) → ((w : List ℕ) → L w → M w) → (w : List ℕ) → BeginsWithAtom many letters L w
    → BeginsWithAtom many letters M w
atom-map One letters L M f w b = letter-map letters L M f w b
atom-map Star letters L M f w b = letters-map letters L M f w b
atom-map Plus letters L M f w b = letter-map letters (BeginsWithLetters letters L) (BeginsWithLetters letters M) (letters-map letters L M f) w b

starred_now : (f : ℕ → Bool) (p : List ℕ → Bool) (list : List ℕ) → p list ≡ true → starred f p list ≡ true
starred_now f p [] h = h
starred_now f p (x ∷ xs) h = or_left (p (x ∷ xs)) (f x && starred f p xs) h

starred_more : (f : ℕ → Bool) (p : List ℕ → Bool) (x : ℕ) (xs : List ℕ) → f x ≡ true → starred f p xs ≡ true → starred f p (x ∷ xs) ≡ true
starred_more f p x xs here rest = or_right (p (x ∷ xs)) (f x && starred f p xs) (and_from (f x) (starred f p xs) here rest)

module _ (offset : ℕ) (letters : List ℕ) (L : List ℕ → Type 0) where
  -- one letter
  step_in : (p : List ℕ → Bool) (w : List ℕ) → BeginsWithLetter (raised offset letters) (BeginsWithList p offset L) w
      → BeginsWithList (repeated One (is_in letters) p) offset L w
  step_in p w b =
      let found = Contains-map_cases (λ a. a + offset) letters b.letter b.is_letter in
      let inner = b.accepted in
      record {
        list = found.0 ∷ inner.list;
        rest = inner.rest;
        matches = and_from (is_in letters found.0) (p inner.list) (Contains-is_in letters found.0 found.1) inner.matches;
        begins = b.joined ∙ ap (λ x. x ∷ b.rest) (sym found.2) ∙ ap (λ more. (found.0 + offset) ∷ more) inner.begins;
        accepted = inner.accepted;
      }

  step_out : (p : List ℕ → Bool) (w : List ℕ) → BeginsWithList (repeated One (is_in letters) p) offset L w
      → BeginsWithLetter (raised offset letters) (BeginsWithList p offset L) w
  step_out p w b = by b.list b.matches b.begins
    where
      by : (list : List ℕ) → repeated One (is_in letters) p list ≡ true → w ≡ raised offset list ++ b.rest
          → BeginsWithLetter (raised offset letters) (BeginsWithList p offset L) w
      by [] h e = absurd (false≢true h)
      by (x ∷ xs) h e =
          let parts = and_parts (is_in letters x) (p xs) h in
          record {
            letter = x + offset;
            rest = raised offset xs ++ b.rest;
            is_letter = Contains-map (λ a. a + offset) letters x (is_in-Contains letters x parts.0);
            joined = e;
            accepted = record { list = xs; rest = b.rest; matches = parts.1; begins = refl; accepted = b.accepted };
          }

  -- none or more letters
  loop_in : (p : List ℕ → Bool) (front rest : List ℕ) → All (λ a. Contains (raised offset letters) a) front → BeginsWithList p offset L rest
      → BeginsWithList (starred (is_in letters) p) offset L (front ++ rest)
  loop_in p [] rest all b = record {
    list = b.list;
    rest = b.rest;
    matches = starred_now (is_in letters) p b.list b.matches;
    begins = b.begins;
    accepted = b.accepted;
  }
  loop_in p (x ∷ front) rest all b =
      let later = loop_in p front rest (All-tail (λ a. Contains (raised offset letters) a) x front all) b in
      let found = Contains-map_cases (λ a. a + offset) letters x (all 0 x (omega arith)) in
      record {
        list = found.0 ∷ later.list;
        rest = later.rest;
        matches = starred_more (is_in letters) p found.0 later.list (Contains-is_in letters found.0 found.1) later.matches;
        begins = ap (λ y. y ∷ (front ++ rest)) (sym found.2) ∙ ap (λ more. (found.0 + offset) ∷ more) later.begins;
        accepted = later.accepted;
      }

  loop_out : (p : List ℕ → Bool) (rest : List ℕ) → L rest → (list : List ℕ) → starred (is_in letters) p list ≡ true
      → BeginsWithLetters (raised offset letters) (BeginsWithList p offset L) (raised offset list ++ rest)
  loop_out p rest accepted [] h = record {
    front = [];
    rest = rest;
    are_letters = λ k d within. absurd (omega arith);
    joined = refl;
    accepted = record { list = []; rest = rest; matches = h; begins = refl; accepted = accepted };
  }
  loop_out p rest accepted (x ∷ xs) h = elim (cases_Bool (p (x ∷ xs))) [
    | inl here ↦ record {
      front = [];
      rest = raised offset (x ∷ xs) ++ rest;
      are_letters = λ k d within. absurd (omega arith);
      joined = refl;
      accepted = record { list = x ∷ xs; rest = rest; matches = here; begins = refl; accepted = accepted };
    }
    | inr other ↦
        let onward : (is_in letters x && starred (is_in letters) p xs) ≡ true =
        sym (ap (λ b. b || (is_in letters x && starred (is_in letters) p xs)) other) ∙ h in
        let parts = and_parts (is_in letters x) (starred (is_in letters) p xs) onward in
        let later = loop_out p rest accepted xs parts.1 in
        record {
          front = (x + offset) ∷ later.front;
          rest = later.rest;
          are_letters = All-cons (λ a. Contains (raised offset letters) a) (x + offset) later.front
              (Contains-map (λ a. a + offset) letters x (is_in-Contains letters x parts.0)) later.are_letters;
          joined = ap (λ more. (x + offset) ∷ more) later.joined;
          accepted = later.accepted;
        }
  ]

  loops_in : (p : List ℕ → Bool) (w : List ℕ) → BeginsWithLetters (raised offset letters) (BeginsWithList p offset L) w
      → BeginsWithList (starred (is_in letters) p) offset L w
  loops_in p w b = subst (BeginsWithList (starred (is_in letters) p) offset L) (sym b.joined) (loop_in p b.front b.rest b.are_letters b.accepted)

  loops_out : (p : List ℕ → Bool) (w : List ℕ) → BeginsWithList (starred (is_in letters) p) offset L w
      → BeginsWithLetters (raised offset letters) (BeginsWithList p offset L) w
  loops_out p w b = subst (BeginsWithLetters (raised offset letters) (BeginsWithList p offset L)) (sym b.begins) (loop_out p b.rest b.accepted b.list b.matches)

  plus_is : (p : List ℕ → Bool) (list : List ℕ) → repeated One (is_in letters) (starred (is_in letters) p) list ≡ repeated Plus (is_in letters) p list
  plus_is p [] = refl
  plus_is p (x ∷ xs) = refl

  star_is : (p : List ℕ → Bool) (list : List ℕ) → starred (is_in letters) p list ≡ repeated Star (is_in letters) p list
  star_is p [] = refl
  star_is p (x ∷ xs) = refl

  -- as many letters as the atom says
  pub atom_in : (many : Many) (p : List ℕ → Bool) (w : List ℕ) → BeginsWithAtom many (raised offset letters) (BeginsWithList p offset L) w
      → BeginsWithList (repeated many (is_in letters) p) offset L w
  atom_in One p w b = step_in p w b
  atom_in Star p w b =
      list-test (starred (is_in letters) p) (repeated Star (is_in letters) p) offset L (λ list h. sym (star_is p list) ∙ h) w (loops_in p w b)
  atom_in Plus p w b =
      list-test (repeated One (is_in letters) (starred (is_in letters) p)) (repeated Plus (is_in letters) p) offset L (λ list h. sym (plus_is p list) ∙ h) w
      (step_in (starred (is_in letters) p) w
      (letter-map (raised offset letters) (BeginsWithLetters (raised offset letters) (BeginsWithList p offset L))
      (BeginsWithList (starred (is_in letters) p) offset L) (loops_in p) w b))

  pub atom_out : (many : Many) (p : List ℕ → Bool) (w : List ℕ) → BeginsWithList (repeated many (is_in letters) p) offset L w
      → BeginsWithAtom many (raised offset letters) (BeginsWithList p offset L) w
  atom_out One p w b = step_out p w b
  atom_out Star p w b =
      loops_out p w (list-test (repeated Star (is_in letters) p) (starred (is_in letters) p) offset L (λ list h. star_is p list ∙ h) w b)
  atom_out Plus p w b =
      letter-map (raised offset letters) (BeginsWithList (starred (is_in letters) p) offset L)
      (BeginsWithLetters (raised offset letters) (BeginsWithList p offset L)) (loops_out p) w
      (step_out (starred (is_in letters) p) w
      (list-test (repeated Plus (is_in letters) p) (repeated One (is_in letters) (starred (is_in letters) p)) offset L (λ list h. plus_is p list ∙ h) w b))

-- an atom in front of others
pub atoms_more : (old mid new : NondeterministicAutomaton) (behind state next offset : ℕ) (atom : Atom) (atoms : List Atom)
    → IsAdded old mid behind (BeginsWithList (atoms_match atoms) offset (AcceptsFrom old next))
    → IsAdded mid new state (BeginsWithAtom atom.many (raised offset atom.letters) (AcceptsFrom mid behind))
    → IsAdded old new state (BeginsWithList (atoms_match (atom ∷ atoms)) offset (AcceptsFrom old next))
atoms_more old mid new behind state next offset atom atoms first second =
    let letters = raised offset atom.letters in
    added_then old mid new behind state (BeginsWithList (atoms_match atoms) offset (AcceptsFrom old next))
    (BeginsWithAtom atom.many letters (AcceptsFrom mid behind)) (BeginsWithList (atoms_match (atom ∷ atoms)) offset (AcceptsFrom old next)) first second
    (λ w. (
      λ b. atom_in offset atom.letters (AcceptsFrom old next) atom.many (atoms_match atoms) w
          (atom-map atom.many letters (AcceptsFrom mid behind) (BeginsWithList (atoms_match atoms) offset (AcceptsFrom old next))
          (λ u a. (first.accepts u).0 a) w b),
      λ b. atom-map atom.many letters (BeginsWithList (atoms_match atoms) offset (AcceptsFrom old next)) (AcceptsFrom mid behind)
          (λ u a. (first.accepts u).1 a) w
          (atom_out offset atom.letters (AcceptsFrom old next) atom.many (atoms_match atoms) w b),
    ))

-- one letter, and then a loop
pub plus_added : (old mid new : NondeterministicAutomaton) (behind state next : ℕ) (letters : List ℕ)
    → IsAdded old mid behind (BeginsWithLetters letters (AcceptsFrom old next)) → IsAdded mid new state (BeginsWithLetter letters (AcceptsFrom mid behind))
    → IsAdded old new state (BeginsWithLetter letters (BeginsWithLetters letters (AcceptsFrom old next)))
plus_added old mid new behind state next letters first second =
    added_then old mid new behind state (BeginsWithLetters letters (AcceptsFrom old next)) (BeginsWithLetter letters (AcceptsFrom mid behind))
    (BeginsWithLetter letters (BeginsWithLetters letters (AcceptsFrom old next))) first second
    (λ w. (
      letter-map letters (AcceptsFrom mid behind) (BeginsWithLetters letters (AcceptsFrom old next)) (λ u a. (first.accepts u).0 a) w,
      letter-map letters (BeginsWithLetters letters (AcceptsFrom old next)) (AcceptsFrom mid behind) (λ u a. (first.accepts u).1 a) w,
    ))

letter_below : (count : ℕ) (letters : List ℕ) (x : ℕ) → AllBelow count letters → is_in letters x ≡ true → nat_lt x count ≡ true
letter_below count [] x below h = absurd (false≢true h)
letter_below count (y ∷ ys) x below h = elim (cases_Bool (y == x)) [
  | inl here ↦ let e : y ≡ x = eqb-true y x here in lt-ltb x count (omega (arith, below.0))
  | inr other ↦ letter_below count ys x below.1 (sym (ap (λ b. b || is_in ys x) other) ∙ h)
]

module _ (count : ℕ) (letters : List ℕ) (below : AllBelow count letters) (p : List ℕ → Bool)
    (rest : (list : List ℕ) → p list ≡ true → list_all (λ a. nat_lt a count) list ≡ true) where
  starred_below : (list : List ℕ) → starred (is_in letters) p list ≡ true → list_all (λ a. nat_lt a count) list ≡ true
  starred_below [] h = refl
  starred_below (x ∷ xs) h = elim (cases_Bool (p (x ∷ xs))) [
    | inl here ↦ rest (x ∷ xs) here
    | inr other ↦
        let onward : (is_in letters x && starred (is_in letters) p xs) ≡ true =
        sym (ap (λ b. b || (is_in letters x && starred (is_in letters) p xs)) other) ∙ h in
        let parts = and_parts (is_in letters x) (starred (is_in letters) p xs) onward in
        and_from (nat_lt x count) (list_all (λ a. nat_lt a count) xs) (letter_below count letters x below parts.0) (starred_below xs parts.1)
  ]

  repeated_below : (many : Many) (list : List ℕ) → repeated many (is_in letters) p list ≡ true → list_all (λ a. nat_lt a count) list ≡ true
  repeated_below One [] h = refl
  repeated_below One (x ∷ xs) h =
      let parts = and_parts (is_in letters x) (p xs) h in
      and_from (nat_lt x count) (list_all (λ a. nat_lt a count) xs) (letter_below count letters x below parts.0) (rest xs parts.1)
  repeated_below Star list h = starred_below list (star_is 0 letters (λ w. ⊥) p list ∙ h)
  repeated_below Plus [] h = refl
  repeated_below Plus (x ∷ xs) h =
      let parts = and_parts (is_in letters x) (starred (is_in letters) p xs) h in
      and_from (nat_lt x count) (list_all (λ a. nat_lt a count) xs) (letter_below count letters x below parts.0) (starred_below xs parts.1)

-- a list that the atoms match has letters of the section alone
pub atoms_below : (count : ℕ) (atoms : List Atom) → AllByRecursion (λ atom. AllBelow count atom.letters) atoms → (list : List ℕ)
    → atoms_match atoms list ≡ true → list_all (λ a. nat_lt a count) list ≡ true
atoms_below count [] all [] h = refl
atoms_below count [] all (x ∷ xs) h = absurd (omega (arith, eqb-true (length (x ∷ xs)) 0 h))
atoms_below count (atom ∷ atoms) all list h =
    repeated_below count atom.letters all.0 (atoms_match atoms) (atoms_below count atoms all.1) atom.many list h

-- letters once or more
pub atom_plus : (old mid new : NondeterministicAutomaton) (behind state next : ℕ) (many : Many) (letters first second : List ℕ) → many ≡ Plus
    → first ≡ letters → second ≡ letters → IsAdded old mid behind (BeginsWithLetters first (AcceptsFrom old next))
    → IsAdded mid new state (BeginsWithLetter second (AcceptsFrom mid behind)) → IsAdded old new state (BeginsWithAtom many letters (AcceptsFrom old next))
atom_plus old mid new behind state next many letters first second plus one two a b =
    subst (λ m. IsAdded old new state (BeginsWithAtom m letters (AcceptsFrom old next))) (sym plus)
    (plus_added old mid new behind state next letters
    (subst (λ l. IsAdded old mid behind (BeginsWithLetters l (AcceptsFrom old next))) one a)
    (subst (λ l. IsAdded mid new state (BeginsWithLetter l (AcceptsFrom mid behind))) two b))
