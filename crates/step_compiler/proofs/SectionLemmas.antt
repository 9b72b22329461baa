-- What the transducers of moves and of copies relate, as steps of one section.
use Rattle.std.proofs.Common.{◌≡◌, ◌==◌, ◌||◌, ◌↔◌, ℕ, ◌+◌, ◌-◌, ◌<◌, ◌≤◌, Bool, false, List, [], ◌∷◌, Option, None, Some}
use Rattle.std.proofs.Common.{length, nat_lt, refl, sym, ap, ◌∙◌, subst, arith, IsTrue, All, eqb-true}
use Rattle.std.specs.List.{list_all}
use Rattle.std.proofs.lemmas.Bool.{and_parts, and_from, or_left, or_right}
use Rattle.std.proofs.lemmas.List.Elements.{All-nil, All-cons, All-head, All-tail}
use Rattle.protocol_syntax.specs.declared.Kind.{Kind}
use Rattle.protocol_syntax.specs.declared.Kind.TheVariants.{Cell}
use Rattle.protocol_model.specs.declared.system.Section.{Section}
use Rattle.protocol_syntax.specs.declared.protocol.Move.TheVariants.{Set}
use Rattle.protocol_model.specs.System.{Move, AllBelow, belongs_to, letter_count}
use Rattle.protocol_model.specs.Moves.{IsMove}
use Rattle.protocol_model.specs.Patterns.{has_any_length}
use Rattle.protocol_model.specs.Raised.{IsRaisedMove}
use Rattle.protocol_model.specs.Steps.{ChangesBy}
use Rattle.protocol_model.specs.Words.{raised}
use Rattle.protocol_model.proofs.ForCallers.{AllBelow-from_test, test_from_AllBelow, any_length}
use Rattle.transducers.specs.Transducer.{Transducer, Relates}
use Rattle.step_compiler.specs.Sections.{Stays, IsMoveOf, IsSectionStep, IsSectionTransducer}

-- whether a list has a length that the kind allows
abbrev pub has_length : Kind → List ℕ → Bool
has_length kind list = has_any_length kind || (length list == 1)

-- a relation of lists in range is a step of the section where it is the change, and keeps the lengths that the kind allows
pub section_step : (section : Section) (move : Option Move) (P : List ℕ → List ℕ → Type 0) (offset count : ℕ)
    → count ≡ letter_count section
    → ((old new : List ℕ) → P old new → ChangesBy move old new × IsTrue (has_length section.kind old) × IsTrue (has_length section.kind new))
    → ((old new : List ℕ) → ChangesBy move old new → IsTrue (has_length section.kind old) → P old new)
    → (u w : List ℕ) → IsRaisedMove P offset count u w ↔ IsSectionStep section move offset u w
section_step section move P offset count same there back u w = (
  λ m. let moved = there m.old m.new m.leads in
      record {
        old = m.old;
        new = m.new;
        old_fits = and_from (list_all (λ a. nat_lt a (letter_count section)) m.old) (has_length section.kind m.old)
            (test_from_AllBelow (letter_count section) m.old (subst (λ n. AllBelow n m.old) same m.old_in_range)) moved.1;
        new_fits = and_from (list_all (λ a. nat_lt a (letter_count section)) m.new) (has_length section.kind m.new)
            (test_from_AllBelow (letter_count section) m.new (subst (λ n. AllBelow n m.new) same m.new_in_range)) moved.2;
        word_before = m.word_before;
        word_after = m.word_after;
        changes = moved.0;
      },
  λ s. let old_fits = and_parts (list_all (λ a. nat_lt a (letter_count section)) s.old) (has_length section.kind s.old) s.old_fits in
      let new_fits = and_parts (list_all (λ a. nat_lt a (letter_count section)) s.new) (has_length section.kind s.new) s.new_fits in
      record {
        old = s.old;
        new = s.new;
        old_in_range = subst (λ n. AllBelow n s.old) (sym same) (AllBelow-from_test (letter_count section) s.old old_fits.0);
        new_in_range = subst (λ n. AllBelow n s.new) (sym same) (AllBelow-from_test (letter_count section) s.new new_fits.0);
        word_before = s.word_before;
        word_after = s.word_after;
        leads = back s.old s.new s.changes old_fits.1;
      },
)

-- the lists of a move have the lengths that its kind allows
one_letter : (kind : Kind) (a : ℕ) (xs : List ℕ) → xs ≡ a ∷ [] → IsTrue (has_length kind xs)
one_letter kind a xs e = or_right (has_any_length kind) (length xs == 1) (ap (λ l. length l == 1) e)

any_lengths : (m : Move) (kind : Kind) (old new : List ℕ) → belongs_to m Cell ≡ false → IsTrue (belongs_to m kind)
    → IsTrue (has_length kind old) × IsTrue (has_length kind new)
any_lengths m kind old new no_cell e =
    let any = any_length (belongs_to m) kind no_cell e in
    (or_left (has_any_length kind) (length old == 1) any, or_left (has_any_length kind) (length new == 1) any)

move_lengths : (m : Move) (kind : Kind) (old new : List ℕ) → IsTrue (belongs_to m kind) → IsMove m old new
    → IsTrue (has_length kind old) × IsTrue (has_length kind new)
move_lengths (Set a b) kind old new e h = (one_letter kind a old h.0, one_letter kind b new h.1)
move_lengths m kind old new e h = any_lengths m kind old new refl e

-- a transducer of the section, from its move or from none
pub moved_transducer : (section : Section) (m : Move) (move : Option Move) (letters offset count : ℕ) (t : Transducer)
    → move ≡ Some m → count ≡ letter_count section → IsMoveOf section m → t.letters ≡ letters
    → ((u w : List ℕ) → Relates t u w ↔ IsRaisedMove (IsMove m) offset count u w) → IsSectionTransducer section move letters offset t
moved_transducer section m move letters offset count t e same of same_letters related =
    let lengths : (old new : List ℕ) → IsMove m old new → IsMove m old new × IsTrue (has_length section.kind old)
    × IsTrue (has_length section.kind new) =
    λ old new h. let both = move_lengths m section.kind old new of.of_kind h in (h, both.0, both.1) in
    let steps = section_step section (Some m) (IsMove m) offset count same lengths (λ old new h g. h) in
    subst (λ o. IsSectionTransducer section o letters offset t) (sym e) (record {
      same_letters = same_letters;
      related = λ u w. (λ r. (steps u w).0 ((related u w).0 r), λ s. (related u w).1 ((steps u w).1 s));
    })

pub staying_transducer : (section : Section) (move : Option Move) (letters offset count : ℕ) (t : Transducer)
    → move ≡ None → count ≡ letter_count section → t.letters ≡ letters
    → ((u w : List ℕ) → Relates t u w ↔ IsRaisedMove (Stays section.kind) offset count u w)
    → IsSectionTransducer section move letters offset t
staying_transducer section move letters offset count t e same same_letters related =
    let steps = section_step section None (Stays section.kind) offset count same
    (λ old new h. (h.0, h.1, subst (λ l. IsTrue (has_length section.kind l)) h.0 h.1)) (λ old new h g. (h, g)) in
    subst (λ o. IsSectionTransducer section o letters offset t) (sym e) (record {
      same_letters = same_letters;
      related = λ u w. (λ r. (steps u w).0 ((related u w).0 r), λ s. (related u w).1 ((steps u w).1 s));
    })

-- letters of a section among others
abbrev pub IsLetter : ℕ → ℕ → ℕ → Type 0
IsLetter offset count a = (offset ≤ a) × (a < offset + count)

abbrev lowered : ℕ → List ℕ → List ℕ
lowered offset [] = []
lowered offset (a ∷ xs) = (a - offset) ∷ lowered offset xs

lowered_below : (offset count : ℕ) (xs : List ℕ) → All (IsLetter offset count) xs → AllBelow count (lowered offset xs)
lowered_below offset count [] h = tt
lowered_below offset count (a ∷ xs) h =
    let here = All-head (IsLetter offset count) a xs h in
    (omega (arith, here.0, here.1), lowered_below offset count xs (All-tail (IsLetter offset count) a xs h))

raised-lowered : (offset count : ℕ) (xs : List ℕ) → All (IsLetter offset count) xs → xs ≡ raised offset (lowered offset xs)
raised-lowered offset count [] h = refl
raised-lowered offset count (a ∷ xs) h =
    let here = All-head (IsLetter offset count) a xs h in
    let back : a ≡ a - offset + offset = omega (arith, here.0) in
    λ i. back i ∷ raised-lowered offset count xs (All-tail (IsLetter offset count) a xs h) i

raised_letters : (offset count : ℕ) (xs : List ℕ) → AllBelow count xs → All (IsLetter offset count) (raised offset xs)
raised_letters offset count [] h = All-nil (IsLetter offset count)
raised_letters offset count (a ∷ xs) h =
    All-cons (IsLetter offset count) (a + offset) (raised offset xs) (omega arith, omega (arith, h.0)) (raised_letters offset count xs h.1)

-- a copy of words of any length
pub copies_any : (kind : Kind) (offset count : ℕ) → IsTrue (has_any_length kind) → (u w : List ℕ)
    → ((u ≡ w) × All (IsLetter offset count) u) ↔ IsRaisedMove (Stays kind) offset count u w
copies_any kind offset count any u w = (
  λ h. record {
    old = lowered offset u;
    new = lowered offset u;
    old_in_range = lowered_below offset count u h.1;
    new_in_range = lowered_below offset count u h.1;
    word_before = raised-lowered offset count u h.1;
    word_after = sym h.0 ∙ raised-lowered offset count u h.1;
    leads = (refl, ap (λ b. b || (length (lowered offset u) == 1)) any);
  },
  λ m. (
    m.word_before ∙ ap (raised offset) m.leads.0 ∙ sym m.word_after,
    subst (All (IsLetter offset count)) (sym m.word_before) (raised_letters offset count m.old m.old_in_range),
  ),
)

-- a list of one letter
single : (xs : List ℕ) → IsTrue (length xs == 1) → (a : ℕ) × (xs ≡ a ∷ [])
single [] h = absurd (omega (arith, eqb-true 0 1 h))
single (a ∷ []) h = (a, refl)
single (a ∷ (b ∷ xs)) h = absurd (omega (arith, eqb-true (length (a ∷ (b ∷ xs))) 1 h))

-- a copy of words of one letter
pub copies_one : (offset count : ℕ) (u w : List ℕ)
    → ((a : ℕ) × (offset ≤ a) × (a < offset + count) × (u ≡ a ∷ []) × (w ≡ a ∷ [])) ↔ IsRaisedMove (Stays Cell) offset count u w
copies_one offset count u w = (
  λ h. let back : h.0 ≡ h.0 - offset + offset = omega (arith, h.1) in
      let below : h.0 - offset < count = omega (arith, h.1, h.2) in
      record {
        old = (h.0 - offset) ∷ [];
        new = (h.0 - offset) ∷ [];
        old_in_range = (below, tt);
        new_in_range = (below, tt);
        word_before = h.3 ∙ (λ i. back i ∷ []);
        word_after = h.4 ∙ (λ i. back i ∷ []);
        leads = (refl, refl);
      },
  λ m. let one = single m.old m.leads.1 in
      let below = subst (AllBelow count) one.1 m.old_in_range in (
        one.0 + offset,
        omega arith,
        omega (arith, below.0),
        m.word_before ∙ ap (raised offset) one.1,
        m.word_after ∙ ap (raised offset) (sym m.leads.0 ∙ one.1),
      ),
)
