-- Lemmas on all sections of a rule, and on rules.
use Rattle.std.proofs.Common.{◌≡◌, ◌==◌, ◌↔◌, ℕ, suc, ◌+◌, ◌<◌, ◌≤◌, Bool, true, false, List, [], ◌∷◌, ◌++◌, Some}
use Rattle.std.proofs.Common.{length, slice_get, get_or, take, drop, add-zero, refl, sym, ap, ◌∙◌, subst, arith, All, zero-add}
use Rattle.std.proofs.Common.{eqb-true, if◌then◌else◌}
use Rattle.std.proofs.Common.{Result, Ok, Err, IfOk}
use Rattle.std.specs.List.{AllByRecursion}
use Rattle.std.proofs.lemmas.List.{take_more, take-append-drop, length-take-le}
use Rattle.std.proofs.lemmas.List.Sums.{sum_by-append, sum_by-cons}
use Rattle.std.proofs.lemmas.List.Elements.{All-nil, All-cons, All-weaker, All-from_recursion}
use Rattle.std.proofs.lemmas.Option.{same_Some, slice_get_read}
use Rattle.protocol_model.specs.declared.system.Section.{Section}
use Rattle.protocol_model.specs.declared.system.Rule.{Rule}
use Rattle.protocol_model.specs.declared.system.Configuration.{Configuration}
use Rattle.protocol_model.specs.System.{Move, SystemData, IsValid, IsValidPart, IsValidRule, letter_count, total_letters}
use Rattle.protocol_model.specs.Steps.{ChangesBy, move_of}
use Rattle.protocol_model.specs.Words.{separator_of, automata_letters, IsWordStep}
use Rattle.transducers.specs.Transducer.{Transducer, Relates}
use Rattle.transducers.specs.Joining.{RelatesJoined, letters_of}
use Rattle.step_compiler.specs.Rules.{IsRuleStep}
use Rattle.step_compiler.specs.Sections.{IsMoveOf, IsSectionTransducer, AreSectionTransducers}
use Rattle.step_compiler.proofs.WordLemmas.{list_of, steps_from_joined, joined_from_steps}

-- the move of a section's number is one of its section
move_at : (sections : List Section) (section : Section) (part : ℕ × Move) (moves : List (ℕ × Move)) (number : ℕ) (m : Move) (b : Bool)
    → IsValidPart sections part → slice_get sections number ≡ Some section → (part.0 == number) ≡ b
    → (if b then Some part.1 else move_of moves number) ≡ Some m → (move_of moves number ≡ Some m → IsMoveOf section m) → IsMoveOf section m
move_at sections section part moves number m true valid there is e others =
    let same : part.0 ≡ number = eqb-true part.0 number is in
    let found : valid.section ≡ section = same_Some valid.section section
    (sym valid.is_there ∙ ap (λ k. slice_get sections k) same ∙ there) in
    subst (λ m. IsMoveOf section m) (same_Some part.1 m e)
    (subst (λ s. IsMoveOf s part.1) found (record { of_kind = valid.of_kind; valid = valid.valid_move }))
move_at sections section part moves number m false valid there is e others = others e

pub move_is_of : (sections : List Section) (section : Section) (moves : List (ℕ × Move)) (number : ℕ) (m : Move)
    → AllByRecursion (IsValidPart sections) moves → slice_get sections number ≡ Some section → move_of moves number ≡ Some m
    → IsMoveOf section m
move_is_of sections section [] number m valid there e = cc
move_is_of sections section (part ∷ moves) number m valid there e =
    move_at sections section part moves number m (part.0 == number) valid.0 there refl e
    (λ rest. move_is_of sections section moves number m valid.1 there rest)

-- one more section behind the others
pub transducers_more : (moves : List (ℕ × Move)) (letters number offset : ℕ) (sections : List Section) (parts : List Transducer)
    (section : Section) (part : Transducer) → AreSectionTransducers moves letters number offset sections parts
    → IsSectionTransducer section (move_of moves (number + length sections)) letters (offset + total_letters sections) part
    → AreSectionTransducers moves letters number offset (sections ++ section ∷ []) (parts ++ part ∷ [])
transducers_more moves letters number offset [] [] section part are is = (
  subst (λ o. IsSectionTransducer section (move_of moves number) letters o part) (add-zero offset)
      (subst (λ n. IsSectionTransducer section (move_of moves n) letters (offset + 0) part) (add-zero number) is),
  tt,
)
transducers_more moves letters number offset [] (other ∷ parts) section part are is = absurd are
transducers_more moves letters number offset (other ∷ sections) [] section part are is = absurd are
transducers_more moves letters number offset (other ∷ sections) (first ∷ parts) section part are is =
    let next : number + suc (length sections) ≡ number + 1 + length sections = omega arith in
    let behind : offset + total_letters (other ∷ sections) ≡ offset + letter_count other + total_letters sections =
    ap (λ n. offset + n) (sum_by-cons letter_count other sections) ∙ omega arith in (
      are.0,
      transducers_more moves letters (number + 1) (offset + letter_count other) sections parts section part are.1
          (subst (λ o. IsSectionTransducer section (move_of moves (number + 1 + length sections)) letters o part) behind
          (subst (λ n. IsSectionTransducer section (move_of moves n) letters (offset + total_letters (other ∷ sections)) part) next is)),
    )

-- letters of the sections so far, and of one more
pub letters_more : (sections : List Section) (i : ℕ) (section : Section) → i < length sections → section ≡ get_or sections i section
    → total_letters (take (i + 1) sections) ≡ total_letters (take i sections) + letter_count section
letters_more sections i section h at =
    ap total_letters (take_more sections i section h) ∙ sum_by-append letter_count (take i sections) (get_or sections i section ∷ [])
    ∙ ap (λ n. total_letters (take i sections) + n)
    (sum_by-cons letter_count (get_or sections i section) [] ∙ add-zero (letter_count (get_or sections i section))
    ∙ ap letter_count (sym at))

-- no more letters so far than altogether
pub letters_within : (sections : List Section) (i : ℕ) → total_letters (take i sections) ≤ total_letters sections
letters_within sections i =
    let all : total_letters (take i sections) + total_letters (drop i sections) ≡ total_letters sections =
    sym (sum_by-append letter_count (take i sections) (drop i sections)) ∙ ap total_letters (take-append-drop i sections) in
    omega arith

-- all of these transducers have so many letters, and there is one where there is a section
pub letters_are : (moves : List (ℕ × Move)) (letters number offset : ℕ) (sections : List Section) (parts : List Transducer)
    → AreSectionTransducers moves letters number offset sections parts → All (λ part. part.letters ≡ letters) parts
letters_are moves letters number offset [] [] are = All-nil (λ part. part.letters ≡ letters)
letters_are moves letters number offset [] (part ∷ parts) are = absurd are
letters_are moves letters number offset (section ∷ sections) [] are = absurd are
letters_are moves letters number offset (section ∷ sections) (part ∷ parts) are =
    All-cons (λ part. part.letters ≡ letters) part parts are.0.same_letters
    (letters_are moves letters (number + 1) (offset + letter_count section) sections parts are.1)

pub first_letters : (moves : List (ℕ × Move)) (letters number offset : ℕ) (sections : List Section) (parts : List Transducer)
    → 0 < length sections → AreSectionTransducers moves letters number offset sections parts → letters_of parts ≡ letters
first_letters moves letters number offset [] parts some are = absurd (omega arith)
first_letters moves letters number offset (section ∷ sections) [] some are = absurd are
first_letters moves letters number offset (section ∷ sections) (part ∷ parts) some are = are.0.same_letters

-- the joined transducers of a rule relate the words before and after its steps
pub rule_steps : (s : SystemData) (rule : Rule) (letters r : ℕ) (parts : List Transducer) (t : Transducer)
    → 0 < length s.sections → AreSectionTransducers rule.moves letters 0 0 s.sections parts → slice_get s.rules r ≡ Some rule
    → ((u w : List ℕ) → Relates t u w ↔ RelatesJoined (separator_of s) parts u w)
    → (u w : List ℕ) → Relates t u w ↔ IsRuleStep s r u w
rule_steps s rule letters r parts t some are is_rule related u w = (
  λ h. let steps = steps_from_joined rule.moves letters (separator_of s) parts s.sections 0 0 u w are ((related u w).0 h) in
      let old : Configuration = record { lists = steps.olds } in
      let new : Configuration = record { lists = steps.news } in
      record {
        old = old;
        new = new;
        word_before = steps.word_before;
        word_after = steps.word_after;
        step = record {
          rule = rule;
          is_rule = is_rule;
          fits_before = steps.olds_fit;
          fits_after = steps.news_fit;
          changes = λ k h. subst (λ n. ChangesBy (move_of rule.moves n) (list_of steps.olds k) (list_of steps.news k)) (zero-add k)
              (steps.changes k h);
        };
      },
  λ h. let same : h.step.rule ≡ rule = same_Some h.step.rule rule (sym h.step.is_rule ∙ is_rule) in
      (related u w).1 (joined_from_steps rule.moves letters (separator_of s) parts s.sections 0 0 u w some are (record {
        olds = h.old.lists;
        news = h.new.lists;
        olds_fit = h.step.fits_before;
        news_fit = h.step.fits_after;
        word_before = h.word_before;
        word_after = h.word_after;
        changes = λ k lt. subst (λ n. ChangesBy (move_of rule.moves n) (list_of h.old.lists k) (list_of h.new.lists k)) (sym (zero-add k))
            (subst (λ x. ChangesBy (move_of x.moves k) (list_of h.old.lists k) (list_of h.new.lists k)) same (h.step.changes k lt));
      })),
)

-- a step of the system is a step of some rule
pub word_step : (s : SystemData) (u w : List ℕ) → IsWordStep s u w ↔ ((r : ℕ) × IsRuleStep s r u w)
word_step s u w = (
  λ h. (h.rule, record { old = h.old; new = h.new; word_before = h.word_before; word_after = h.word_after; step = h.step }),
  λ h. record {
    rule = h.0;
    old = h.1.old;
    new = h.1.new;
    word_before = h.1.word_before;
    word_after = h.1.word_after;
    step = h.1.step;
  },
)

-- one more section compiled, as the code does it
pub sections_pushed : (moves : List (ℕ × Move)) (letters : ℕ) (sections : List Section) (i offset : ℕ) (section : Section)
    (parts after : List Transducer) (part : Transducer) → i < length sections → section ≡ get_or sections i section
    → offset ≡ total_letters (take i sections) → AreSectionTransducers moves letters 0 0 (take i sections) parts
    → IsSectionTransducer section (move_of moves i) letters offset part → after ≡ parts ++ part ∷ []
    → AreSectionTransducers moves letters 0 0 (take (i + 1) sections) after
sections_pushed moves letters sections i offset section parts after part lt at behind are is pushed =
    let number : i ≡ 0 + length (take i sections) = sym (zero-add (length (take i sections)) ∙ length-take-le i sections (omega arith)) in
    let start : offset ≡ 0 + total_letters (take i sections) = behind ∙ sym (zero-add (total_letters (take i sections))) in
    let all : take (i + 1) sections ≡ take i sections ++ section ∷ [] =
    take_more sections i section lt ∙ ap (λ s. take i sections ++ s ∷ []) (sym at) in
    subst (λ l. AreSectionTransducers moves letters 0 0 l after) (sym all)
    (subst (AreSectionTransducers moves letters 0 0 (take i sections ++ section ∷ [])) (sym pushed)
    (transducers_more moves letters 0 0 (take i sections) parts section part are
    (subst (λ o. IsSectionTransducer section (move_of moves (0 + length (take i sections))) letters o part) start
    (subst (λ n. IsSectionTransducer section (move_of moves n) letters offset part) number is))))

-- the parts of a rule, as the code makes them
pub rule_parts : (s : SystemData) (rule : Rule) (separator : ℕ) (moves : List (ℕ × Move)) (sections : List Section)
    (parts slice : List Transducer) → moves ≡ rule.moves → sections ≡ s.sections → separator ≡ separator_of s → slice ≡ parts
    → AreSectionTransducers moves (separator + 1) 0 0 sections parts
    → AreSectionTransducers rule.moves (automata_letters s) 0 0 s.sections slice
rule_parts s rule separator moves sections parts slice em es en ep are =
    let letters : separator + 1 ≡ automata_letters s = ap (λ n. n + 1) en in
    subst (AreSectionTransducers rule.moves (automata_letters s) 0 0 s.sections) (sym ep)
    (subst (λ l. AreSectionTransducers rule.moves (automata_letters s) 0 0 l parts) es
    (subst (λ l. AreSectionTransducers rule.moves l 0 0 sections parts) letters
    (subst (λ m. AreSectionTransducers m (separator + 1) 0 0 sections parts) em are)))

-- they have the letters of the first
pub same_letters : (moves : List (ℕ × Move)) (letters : ℕ) (sections : List Section) (parts : List Transducer) → 0 < length sections
    → AreSectionTransducers moves letters 0 0 sections parts → All (λ part. part.letters ≡ letters_of parts) parts
same_letters moves letters sections parts some are =
    All-weaker (λ part. part.letters ≡ letters) (λ part. part.letters ≡ letters_of parts)
    (λ part e. e ∙ sym (first_letters moves letters 0 0 sections parts some are)) parts (letters_are moves letters 0 0 sections parts are)

-- the rule at a place, and its validity
module _ (s : SystemData) (rules : List Rule) (i : ℕ) (rule : Rule) (are : rules ≡ s.rules) (within : i < length s.rules)
    (at : rule ≡ get_or rules i rule) where
  is : rule ≡ get_or s.rules i rule
  is = subst (λ xs. rule ≡ get_or xs i rule) are at

  pub rule_there : slice_get s.rules i ≡ Some rule
  rule_there = slice_get_read s.rules (length s.rules) i rule refl within is

  pub rule_valid : IsValid s → IsValidRule s.sections rule
  rule_valid valid =
      subst (IsValidRule s.sections) (sym is) (All-from_recursion (IsValidRule s.sections) s.rules valid.each_rule i rule within)

-- two facts of a result that lead to a third
pub ok_from_both : {X Y : Type 0} (r : Result X Y) (P Q R : X → Type 0) → ((x : X) → P x → Q x → R x) → IfOk r P → IfOk r Q → IfOk r R
ok_from_both (Ok x) P Q R f p q = f x p q
ok_from_both (Err e) P Q R f p q = p
