-- What transducers of sections relate when they are joined: the words of lists that change section by section.
use Rattle.std.proofs.Common.{◌≡◌, ℕ, zero, suc, ◌+◌, ◌<◌, true, List, [], ◌∷◌, ◌++◌, length, slice_get, unwrap_or}
use Rattle.std.proofs.Common.{refl, sym, ap, ◌∙◌, subst, arith, true≢false, add-zero}
use Rattle.std.proofs.lemmas.Bool.{and_parts, and_from}
use Rattle.protocol_model.specs.declared.system.Section.{Section}
use Rattle.protocol_model.specs.System.{Move, letter_count}
use Rattle.protocol_model.specs.Patterns.{list_fits, lists_fit}
use Rattle.protocol_model.specs.Steps.{ChangesBy, move_of}
use Rattle.protocol_model.specs.Words.{raised, raised_lists, joined}
use Rattle.transducers.specs.Transducer.{Transducer}
use Rattle.transducers.specs.Joining.{RelatesJoined}
use Rattle.step_compiler.specs.Sections.{AreSectionTransducers}

-- the list of this number
abbrev pub list_of : List (List ℕ) → ℕ → List ℕ
list_of lists k = unwrap_or (slice_get lists k) []

-- from a number on, each list of the sections changes by the move of its section
abbrev pub AllChange : List (ℕ × Move) → ℕ → ℕ → List (List ℕ) → List (List ℕ) → Type 0
AllChange moves number size olds news = (k : ℕ) → k < size → ChangesBy (move_of moves (number + k)) (list_of olds k) (list_of news k)

-- the words are those of lists of these sections, and each list changes by the move of its section
pub record AreListSteps (moves : List (ℕ × Move)) (separator number offset : ℕ) (sections : List Section) (u w : List ℕ) : Type 0 where
  pub olds : List (List ℕ)
  pub news : List (List ℕ)
  pub olds_fit : lists_fit sections olds ≡ true
  pub news_fit : lists_fit sections news ≡ true
  pub word_before : u ≡ joined separator (raised_lists offset sections olds)
  pub word_after : w ≡ joined separator (raised_lists offset sections news)
  pub changes : AllChange moves number (length sections) olds news

-- lists that fit, cut behind the first
record IsCut (section : Section) (sections : List Section) (lists : List (List ℕ)) : Type 0 where
  first : List ℕ
  others : List (List ℕ)
  lists_are : lists ≡ first ∷ others
  first_fits : list_fits section first ≡ true
  others_fit : lists_fit sections others ≡ true

cut : (section : Section) (sections : List Section) (lists : List (List ℕ)) → lists_fit (section ∷ sections) lists ≡ true
    → IsCut section sections lists
cut section sections [] h = absurd (true≢false (sym h))
cut section sections (list ∷ lists) h =
    let parts = and_parts (list_fits section list) (lists_fit sections lists) h in
    record { first = list; others = lists; lists_are = refl; first_fits = parts.0; others_fit = parts.1 }

no_more : (lists : List (List ℕ)) → lists_fit [] lists ≡ true → lists ≡ []
no_more [] h = refl
no_more (list ∷ lists) h = absurd (true≢false (sym h))

-- a word before those of the sections that follow
joined_cons : (separator offset : ℕ) (word : List ℕ) (section : Section) (sections : List Section) (lists : List (List ℕ))
    → lists_fit (section ∷ sections) lists ≡ true
    → joined separator (word ∷ raised_lists offset (section ∷ sections) lists)
    ≡ word ++ separator ∷ joined separator (raised_lists offset (section ∷ sections) lists)
joined_cons separator offset word section sections [] h = absurd (true≢false (sym h))
joined_cons separator offset word section sections (list ∷ lists) h = refl

-- one more list in front, and one less
change_more : (moves : List (ℕ × Move)) (number size : ℕ) (old new : List ℕ) (olds news : List (List ℕ))
    → ChangesBy (move_of moves number) old new → AllChange moves (number + 1) size olds news
    → AllChange moves number (suc size) (old ∷ olds) (new ∷ news)
change_more moves number size old new olds news first others zero h =
    subst (λ n. ChangesBy (move_of moves n) old new) (sym (add-zero number)) first
change_more moves number size old new olds news first others (suc k) h =
    let same : number + 1 + k ≡ number + suc k = omega arith in
    subst (λ n. ChangesBy (move_of moves n) (list_of olds k) (list_of news k)) same (others k (omega arith))

change_first : (moves : List (ℕ × Move)) (number size : ℕ) (old new : List ℕ) (olds news : List (List ℕ))
    → AllChange moves number (suc size) (old ∷ olds) (new ∷ news) → ChangesBy (move_of moves number) old new
change_first moves number size old new olds news all =
    subst (λ n. ChangesBy (move_of moves n) old new) (add-zero number) (all 0 (omega arith))

change_others : (moves : List (ℕ × Move)) (number size : ℕ) (old new : List ℕ) (olds news : List (List ℕ))
    → AllChange moves number (suc size) (old ∷ olds) (new ∷ news) → AllChange moves (number + 1) size olds news
change_others moves number size old new olds news all k h =
    let same : number + suc k ≡ number + 1 + k = omega arith in
    subst (λ n. ChangesBy (move_of moves n) (list_of olds k) (list_of news k)) same (all (suc k) (omega arith))

module _ (moves : List (ℕ × Move)) (letters separator : ℕ) where
  -- what the joined transducers relate are words of lists that change
  pub steps_from_joined : (parts : List Transducer) (sections : List Section) (number offset : ℕ) (u w : List ℕ)
      → AreSectionTransducers moves letters number offset sections parts → RelatesJoined separator parts u w
      → AreListSteps moves separator number offset sections u w
  steps_from_joined [] sections number offset u w are j = absurd j
  steps_from_joined (part ∷ []) [] number offset u w are j = absurd are
  steps_from_joined (part ∷ []) (section ∷ []) number offset u w are j =
      let s = (are.0.related u w).0 j in
      record {
        olds = s.old ∷ [];
        news = s.new ∷ [];
        olds_fit = and_from (list_fits section s.old) true s.old_fits refl;
        news_fit = and_from (list_fits section s.new) true s.new_fits refl;
        word_before = s.word_before;
        word_after = s.word_after;
        changes = change_more moves number 0 s.old s.new [] [] s.changes (λ k h. absurd (omega arith));
      }
  steps_from_joined (part ∷ []) (section ∷ (second ∷ sections)) number offset u w are j = absurd are.1
  steps_from_joined (part ∷ (next ∷ parts)) [] number offset u w are j = absurd are
  steps_from_joined (part ∷ (next ∷ parts)) (section ∷ []) number offset u w are j = absurd are.1
  steps_from_joined (part ∷ (next ∷ parts)) (section ∷ (second ∷ sections)) number offset u w are j =
      let s = (are.0.related j.u_front j.w_front).0 j.front in
      let rest = steps_from_joined (next ∷ parts) (second ∷ sections) (number + 1) (offset + letter_count section) j.u_back j.w_back
      are.1 j.back in
      record {
        olds = s.old ∷ rest.olds;
        news = s.new ∷ rest.news;
        olds_fit = and_from (list_fits section s.old) (lists_fit (second ∷ sections) rest.olds) s.old_fits rest.olds_fit;
        news_fit = and_from (list_fits section s.new) (lists_fit (second ∷ sections) rest.news) s.new_fits rest.news_fit;
        word_before = j.u_is ∙ (λ i. s.word_before i ++ separator ∷ rest.word_before i)
            ∙ sym (joined_cons separator (offset + letter_count section) (raised offset s.old) second sections rest.olds rest.olds_fit);
        word_after = j.w_is ∙ (λ i. s.word_after i ++ separator ∷ rest.word_after i)
            ∙ sym (joined_cons separator (offset + letter_count section) (raised offset s.new) second sections rest.news rest.news_fit);
        changes = change_more moves number (length (second ∷ sections)) s.old s.new rest.olds rest.news s.changes rest.changes;
      }

  -- the steps of lists that are cut behind the first
  cut_steps : (section : Section) (sections : List Section) (number offset : ℕ) (u w : List ℕ)
      → (s : AreListSteps moves separator number offset (section ∷ sections) u w)
      → (old : IsCut section sections s.olds) → (new : IsCut section sections s.news)
      → AllChange moves number (suc (length sections)) (old.first ∷ old.others) (new.first ∷ new.others)
  cut_steps section sections number offset u w s old new =
      subst (λ ls. AllChange moves number (suc (length sections)) ls (new.first ∷ new.others)) old.lists_are
      (subst (λ ls. AllChange moves number (suc (length sections)) s.olds ls) new.lists_are s.changes)

  -- words of lists that change are related by the joined transducers
  pub joined_from_steps : (parts : List Transducer) (sections : List Section) (number offset : ℕ) (u w : List ℕ)
      → 0 < length sections → AreSectionTransducers moves letters number offset sections parts
      → AreListSteps moves separator number offset sections u w → RelatesJoined separator parts u w
  joined_from_steps [] [] number offset u w some are s = absurd (omega arith)
  joined_from_steps [] (section ∷ sections) number offset u w some are s = absurd are
  joined_from_steps (part ∷ []) [] number offset u w some are s = absurd are
  joined_from_steps (part ∷ []) (section ∷ []) number offset u w some are s =
      let old = cut section [] s.olds s.olds_fit in
      let new = cut section [] s.news s.news_fit in
      let old_alone : s.olds ≡ old.first ∷ [] = old.lists_are ∙ ap (λ ls. old.first ∷ ls) (no_more old.others old.others_fit) in
      let new_alone : s.news ≡ new.first ∷ [] = new.lists_are ∙ ap (λ ls. new.first ∷ ls) (no_more new.others new.others_fit) in
      (are.0.related u w).1 (record {
        old = old.first;
        new = new.first;
        old_fits = old.first_fits;
        new_fits = new.first_fits;
        word_before = s.word_before ∙ ap (λ ls. joined separator (raised_lists offset (section ∷ []) ls)) old_alone;
        word_after = s.word_after ∙ ap (λ ls. joined separator (raised_lists offset (section ∷ []) ls)) new_alone;
        changes = change_first moves number 0 old.first new.first old.others new.others
            (cut_steps section [] number offset u w s old new);
      })
  joined_from_steps (part ∷ []) (section ∷ (second ∷ sections)) number offset u w some are s = absurd are.1
  joined_from_steps (part ∷ (next ∷ parts)) [] number offset u w some are s = absurd are
  joined_from_steps (part ∷ (next ∷ parts)) (section ∷ []) number offset u w some are s = absurd are.1
  joined_from_steps (part ∷ (next ∷ parts)) (section ∷ (second ∷ sections)) number offset u w some are s =
      let old = cut section (second ∷ sections) s.olds s.olds_fit in
      let new = cut section (second ∷ sections) s.news s.news_fit in
      let changes = cut_steps section (second ∷ sections) number offset u w s old new in
      let behind : ℕ = offset + letter_count section in
      let u_back : List ℕ = joined separator (raised_lists behind (second ∷ sections) old.others) in
      let w_back : List ℕ = joined separator (raised_lists behind (second ∷ sections) new.others) in
      record {
        u_front = raised offset old.first;
        u_back = u_back;
        w_front = raised offset new.first;
        w_back = w_back;
        u_is = s.word_before ∙ ap (λ ls. joined separator (raised_lists offset (section ∷ (second ∷ sections)) ls)) old.lists_are
            ∙ joined_cons separator behind (raised offset old.first) second sections old.others old.others_fit;
        w_is = s.word_after ∙ ap (λ ls. joined separator (raised_lists offset (section ∷ (second ∷ sections)) ls)) new.lists_are
            ∙ joined_cons separator behind (raised offset new.first) second sections new.others new.others_fit;
        front = (are.0.related (raised offset old.first) (raised offset new.first)).1 (record {
          old = old.first;
          new = new.first;
          old_fits = old.first_fits;
          new_fits = new.first_fits;
          word_before = refl;
          word_after = refl;
          changes = change_first moves number (length (second ∷ sections)) old.first new.first old.others new.others changes;
        });
        back = joined_from_steps (next ∷ parts) (second ∷ sections) (number + 1) behind u_back w_back (omega arith) are.1 (record {
          olds = old.others;
          news = new.others;
          olds_fit = old.others_fit;
          news_fit = new.others_fit;
          word_before = refl;
          word_after = refl;
          changes = change_others moves number (length (second ∷ sections)) old.first new.first old.others new.others changes;
        });
      }
