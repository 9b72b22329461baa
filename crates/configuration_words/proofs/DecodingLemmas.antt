-- The lists of the sections so far, read from a word.
use Rattle.std.proofs.Common.{◌≡◌, ◌<◌, ◌≤◌, ◌+◌, ℕ, true, false, List, [], ◌∷◌, ◌++◌, Option, None, Some, length, get_or, drop, refl, sym, ap, subst, ◌∙◌}
use Rattle.std.proofs.Common.{arith, true≢false, append_assoc, zero-add, IsTrue, Bor, is_some}
use Rattle.std.specs.Option.{option_copied}
use Rattle.std.proofs.lemmas.Bool.{and_parts, and_from}
use Rattle.std.proofs.lemmas.List.{append-nil, drop_all}
use Rattle.std.proofs.lemmas.List.Sums.{sum_by-drop_more}
use Rattle.std.proofs.lemmas.Option.{same_Some}
use Rattle.protocol_model.specs.declared.system.Section.{Section}
use Rattle.protocol_model.specs.declared.system.Configuration.{Configuration}
use Rattle.protocol_model.specs.System.{SystemData, letter_count, total_letters}
use Rattle.protocol_model.specs.Patterns.{list_fits, lists_fit, fits}
use Rattle.protocol_model.specs.Words.{raised, raised_lists, joined, separator_of, word_of}
use Rattle.configuration_words.specs.private.Cuts.{Lacks, IsCut}
use Rattle.configuration_words.proofs.WordLemmas.{joined_some, cut_joined, joined_cut, raised_Lacks, raised_same, fitting_letters}
use Rattle.configuration_words.proofs.EncodingLemmas.{next_section}

-- the later lists belong to the later sections, and the rest of the word, if there is one, is theirs
pub record AreLater (s : SystemData) (index offset : ℕ) (rest : Option (List ℕ)) (later : List (List ℕ)) : Type 0 where
  pub fitting : lists_fit (drop index s.sections) later ≡ true
  pub spelled : rest ≡ joined_some (separator_of s) (raised_lists offset (drop index s.sections) later)

-- the lists of so many sections stand at the front of the word, and the rest is left
pub record IsDecoded (s : SystemData) (word : List ℕ) (index offset : ℕ) (lists : List (List ℕ)) (rest : Option (List ℕ)) : Type 0 where
  pub counted : offset + total_letters (drop index s.sections) ≡ total_letters s.sections
  pub onward : (later : List (List ℕ)) → AreLater s index offset rest later → AreLater s 0 0 (Some word) (lists ++ later)
  pub only : (all : List (List ℕ)) → AreLater s 0 0 (Some word) all → (later : List (List ℕ)) × ((all ≡ lists ++ later) × AreLater s index offset rest later)

pub decoded_none : (s : SystemData) (word : List ℕ) → IsDecoded s word 0 0 [] (Some word)
decoded_none s word = record { counted = zero-add (total_letters s.sections); onward = λ later h. h; only = λ all h. (all, (refl, h)) }

module _ {s : SystemData} {word : List ℕ} {index offset : ℕ} {lists : List (List ℕ)} {rest : Option (List ℕ)} {section : Section} {items : List Section}
    (same : items ≡ s.sections) (there : index < length items) (item : section ≡ get_or items index section) (decoded : IsDecoded s word index offset lists rest) where
  within : index < length s.sections
  within = subst (λ xs. index < length xs) same there

  is : section ≡ get_or s.sections index section
  is = subst (λ xs. section ≡ get_or xs index section) same item

  next : drop index s.sections ≡ section ∷ drop (index + 1) s.sections
  next = next_section s.sections index section within is

  -- the letters so far and those of the section are among all
  pub counted_on : (offset + letter_count section) + total_letters (drop (index + 1) s.sections) ≡ total_letters s.sections
  counted_on = omega (arith, sum_by-drop_more letter_count s.sections index section within, ap letter_count is, decoded.counted)

  -- every later list of lists has one for the section
  first_later : (later : List (List ℕ)) → AreLater s index offset rest later
      → (list : List ℕ) × ((others : List (List ℕ)) × ((later ≡ list ∷ others) × (list_fits section list ≡ true)
      × (lists_fit (drop (index + 1) s.sections) others ≡ true)
      × (rest ≡ Some (joined (separator_of s) (raised offset list ∷ raised_lists (offset + letter_count section) (drop (index + 1) s.sections) others)))))
  first_later later h =
      by later (subst (λ sections. lists_fit sections later ≡ true) next h.fitting)
      (subst (λ sections. rest ≡ joined_some (separator_of s) (raised_lists offset sections later)) next h.spelled)
    where
      by : (later : List (List ℕ)) → lists_fit (section ∷ drop (index + 1) s.sections) later ≡ true
          → rest ≡ joined_some (separator_of s) (raised_lists offset (section ∷ drop (index + 1) s.sections) later)
          → (list : List ℕ) × ((others : List (List ℕ)) × ((later ≡ list ∷ others) × (list_fits section list ≡ true)
          × (lists_fit (drop (index + 1) s.sections) others ≡ true)
          × (rest ≡ Some (joined (separator_of s) (raised offset list ∷ raised_lists (offset + letter_count section) (drop (index + 1) s.sections) others)))))
      by [] fitting spelled = absurd (true≢false (sym fitting))
      by (list ∷ others) fitting spelled =
          let parts = and_parts (list_fits section list) (lists_fit (drop (index + 1) s.sections) others) fitting in
          (list, (others, (refl, parts.0, parts.1, spelled)))

  -- where nothing is left, no configuration has the word
  pub decoded_short : rest ≡ None → (all : List (List ℕ)) → AreLater s 0 0 (Some word) all → ⊥
  decoded_short none all h =
      let rests = decoded.only all h in
      let first = first_later rests.0 rests.1.1 in
      cc (none, first.1.1.3)

  module _ (letters front : List ℕ) (behind : Option (List ℕ)) (some : rest ≡ Some letters) (cut : IsCut (separator_of s) letters front behind) where
    lacks : (list : List ℕ) → list_fits section list ≡ true → Lacks (separator_of s) (raised offset list)
    lacks list h = raised_Lacks offset (letter_count section) (separator_of s) list (fitting_letters section list h) (omega (arith, counted_on))

    -- where no list of the section is raised to what stands in front, no configuration has the word
    pub decoded_wrong : ((list : List ℕ) → IsTrue (list_fits section list) → front ≡ raised offset list → ⊥)
        → (all : List (List ℕ)) → AreLater s 0 0 (Some word) all → ⊥
    decoded_wrong none all h =
        let rests = decoded.only all h in
        let first = first_later rests.0 rests.1.1 in
        let spelled = same_Some letters _ (sym some ∙ first.1.1.3) in
        none first.0 first.1.1.1 (joined_cut (separator_of s) letters front behind (raised offset first.0) _ cut (lacks first.0 first.1.1.1) spelled).0

    -- with the list of the next section
    pub decoded_more : (list : List ℕ) → list_fits section list ≡ true → front ≡ raised offset list
        → IsDecoded s word (index + 1) (offset + letter_count section) (lists ++ list ∷ []) behind
    decoded_more list fitting is_raised = record {
      counted = counted_on;
      onward = λ others h.
          let joins : letters ≡ joined (separator_of s) (raised offset list ∷ raised_lists (offset + letter_count section) (drop (index + 1) s.sections) others) =
          subst (λ w. letters ≡ joined (separator_of s) (w ∷ raised_lists (offset + letter_count section) (drop (index + 1) s.sections) others)) is_raised
          (cut_joined (separator_of s) letters front behind (raised_lists (offset + letter_count section) (drop (index + 1) s.sections) others) cut h.spelled) in
          let later : AreLater s index offset rest (list ∷ others) = record {
            fitting = subst (λ sections. lists_fit sections (list ∷ others) ≡ true) (sym next)
                (and_from (list_fits section list) (lists_fit (drop (index + 1) s.sections) others) fitting h.fitting);
            spelled = subst (λ sections. rest ≡ joined_some (separator_of s) (raised_lists offset sections (list ∷ others))) (sym next)
                (some ∙ ap (λ w. Some w) joins);
          } in
          subst (AreLater s 0 0 (Some word)) (sym (append_assoc lists (list ∷ []) others)) (decoded.onward (list ∷ others) later);
      only = λ all h.
          let rests = decoded.only all h in
          let first = first_later rests.0 rests.1.1 in
          let others = first.1.0 in
          let spelled = same_Some letters _ (sym some ∙ first.1.1.3) in
          let parts = joined_cut (separator_of s) letters front behind (raised offset first.0) _ cut (lacks first.0 first.1.1.1) spelled in
          let same : first.0 ≡ list = raised_same offset first.0 list (sym parts.0 ∙ is_raised) in (
            others,
            (
              rests.1.0 ∙ ap (λ later. lists ++ later) (first.1.1.0 ∙ ap (λ x. x ∷ others) same) ∙ sym (append_assoc lists (list ∷ []) others),
              record { fitting = first.1.1.2; spelled = parts.1 },
            ),
          );
    }

-- a fitting configuration has a word that is joined
pub word_joined : (s : SystemData) → 0 < length s.sections → (word : List ℕ) (c : Configuration) → IsTrue (fits s c) → word ≡ word_of s c
    → AreLater s 0 0 (Some word) c.lists
word_joined s some word c h e = record { fitting = h; spelled = ap (λ w. Some w) e ∙ by s.sections c.lists some h }
  where
    by : (sections : List Section) (lists : List (List ℕ)) → 0 < length sections → lists_fit sections lists ≡ true
        → Some (joined (separator_of s) (raised_lists 0 sections lists)) ≡ joined_some (separator_of s) (raised_lists 0 sections lists)
    by [] lists some h = absurd (omega arith)
    by (section ∷ sections) [] some h = absurd (true≢false (sym h))
    by (section ∷ sections) (list ∷ lists) some h = refl

joined_is : (separator : ℕ) (word : List ℕ) (words : List (List ℕ)) → Some word ≡ joined_some separator words → word ≡ joined separator words
joined_is separator word [] e = cc
joined_is separator word (first ∷ words) e = same_Some word (joined separator (first ∷ words)) e

none_later : (s : SystemData) (index offset : ℕ) → length s.sections ≤ index → AreLater s index offset None []
none_later s index offset past = record {
  fitting = subst (λ sections. lists_fit sections [] ≡ true) (sym (drop_all index s.sections past)) refl;
  spelled = subst (λ sections. None ≡ joined_some (separator_of s) (raised_lists offset sections [])) (sym (drop_all index s.sections past)) refl;
}

-- with the lists of all sections
pub decoded_all : {s : SystemData} {word : List ℕ} {index offset : ℕ} {lists : List (List ℕ)} → length s.sections ≤ index
    → IsDecoded s word index offset lists None → (lists_fit s.sections lists ≡ true) × (word ≡ joined (separator_of s) (raised_lists 0 s.sections lists))
decoded_all {s = s} {word = word} {index = index} {offset = offset} {lists = lists} past decoded =
    let all = subst (AreLater s 0 0 (Some word)) (append-nil lists) (decoded.onward [] (none_later s index offset past)) in
    (all.fitting, joined_is (separator_of s) word (raised_lists 0 s.sections lists) all.spelled)

-- and no others
pub decoded_only : {s : SystemData} {word : List ℕ} {index offset : ℕ} {lists : List (List ℕ)} {rest : Option (List ℕ)} → length s.sections ≤ index
    → IsDecoded s word index offset lists rest → (all : List (List ℕ)) → AreLater s 0 0 (Some word) all → (all ≡ lists) × (rest ≡ None)
decoded_only {s = s} {index = index} {offset = offset} {lists = lists} {rest = rest} past decoded all h =
    let rests = decoded.only all h in
    let none = drop_all index s.sections past in
    let later = by rests.0 (subst (λ sections. lists_fit sections rests.0 ≡ true) none rests.1.1.fitting) in (
      rests.1.0 ∙ ap (λ more. lists ++ more) later ∙ append-nil lists,
      subst (λ sections. rest ≡ joined_some (separator_of s) (raised_lists offset sections rests.0)) none rests.1.1.spelled,
    )
  where
    by : (later : List (List ℕ)) → lists_fit [] later ≡ true → later ≡ []
    by [] h = refl
    by (list ∷ later) h = absurd (true≢false (sym h))

-- what lies behind a reference, if there is one
pub copied_none : {X : Type 0} (o : Option (Bor X)) → is_some o ≡ false → option_copied o ≡ None
copied_none None h = refl
copied_none (Some x) h = absurd (true≢false h)

pub copied_some : {X : Type 0} (o : Option (Bor X)) → is_some o ≡ true → option_copied o ≡ None → ⊥
copied_some None h e = true≢false (sym h)
copied_some (Some x) h e = cc
