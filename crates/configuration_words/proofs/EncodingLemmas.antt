-- The word of the sections so far.
use Rattle.std.proofs.Common.{◌≡◌, ◌<◌, ◌≤◌, ◌+◌, ℕ, zero, suc, true, List, [], ◌∷◌, ◌++◌, length, get_or, drop, refl, sym, ap, subst, ◌∙◌}
use Rattle.std.proofs.Common.{arith, true≢false, append_assoc, add-one, zero-add, length-drop}
use Rattle.std.proofs.lemmas.Bool.{and_parts}
use Rattle.std.proofs.lemmas.List.{append-nil, drop_more, drop_all}
use Rattle.std.proofs.lemmas.List.Sums.{sum_by-drop_more}
use Rattle.protocol_model.specs.declared.system.Section.{Section}
use Rattle.protocol_model.specs.System.{SystemData, letter_count, total_letters}
use Rattle.protocol_model.specs.Patterns.{list_fits, lists_fit}
use Rattle.protocol_model.specs.Words.{raised, raised_lists, joined, separator_of}
use Rattle.configuration_words.proofs.WordLemmas.{separated, joined-cons}

-- what is still to be written behind so many words
abbrev pub onward : ℕ → ℕ → List (List ℕ) → List ℕ
onward separator zero words = joined separator words
onward separator (suc index) words = separated separator words

-- what stands before the word of this index
abbrev pub lead : ℕ → ℕ → List ℕ
lead separator zero = []
lead separator (suc index) = separator ∷ []

onward-cons : (separator index : ℕ) (word : List ℕ) (words : List (List ℕ))
    → onward separator index (word ∷ words) ≡ lead separator index ++ (word ++ separated separator words)
onward-cons separator zero word words = joined-cons separator word words
onward-cons separator (suc index) word words = refl

pub onward-nil : (separator index : ℕ) → onward separator index [] ≡ []
onward-nil separator zero = refl
onward-nil separator (suc index) = refl

-- the word has the lists of so many sections
pub record IsEncoded (s : SystemData) (lists : List (List ℕ)) (index offset : ℕ) (word : List ℕ) : Type 0 where
  pub spelled : joined (separator_of s) (raised_lists 0 s.sections lists)
      ≡ word ++ onward (separator_of s) index (raised_lists offset (drop index s.sections) (drop index lists))
  pub fitting : lists_fit (drop index s.sections) (drop index lists) ≡ true
  pub counted : offset + total_letters (drop index s.sections) ≡ total_letters s.sections

pub encoded_none : (s : SystemData) (lists : List (List ℕ)) → lists_fit s.sections lists ≡ true → IsEncoded s lists 0 0 []
encoded_none s lists h = record { spelled = refl; fitting = h; counted = zero-add (total_letters s.sections) }

-- the section of this index, and the sections behind it
pub next_section : (sections : List Section) (index : ℕ) (section : Section) → index < length sections → section ≡ get_or sections index section
    → drop index sections ≡ section ∷ drop (index + 1) sections
next_section sections index section within is =
    drop_more sections index section within ∙ ap (λ x. x ∷ drop (index + 1) sections) (sym is)

pub fitting_within : (section : Section) (more : List Section) (lists : List (List ℕ)) (index : ℕ)
    → lists_fit (section ∷ more) (drop index lists) ≡ true → index < length lists
fitting_within section more lists index = by (drop index lists) refl
  where
    by : (rest : List (List ℕ)) → drop index lists ≡ rest → lists_fit (section ∷ more) rest ≡ true → index < length lists
    by [] e h = absurd (true≢false (sym h))
    by (list ∷ later) e h = omega (arith, length-drop index lists, ap length e)

module _ {s : SystemData} {lists : List (List ℕ)} {index offset : ℕ} {word : List ℕ} {section : Section} {items : List Section}
    (same : items ≡ s.sections) (there : index < length items) (item : section ≡ get_or items index section) (encoded : IsEncoded s lists index offset word) where
  within : index < length s.sections
  within = subst (λ xs. index < length xs) same there

  is : section ≡ get_or s.sections index section
  is = subst (λ xs. section ≡ get_or xs index section) same item

  fits_on : lists_fit (section ∷ drop (index + 1) s.sections) (drop index lists) ≡ true
  fits_on = subst (λ sections. lists_fit sections (drop index lists) ≡ true) (next_section s.sections index section within is) encoded.fitting

  -- there is a list for the section
  pub list_within : index < length lists
  list_within = fitting_within section (drop (index + 1) s.sections) lists index fits_on

  -- the letters so far and those of the section are among all
  pub counted_on : (offset + letter_count section) + total_letters (drop (index + 1) s.sections) ≡ total_letters s.sections
  counted_on =
      omega (arith, sum_by-drop_more letter_count s.sections index section within, ap letter_count is, encoded.counted)

  module _ {list : List ℕ} {all : List (List ℕ)} (same_lists : all ≡ lists) (list_item : list ≡ get_or all index list) where
    is_list : list ≡ get_or lists index list
    is_list = subst (λ xs. list ≡ get_or xs index list) same_lists list_item

    next_list : drop index lists ≡ list ∷ drop (index + 1) lists
    next_list = drop_more lists index list list_within ∙ ap (λ x. x ∷ drop (index + 1) lists) (sym is_list)

    fits_both : lists_fit (section ∷ drop (index + 1) s.sections) (list ∷ drop (index + 1) lists) ≡ true
    fits_both = subst (λ rest. lists_fit (section ∷ drop (index + 1) s.sections) rest ≡ true) next_list fits_on

    pub list_fitting : list_fits section list ≡ true
    list_fitting = (and_parts (list_fits section list) (lists_fit (drop (index + 1) s.sections) (drop (index + 1) lists)) fits_both).0

    -- with the list of the next section
    pub encoded_more : IsEncoded s lists (index + 1) (offset + letter_count section) ((word ++ lead (separator_of s) index) ++ raised offset list)
    encoded_more =
        let separator = separator_of s in
        let words = raised_lists (offset + letter_count section) (drop (index + 1) s.sections) (drop (index + 1) lists) in
        let after = subst (λ n. onward separator n words ≡ separated separator words) (sym (add-one index)) refl in
        record {
          spelled = encoded.spelled
              ∙ ap (λ sections. word ++ onward separator index (raised_lists offset sections (drop index lists))) (next_section s.sections index section within is)
              ∙ ap (λ rest. word ++ onward separator index (raised_lists offset (section ∷ drop (index + 1) s.sections) rest)) next_list
              ∙ ap (λ rest. word ++ rest) (onward-cons separator index (raised offset list) words)
              ∙ sym (append_assoc word (lead separator index) (raised offset list ++ separated separator words))
              ∙ sym (append_assoc (word ++ lead separator index) (raised offset list) (separated separator words))
              ∙ ap (λ rest. ((word ++ lead separator index) ++ raised offset list) ++ rest) (sym after);
          fitting = (and_parts (list_fits section list) (lists_fit (drop (index + 1) s.sections) (drop (index + 1) lists)) fits_both).1;
          counted = counted_on;
        }

-- with the lists of all sections
pub encoded_all : {s : SystemData} {lists : List (List ℕ)} {index offset : ℕ} {word : List ℕ} → length s.sections ≤ index
    → IsEncoded s lists index offset word → word ≡ joined (separator_of s) (raised_lists 0 s.sections lists)
encoded_all {s = s} {lists = lists} {index = index} {offset = offset} {word = word} past encoded =
    let separator = separator_of s in
    sym (
    encoded.spelled
    ∙ ap (λ sections. word ++ onward separator index (raised_lists offset sections (drop index lists))) (drop_all index s.sections past)
    ∙ ap (λ rest. word ++ rest) (onward-nil separator index)
    ∙ append-nil word
    )

pub lead_none : (separator index : ℕ) → index ≤ 0 → lead separator index ≡ []
lead_none separator zero h = refl
lead_none separator (suc index) h = absurd (omega arith)

pub lead_some : (separator index : ℕ) → 0 < index → lead separator index ≡ separator ∷ []
lead_some separator zero h = absurd (omega arith)
lead_some separator (suc index) h = refl

-- the same, told by what was written
pub encoded_next : {s : SystemData} {lists : List (List ℕ)} {index offset : ℕ} {word : List ℕ} {section : Section} {items : List Section} → items ≡ s.sections → index < length items
    → section ≡ get_or items index section → IsEncoded s lists index offset word → {list : List ℕ} {all : List (List ℕ)} → all ≡ lists → list ≡ get_or all index list
    → (begun after : List ℕ) (count : ℕ) → begun ≡ word ++ lead (separator_of s) index → after ≡ begun ++ raised offset list
    → count ≡ letter_count section → IsEncoded s lists (index + 1) (offset + count) after
encoded_next {s = s} {lists = lists} {index = index} {offset = offset} {section = section} same there item encoded {list = list} same_lists list_item begun after count led raises counts =
    subst (λ n. IsEncoded s lists (index + 1) (offset + n) after) (sym counts)
    (subst (IsEncoded s lists (index + 1) (offset + letter_count section)) (sym (raises ∙ ap (λ xs. xs ++ raised offset list) led))
    (encoded_more same there item encoded same_lists list_item))
