-- The text of the sections so far.
use Rattle.std.proofs.Common.{◌≡◌, ◌<◌, ◌≤◌, ◌+◌, ◌&&◌, ℕ, zero, suc, true, List, [], ◌∷◌, ◌++◌, All, codes, flat_map, length, get_or, drop, refl, sym, ap, subst, ◌∙◌, arith, append_assoc, add-one, nat_lt, ltb-true}
use Rattle.std.specs.List.{join_by}
use Rattle.std.proofs.lemmas.Bool.{and_parts}
use Rattle.std.proofs.lemmas.List.{append-nil, drop_more, drop_all}
use Rattle.std.proofs.lemmas.List.Sums.{AllPass-from_list_all}
use Rattle.protocol_model.specs.declared.system.Section.{Section}
use Rattle.protocol_model.specs.System.{SystemData, letter_count}
use Rattle.protocol_model.specs.Patterns.{list_fits, lists_fit}
use Rattle.configuration_words.specs.Texts.{part_text, part_texts}
use Rattle.configuration_words.proofs.WordLemmas.{fitting_letters}
use Rattle.configuration_words.proofs.EncodingLemmas.{next_section, fitting_within}

-- what is still to be written behind so many parts
abbrev pub onward : ℕ → List (List ℕ) → List ℕ
onward zero parts = join_by (λ part. part) (codes "; ") parts
onward (suc index) parts = flat_map (λ part. codes "; " ++ part) parts

-- what stands before the part of this index
abbrev pub lead : ℕ → List ℕ
lead zero = []
lead (suc index) = codes "; "

onward-cons : (index : ℕ) (part : List ℕ) (parts : List (List ℕ))
    → onward index (part ∷ parts) ≡ lead index ++ (part ++ flat_map (λ p. codes "; " ++ p) parts)
onward-cons zero part parts = refl
onward-cons (suc index) part parts = append_assoc (codes "; ") part (flat_map (λ p. codes "; " ++ p) parts)

onward-nil : (index : ℕ) → onward index [] ≡ []
onward-nil zero = refl
onward-nil (suc index) = refl

pub lead_none : (index : ℕ) → index ≤ 0 → lead index ≡ []
lead_none zero h = refl
lead_none (suc index) h = absurd (omega arith)

pub lead_some : (index : ℕ) → 0 < index → lead index ≡ codes "; "
lead_some zero h = absurd (omega arith)
lead_some (suc index) h = refl

-- the text has the parts of so many sections
pub record IsWritten (s : SystemData) (lists : List (List ℕ)) (index : ℕ) (text : List ℕ) : Type 0 where
  pub spelled : join_by (λ part. part) (codes "; ") (part_texts s.sections lists) ≡ text ++ onward index (part_texts (drop index s.sections) (drop index lists))
  pub fitting : lists_fit (drop index s.sections) (drop index lists) ≡ true

pub written_none : (s : SystemData) (lists : List (List ℕ)) → lists_fit s.sections lists ≡ true → IsWritten s lists 0 []
written_none s lists h = record { spelled = refl; fitting = h }

module _ {s : SystemData} {lists : List (List ℕ)} {index : ℕ} {text : List ℕ} {section : Section} {items : List Section}
    (same : items ≡ s.sections) (there : index < length items) (item : section ≡ get_or items index section) (written : IsWritten s lists index text) where
  within : index < length s.sections
  within = subst (λ xs. index < length xs) same there

  is : section ≡ get_or s.sections index section
  is = subst (λ xs. section ≡ get_or xs index section) same item

  fits_on : lists_fit (section ∷ drop (index + 1) s.sections) (drop index lists) ≡ true
  fits_on = subst (λ sections. lists_fit sections (drop index lists) ≡ true) (next_section s.sections index section within is) written.fitting

  -- there is a list for the section
  pub list_within : index < length lists
  list_within = fitting_within section (drop (index + 1) s.sections) lists index fits_on

  module _ {list : List ℕ} {all : List (List ℕ)} (same_lists : all ≡ lists) (list_item : list ≡ get_or all index list) where
    is_list : list ≡ get_or lists index list
    is_list = subst (λ xs. list ≡ get_or xs index list) same_lists list_item

    next_list : drop index lists ≡ list ∷ drop (index + 1) lists
    next_list = drop_more lists index list list_within ∙ ap (λ x. x ∷ drop (index + 1) lists) (sym is_list)

    fits_both : (list_fits section list && lists_fit (drop (index + 1) s.sections) (drop (index + 1) lists)) ≡ true
    fits_both = subst (λ rest. lists_fit (section ∷ drop (index + 1) s.sections) rest ≡ true) next_list fits_on

    -- its letters are the section's
    pub letters_below : All (λ a. a < letter_count section) list
    letters_below = λ k d h.
        ltb-true (get_or list k d) (letter_count section)
        (AllPass-from_list_all (λ a. nat_lt a (letter_count section)) list
        (fitting_letters section list (and_parts (list_fits section list) (lists_fit (drop (index + 1) s.sections) (drop (index + 1) lists)) fits_both).0)
        k d h)

    -- with the part of the next section
    pub written_more : (begun after : List ℕ) → begun ≡ text ++ lead index → after ≡ begun ++ part_text section list → IsWritten s lists (index + 1) after
    written_more begun after led wrote =
        let parts = part_texts (drop (index + 1) s.sections) (drop (index + 1) lists) in
        let rest = flat_map (λ p. codes "; " ++ p) parts in
        let later = subst (λ n. onward n parts ≡ rest) (sym (add-one index)) refl in
        record {
          spelled = written.spelled
              ∙ ap (λ sections. text ++ onward index (part_texts sections (drop index lists))) (next_section s.sections index section within is)
              ∙ ap (λ ls. text ++ onward index (part_texts (section ∷ drop (index + 1) s.sections) ls)) next_list
              ∙ ap (λ more. text ++ more) (onward-cons index (part_text section list) parts)
              ∙ sym (append_assoc text (lead index) (part_text section list ++ rest))
              ∙ ap (λ front. front ++ (part_text section list ++ rest)) (sym led)
              ∙ sym (append_assoc begun (part_text section list) rest)
              ∙ ap (λ front. front ++ rest) (sym wrote)
              ∙ ap (λ more. after ++ more) (sym later);
          fitting = (and_parts (list_fits section list) (lists_fit (drop (index + 1) s.sections) (drop (index + 1) lists)) fits_both).1;
        }

-- with the parts of all sections
pub written_all : (s : SystemData) (lists : List (List ℕ)) (index : ℕ) (text : List ℕ) → length s.sections ≤ index → IsWritten s lists index text
    → text ≡ join_by (λ part. part) (codes "; ") (part_texts s.sections lists)
written_all s lists index text past written =
    sym (
    written.spelled
    ∙ ap (λ sections. text ++ onward index (part_texts sections (drop index lists))) (drop_all index s.sections past)
    ∙ ap (λ rest. text ++ rest) (onward-nil index)
    ∙ append-nil text
    )
