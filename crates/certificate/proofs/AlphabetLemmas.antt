-- The names of letters: no two are the same, what they lack, and that each is found by its own.
use Rattle.std.proofs.Common.{◌≡◌, ◌≢◌, ℕ, suc, false, true, ◌+◌, ◌<◌, List, [], ◌∷◌, ◌++◌, Some, AllPairs, length, get_or, codes, flat_map, refl, sym, ap, subst, ◌∙◌, arith, inl, inr, ◌⊎◌}
use Rattle.std.specs.List.{AllByRecursion, position}
use Rattle.std.specs.Str.{bytes_eq}
use Rattle.std.specs.Cmp.Lexicographic.{bytes_decides}
use Rattle.std.proofs.lemmas.List.{append_assoc, append_cancel_left, get_or_read, length-append, length-map}
use Rattle.std.proofs.lemmas.List.Elements.{All-from_recursion, recursion_from_All}
use Rattle.std.proofs.lemmas.List.Sums.{sum_by-cons}
use Rattle.protocol_lexer.specs.Piece.{is_word_byte}
use Rattle.protocol_model.specs.declared.system.Section.{Section}
use Rattle.protocol_model.specs.System.{SystemData, letter_count, total_letters, IsValid, IsValidSection}
use Rattle.protocol_model.specs.Names.{IsName}
use Rattle.protocol_model.specs.Words.{automata_letters}
use Rattle.lines.specs.Bytes.{Lacks}
use Rattle.lines.specs.Grammar.{Says}
use Rattle.sequence.proofs.ForCallers.{cut_unique, no_cut, Lacks-append}
use Rattle.certificate.specs.Words.{section_texts, letter_texts, letter_text, letter, letter_layout}
use Rattle.certificate.specs.private.Alphabet.{IsAlphabetOf}
use Rattle.certificate.proofs.ListFacts.{AllByRecursion-append, AllByRecursion-mapped, AllByRecursion-weaker, AllPairs-append, AllPairs-mapped, AllPairs-tail}
use Rattle.certificate.proofs.Places.{name_lacks, numbered_says, place_of_name}

-- the names of the first section's letters come first
letter_texts-cons : (section : Section) (sections : List Section)
    → letter_texts (section ∷ sections) ≡ section_texts section ++ letter_texts sections
letter_texts-cons section sections = append_assoc (section_texts section) (flat_map section_texts sections) (codes "|" ∷ [])

pub length-letter_texts : (sections : List Section) → length (letter_texts sections) ≡ total_letters sections + 1
length-letter_texts [] = refl
length-letter_texts (section ∷ sections) =
    let texts = ap length (letter_texts-cons section sections) in
    omega (
      arith,
      texts,
      length-append (section_texts section) (letter_texts sections),
      length-map section.letters (λ letter. section.name ++ codes "." ++ letter),
      length-letter_texts sections,
      sum_by-cons letter_count section sections,
    )

-- what holds of the bar, and of the name of each letter of a section, holds of all
all_texts : (P : List ℕ → Type 0) (Q : Section → Type 0) → P (codes "|")
    → ((section : Section) → Q section → AllByRecursion (λ letter. P (section.name ++ codes "." ++ letter)) section.letters)
    → (sections : List Section) → AllByRecursion Q sections → AllByRecursion P (letter_texts sections)
all_texts P Q bar own [] h = (bar, tt)
all_texts P Q bar own (section ∷ sections) h =
    subst (AllByRecursion P) (sym (letter_texts-cons section sections))
    (AllByRecursion-append P (section_texts section) (letter_texts sections)
    (AllByRecursion-mapped P (λ letter. section.name ++ codes "." ++ letter) section.letters (own section h.0))
    (all_texts P Q bar own sections h.1))

-- names lack each byte that no word has, but for the dot and the bar
texts_lack : (byte : ℕ) → is_word_byte byte ≡ false → 46 ≢ byte → 124 ≢ byte → (sections : List Section)
    → AllByRecursion IsValidSection sections → AllByRecursion (Lacks byte) (letter_texts sections)
texts_lack byte apart dot bar sections h =
    all_texts (Lacks byte) IsValidSection (bar, tt) (λ section valid. AllByRecursion-weaker IsName (λ letter. Lacks byte (section.name ++ codes "." ++ letter))
    (λ letter named. Lacks-append byte (section.name ++ codes ".") letter
    (Lacks-append byte section.name (codes ".") (name_lacks byte apart section.name valid.named) (dot, tt)) (name_lacks byte apart letter named))
    section.letters valid.letters_named) sections h

-- two texts with a dot behind a name are the same in both parts
dotted_unique : (a b x y : List ℕ) → Lacks 46 a → Lacks 46 b → a ++ codes "." ++ x ≡ b ++ codes "." ++ y → a ≡ b
dotted_unique a b x y la lb e = (cut_unique 46 a b x y la lb (sym (append_assoc a (codes ".") x) ∙ e ∙ append_assoc b (codes ".") y)).0

module _ (section : Section) (sections : List Section) (valid : AllByRecursion IsValidSection (section ∷ sections))
    (names : AllPairs (λ a b. a.name ≢ b.name) (section ∷ sections)) where
  abbrev named : List ℕ → List ℕ
  named letter = section.name ++ codes "." ++ letter

  -- the name is the bar, or has that of another section, and a dot and more behind it
  abbrev IsOther : List ℕ → Type 0
  IsOther text =
      (text ≡ codes "|")
      ⊎ ((name : List ℕ) × (letter : List ℕ) × (section.name ≢ name) × Lacks 46 name × (text ≡ name ++ codes "." ++ letter))

  abbrev IsOtherSection : Section → Type 0
  IsOtherSection other = IsValidSection other × (section.name ≢ other.name)

  are_others : AllByRecursion IsOther (letter_texts sections)
  are_others =
      all_texts IsOther IsOtherSection (inl refl) (λ other h. recursion_from_All (λ letter. IsOther (other.name ++ codes "." ++ letter)) other.letters
      (λ i d within. inr (other.name, get_or other.letters i d, h.1, name_lacks 46 refl other.name h.0.named, refl)))
      sections
      (recursion_from_All IsOtherSection sections (λ i d within.
      (All-from_recursion IsValidSection sections valid.1 i d within, names 0 (suc i) d (omega arith) (omega (arith, within)))))

  apart : (letter text : List ℕ) → IsOther text → named letter ≢ text
  apart letter text (inl bar) = λ e.
      no_cut 46 section.name letter (subst (Lacks 46) (sym (sym (append_assoc section.name (codes ".") letter) ∙ e ∙ bar)) (omega arith, tt))
  apart letter text (inr other) = λ e.
      other.2 (dotted_unique section.name other.0 letter other.1 (name_lacks 46 refl section.name valid.0.named) other.3 (e ∙ other.4))

  first_apart : AllByRecursion (λ text. AllByRecursion (λ later. text ≢ later) (letter_texts sections)) (section_texts section)
  first_apart =
      AllByRecursion-mapped (λ text. AllByRecursion (λ other. text ≢ other) (letter_texts sections)) named section.letters
      (recursion_from_All (λ letter. AllByRecursion (λ other. named letter ≢ other) (letter_texts sections)) section.letters (λ i d within.
      AllByRecursion-weaker IsOther (λ other. named (get_or section.letters i d) ≢ other) (apart (get_or section.letters i d)) (letter_texts sections)
      are_others))

distinct_texts : (sections : List Section) → AllByRecursion IsValidSection sections → AllPairs (λ a b. a.name ≢ b.name) sections
    → AllPairs ◌≢◌ (letter_texts sections)
distinct_texts [] valid names = λ i j d less within. absurd (omega arith)
distinct_texts (section ∷ sections) valid names =
    subst (AllPairs ◌≢◌) (sym (letter_texts-cons section sections))
    (AllPairs-append ◌≢◌ (section_texts section) (letter_texts sections)
    (AllPairs-mapped ◌≢◌ (λ letter. section.name ++ codes "." ++ letter) section.letters
    (λ i j d less within e. valid.0.distinct i j d less within (append_cancel_left (section.name ++ codes ".") _ _ e)))
    (distinct_texts sections valid.1 (AllPairs-tail (λ a b. a.name ≢ b.name) section sections names))
    (first_apart section sections valid names))

module _ (s : SystemData) (valid : IsValid s) where
  pub letter_texts_distinct : AllPairs ◌≢◌ (letter_texts s.sections)
  letter_texts_distinct = distinct_texts s.sections valid.each_section valid.section_names

  within_texts : (a : ℕ) → a < automata_letters s → a < length (letter_texts s.sections)
  within_texts a within = omega (arith, within, length-letter_texts s.sections)

  -- a letter's text says it, and lacks spaces and line feeds
  pub letter_says : (a : ℕ) → a < automata_letters s → Says (letter s) (letter_text s.sections a) a
  letter_says a within = numbered_says (letter_texts s.sections) letter_layout letter_texts_distinct a (within_texts a within)

  pub letter_text-no_space : (a : ℕ) → a < automata_letters s → Lacks 32 (letter_text s.sections a)
  letter_text-no_space a within =
      All-from_recursion (Lacks 32) (letter_texts s.sections) (texts_lack 32 refl (omega arith) (omega arith) s.sections valid.each_section) a []
      (within_texts a within)

  pub letter_text-no_line_feed : (a : ℕ) → a < automata_letters s → Lacks 10 (letter_text s.sections a)
  letter_text-no_line_feed a within =
      All-from_recursion (Lacks 10) (letter_texts s.sections) (texts_lack 10 refl (omega arith) (omega arith) s.sections valid.each_section) a []
      (within_texts a within)

-- there are as many texts as letters
pub letters_counted : (s : SystemData) (texts : List (List ℕ)) → texts ≡ letter_texts s.sections → length texts ≡ automata_letters s
letters_counted s texts e = ap length e ∙ length-letter_texts s.sections

-- the text at a letter's number
pub letter_text-at : (s : SystemData) (texts : List (List ℕ)) → texts ≡ letter_texts s.sections → (a : ℕ) (text : List ℕ)
    → a < length texts → text ≡ get_or texts a text → text ≡ letter_text s.sections a
letter_text-at s texts e a text within at = get_or_read texts a text within at [] ∙ ap (λ all. get_or all a []) e

-- a letter whose text stands at a place is found there
pub letter-found : (s : SystemData) (texts : List (List ℕ)) → IsAlphabetOf s texts → (bytes : List ℕ) (a : ℕ) (text : List ℕ)
    → a < length texts → text ≡ get_or texts a text → bytes_eq bytes text ≡ true → Some a ≡ position (bytes_eq bytes) (letter_texts s.sections)
letter-found s texts h bytes a text within at same =
    let is : bytes ≡ letter_text s.sections a = (bytes_decides bytes text).0 same ∙ letter_text-at s texts h.texts_are a text within at in
    sym (ap (λ name. position (bytes_eq name) (letter_texts s.sections)) is
    ∙ place_of_name (letter_texts s.sections) (letter_texts_distinct s h.valid) a
    (within_texts s h.valid a (omega (arith, within, letters_counted s texts h.texts_are))))
