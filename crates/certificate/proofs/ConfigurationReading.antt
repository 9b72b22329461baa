-- The text that is written of a configuration is read so.
use Rattle.std.proofs.Common.{◌≡◌, ◌≢◌, ◌<◌, ◌==◌, ◌||◌, ℕ, Bool, true, false, List, [], ◌∷◌, ◌++◌, AllPairs, IsTrue, length, nat_lt, codes, flat_map, refl, sym, subst, ◌∙◌, inl, inr, arith, true≢false}
use Rattle.std.specs.List.{AllByRecursion, list_all, join_by}
use Rattle.std.proofs.lemmas.Bool.{and_parts, eqb-true, ltb-true}
use Rattle.std.proofs.lemmas.List.{append_assoc, append-nil}
use Rattle.std.proofs.lemmas.Option.{unwrap_or-slice_get}
use Rattle.protocol_lexer.specs.Piece.{is_word_byte}
use Rattle.forms.specs.Symbol.{keyword_of}
use Rattle.protocol_model.specs.declared.system.Section.{Section}
use Rattle.protocol_model.specs.declared.system.Configuration.{Configuration}
use Rattle.protocol_model.specs.System.{SystemData, IsValid, IsValidSection, letter_count}
use Rattle.protocol_model.specs.Names.{is_name, IsName}
use Rattle.protocol_model.specs.Patterns.{has_any_length, list_fits, lists_fit, fits}
use Rattle.configuration_words.specs.Texts.{letter_name, list_text, part_text, part_texts, configuration_text}
use Rattle.configuration_words.proofs.ForCallers.{letter_is_name}
use Rattle.sequence.proofs.ForCallers.{no_cut, Lacks-append}
use Rattle.lines.specs.Bytes.{Lacks}
use Rattle.lines.proofs.ForCallers.{fields_say}
use Rattle.lines.specs.Grammar.{Says, SaysFields, numbered, each}
use Rattle.certificate.specs.Configurations.{list, part, configuration}
use Rattle.certificate.specs.Words.{a_name}
use Rattle.certificate.proofs.Places.{name_lacks, numbered_says, word_bytes_lack}

empty_is_no_name : (name : List ℕ) → IsName name → name ≡ codes "empty" → ⊥
unfolding keyword_of
empty_is_no_name name is e = true≢false (sym (subst (λ x. is_name x ≡ true) e is))

one_apart : (name : List ℕ) → AllPairs (λ a b. a ≢ b) (name ∷ [])
one_apart name = λ i j d less within. absurd (omega arith)

module _ (section : Section) (valid : IsValidSection section) where
  abbrev names : List ℕ → List ℕ
  names letters = flat_map (λ a. codes " " ++ letter_name section a) letters

  letter_says : (a : ℕ) → a < letter_count section → Says (numbered section.letters a_name) (letter_name section a) a
  letter_says a within =
      subst (λ text. Says (numbered section.letters a_name) text a) (sym (unwrap_or-slice_get section.letters a []))
      (numbered_says section.letters a_name valid.distinct a within)

  abbrev AreLetters : List ℕ → Type 0
  AreLetters letters = list_all (λ a. nat_lt a (letter_count section)) letters ≡ true

  first_within : (a : ℕ) (letters : List ℕ) → AreLetters (a ∷ letters) → (a < letter_count section) × AreLetters letters
  first_within a letters h =
      let parts = and_parts (nat_lt a (letter_count section)) (list_all (λ b. nat_lt b (letter_count section)) letters) h in
      (ltb-true a (letter_count section) parts.0, parts.1)

  letters_say : (a : ℕ) (letters : List ℕ) → AreLetters (a ∷ letters)
      → SaysFields 32 (Says (numbered section.letters a_name)) (letter_name section a ++ names letters) (a ∷ letters)
  letters_say a letters h = fields_say 32 (Says (numbered section.letters a_name)) (letter_name section) a letters (each_says (a ∷ letters) h)
    where
      each_says : (letters : List ℕ) → AreLetters letters
          → AllByRecursion (λ b. Lacks 32 (letter_name section b) × Says (numbered section.letters a_name) (letter_name section b) b) letters
      each_says [] h = tt
      each_says (b ∷ letters) h =
          let parts = first_within b letters h in
          ((name_lacks 32 refl (letter_name section b) (letter_is_name section valid b parts.0), letter_says b parts.0), each_says letters parts.1)

  not_empty : (a : ℕ) (letters : List ℕ) → AreLetters (a ∷ letters) → letter_name section a ++ names letters ≡ codes "empty" → ⊥
  not_empty a [] h e =
      empty_is_no_name (letter_name section a) (letter_is_name section valid a (first_within a [] h).0) (sym (append-nil (letter_name section a)) ∙ e)
  not_empty a (b ∷ letters) h e =
      no_cut 32 (letter_name section a) (letter_name section b ++ names letters)
      (subst (Lacks 32) (sym e) (omega arith, (omega arith, (omega arith, (omega arith, (omega arith, tt))))))

  -- the list of a section
  list_says : (any : Bool) (letters : List ℕ) → AreLetters letters → IsTrue (any || (length letters == 1))
      → Says (list any section.letters) (list_text section letters) letters
  list_says true [] all one = inl (refl, refl)
  list_says true (a ∷ letters) all one = inr (not_empty a letters all, letters_say a letters all)
  list_says false [] all one = absurd (true≢false (sym one))
  list_says false (a ∷ []) all one =
      subst (λ text. Says (list false section.letters) text (a ∷ [])) (sym (append-nil (letter_name section a)))
      (a, letter_says a (first_within a [] all).0, refl)
  list_says false (a ∷ (b ∷ letters)) all one =
      let two : length (a ∷ (b ∷ letters)) ≡ 1 = eqb-true (length (a ∷ (b ∷ letters))) 1 one in
      absurd (omega (arith, two))

  part_joined : (letters : List ℕ) → part_text section letters ≡ section.name ++ 58 ∷ (32 ∷ list_text section letters)
  part_joined letters = append_assoc section.name (codes ": ") (list_text section letters)

  -- the part of a section
  part_says : (letters : List ℕ) → list_fits section letters ≡ true → Says (part section) (part_text section letters) letters
  part_says letters fit =
      let parts = and_parts (list_all (λ a. nat_lt a (letter_count section)) letters) (has_any_length section.kind || (length letters == 1)) fit in (
        (0, letters),
        (
          section.name,
          32 ∷ list_text section letters,
          record { joined = part_joined letters; first = name_lacks 58 refl section.name valid.named },
          numbered_says (section.name ∷ []) a_name (one_apart section.name) 0 (omega arith),
          inl (list_text section letters, refl, list_says (has_any_length section.kind) letters parts.0 parts.1),
        ),
        refl,
      )

  -- what the part of a section lacks
  module _ (byte : ℕ) (apart : is_word_byte byte ≡ false) (no_space : 32 ≢ byte) (no_colon : 58 ≢ byte) where
    letter_lacks : (a : ℕ) → a < letter_count section → Lacks byte (letter_name section a)
    letter_lacks a within = name_lacks byte apart (letter_name section a) (letter_is_name section valid a within)

    names_lack : (letters : List ℕ) → AreLetters letters → Lacks byte (names letters)
    names_lack [] all = tt
    names_lack (a ∷ letters) all =
        let parts = first_within a letters all in
        (no_space, Lacks-append byte (letter_name section a) (names letters) (letter_lacks a parts.0) (names_lack letters parts.1))

    list_lacks : (letters : List ℕ) → AreLetters letters → Lacks byte (list_text section letters)
    list_lacks [] all = word_bytes_lack byte apart (codes "empty") refl
    list_lacks (a ∷ letters) all =
        let parts = first_within a letters all in
        Lacks-append byte (letter_name section a) (names letters) (letter_lacks a parts.0) (names_lack letters parts.1)

    part_lacks : (letters : List ℕ) → list_fits section letters ≡ true → Lacks byte (part_text section letters)
    part_lacks letters fit =
        let all = (and_parts (list_all (λ a. nat_lt a (letter_count section)) letters) (has_any_length section.kind || (length letters == 1)) fit).0 in
        subst (Lacks byte) (sym (part_joined letters))
        (Lacks-append byte section.name (58 ∷ (32 ∷ list_text section letters)) (name_lacks byte apart section.name valid.named)
        (no_colon, (no_space, list_lacks letters all)))

-- parts behind the first
abbrev later : List (List ℕ) → List ℕ
later parts = flat_map (λ part. codes "; " ++ part) parts

abbrev joined : List Section → List (List ℕ) → List ℕ
joined sections lists = join_by (λ part. part) (codes "; ") (part_texts sections lists)

parts_say : (sections : List Section) (lists : List (List ℕ)) → AllByRecursion IsValidSection sections → lists_fit sections lists ≡ true
    → Says (each 59 (codes " ") part sections) (joined sections lists) lists
parts_say [] [] valid fit = (refl, refl)
parts_say [] (list ∷ lists) valid fit = absurd (true≢false (sym fit))
parts_say (section ∷ sections) [] valid fit = absurd (true≢false (sym fit))
parts_say (section ∷ []) (list ∷ []) valid fit =
    subst (λ text. Says (each 59 (codes " ") part (section ∷ [])) text (list ∷ [])) (sym (append-nil (part_text section list)))
    (list, part_says section valid.0 list (and_parts (list_fits section list) true fit).0, refl)
parts_say (section ∷ []) (list ∷ (other ∷ lists)) valid fit =
    absurd (true≢false (sym (and_parts (list_fits section list) false fit).1))
parts_say (section ∷ (next ∷ sections)) (list ∷ []) valid fit = absurd (true≢false (sym (and_parts (list_fits section list) false fit).1))
parts_say (section ∷ (next ∷ sections)) (list ∷ (other ∷ lists)) valid fit =
    let parts = and_parts (list_fits section list) (lists_fit (next ∷ sections) (other ∷ lists)) fit in (
      (list, other ∷ lists),
      (
        part_text section list,
        32 ∷ (part_text next other ++ later (part_texts sections lists)),
        record { joined = refl; first = part_lacks section valid.0 59 refl (omega arith) (omega arith) list parts.0 },
        part_says section valid.0 list parts.0,
        inl (part_text next other ++ later (part_texts sections lists), refl, parts_say (next ∷ sections) (other ∷ lists) valid.1 parts.1),
      ),
      refl,
    )

module _ (byte : ℕ) (apart : is_word_byte byte ≡ false) (no_space : 32 ≢ byte) (no_colon : 58 ≢ byte) (no_semicolon : 59 ≢ byte) where
  later_lacks : (sections : List Section) (lists : List (List ℕ)) → AllByRecursion IsValidSection sections → lists_fit sections lists ≡ true
      → Lacks byte (later (part_texts sections lists))
  later_lacks [] lists valid fit = tt
  later_lacks (section ∷ sections) [] valid fit = tt
  later_lacks (section ∷ sections) (list ∷ lists) valid fit =
      let parts = and_parts (list_fits section list) (lists_fit sections lists) fit in (
        no_semicolon,
        (
          no_space,
          Lacks-append byte (part_text section list) (later (part_texts sections lists))
              (part_lacks section valid.0 byte apart no_space no_colon list parts.0) (later_lacks sections lists valid.1 parts.1),
        ),
      )

  parts_lack : (sections : List Section) (lists : List (List ℕ)) → AllByRecursion IsValidSection sections → lists_fit sections lists ≡ true
      → Lacks byte (joined sections lists)
  parts_lack [] lists valid fit = tt
  parts_lack (section ∷ sections) [] valid fit = tt
  parts_lack (section ∷ sections) (list ∷ lists) valid fit =
      let parts = and_parts (list_fits section list) (lists_fit sections lists) fit in
      Lacks-append byte (part_text section list) (later (part_texts sections lists))
      (part_lacks section valid.0 byte apart no_space no_colon list parts.0) (later_lacks sections lists valid.1 parts.1)

module _ (s : SystemData) (valid : IsValid s) (c : Configuration) (fit : fits s c ≡ true) where
  pub configuration_says : Says (configuration s.sections) (configuration_text s c) c
  configuration_says = (c.lists, parts_say s.sections c.lists valid.each_section fit, refl)

  pub configuration_lacks : Lacks 10 (configuration_text s c)
  configuration_lacks = parts_lack 10 refl (omega arith) (omega arith) (omega arith) s.sections c.lists valid.each_section fit
