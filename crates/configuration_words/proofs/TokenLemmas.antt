-- The text of a configuration says it.
use Rattle.std.proofs.Common.{◌≡◌, ◌<◌, ◌&&◌, ◌||◌, ◌==◌, ℕ, Bool, true, false, List, [], ◌∷◌, ◌++◌, Option, None, Some, cond, codes, flat_map, map, length, not, position, ◌+◌, refl, sym, ap, subst, ◌∙◌, arith}
use Rattle.std.proofs.Common.{append_assoc, nat_lt, nat_le, ltb-true, true≢false}
use Rattle.std.specs.Prelude.{is_none}
use Rattle.std.specs.List.{join_by, list_all, AllByRecursion}
use Rattle.std.specs.Str.{bytes_eq}
use Rattle.std.proofs.lemmas.Slice.Eq.{bytes_eq-Decides}
use Rattle.std.proofs.lemmas.Bool.{and_parts}
use Rattle.std.proofs.lemmas.Bool.Decides.{nat_tests}
use Rattle.std.proofs.lemmas.Grind.{flat_map-append}
use Rattle.std.proofs.lemmas.List.Concat.{flat_map_single}
use Rattle.std.proofs.lemmas.List.{map-id}
use Rattle.protocol_lexer.specs.declared.TokenKind.TheVariants.{Colon, Semicolon}
use Rattle.protocol_lexer.specs.Piece.{is_word_byte}
use Rattle.forms.specs.declared.symbol.Keyword.{Keyword}
use Rattle.forms.specs.declared.symbol.Keyword.TheVariants as Words
use Rattle.forms.specs.declared.symbol.Symbol.TheVariants.{Sign}
use Rattle.forms.specs.Symbol.{Source, keyword_of, source_of}
use Rattle.forms.specs.Grammar.{one_of, many, each, IsWithin}
use Rattle.forms.specs.FirstFault.{IsMeaning}
use Rattle.protocol_syntax.specs.Spacing.{spaced}
use Rattle.protocol_syntax.proofs.ForCallers.{is_word, IsToken-colon, IsToken-semicolon, tokens_of_words, Prints, prints_sign, prints_means}
use Rattle.protocol_syntax.proofs.ForCallers.{prints_one_of, prints_gives, prints_bind, prints_last, prints_after, prints_left}
use Rattle.protocol_syntax.proofs.ForCallers.{prints_right, prints_all, words_stand}
use Rattle.forms.proofs.ForCallers.{AllAfter, within_from_said}
use Rattle.protocol_model.specs.declared.system.Section.{Section}
use Rattle.protocol_model.specs.declared.system.Configuration.{Configuration}
use Rattle.protocol_model.specs.Names.{IsName}
use Rattle.protocol_model.specs.System.{SystemData, IsValid, IsValidSection, letter_count}
use Rattle.protocol_model.specs.Patterns.{fits, has_any_length, list_fits, lists_fit}
use Rattle.configuration_words.specs.Texts.{configuration_text, letter_name, list_text, part_text, part_texts}
use Rattle.configuration_words.specs.ConfigurationText.{MeansConfiguration, letters, one_letter, list_of, part, later_part, parts, configuration}
use Rattle.configuration_words.proofs.GrammarLemmas.{configuration_is_uniform, configuration_is_told}
use Rattle.configuration_words.proofs.LetterLemmas.{letter_is_name, number_of_name}
use Rattle.configuration_words.proofs.WordLemmas.{fitting_letters}

-- the words of a list: the names of its letters, or `empty` where there is no letter
abbrev list_tokens : Section → List ℕ → List (List ℕ)
list_tokens section [] = codes "empty" ∷ []
list_tokens section (a ∷ list) = map (letter_name section) (a ∷ list)

-- the name of the section, a colon, and its list
abbrev part_tokens : Section → List ℕ → List (List ℕ)
part_tokens section list = section.name ∷ codes ":" ∷ list_tokens section list

-- the parts behind the first, each behind a semicolon
abbrev later_tokens : List Section → List (List ℕ) → List (List ℕ)
later_tokens [] lists = []
later_tokens (section ∷ sections) [] = []
later_tokens (section ∷ sections) (list ∷ lists) = (codes ";" ∷ part_tokens section list) ++ later_tokens sections lists

word_not_attached : (b : ℕ) → is_word_byte b ≡ true → ((b == 58) || (b == 59) || (b == 42) || (b == 43)) ≡ false
word_not_attached b h = grind (arith, nat_tests)

name_bytes : (name : List ℕ) → IsName name → list_all is_word_byte name ≡ true
name_bytes name is =
    (and_parts (nat_lt 0 (length name) && nat_le (length name) 32) (list_all is_word_byte name)
    (and_parts (nat_lt 0 (length name) && nat_le (length name) 32 && list_all is_word_byte name) (is_none (keyword_of name)) is).0).1

none_is : (found : Option Keyword) → is_none found ≡ true → found ≡ None
none_is None h = refl
none_is (Some k) h = absurd (true≢false (sym h))

-- a name is a word that is not reserved, and stands behind a space
name_free : (name : List ℕ) → IsName name → keyword_of name ≡ None
name_free name is =
    none_is (keyword_of name)
    (and_parts (nat_lt 0 (length name) && nat_le (length name) 32 && list_all is_word_byte name) (is_none (keyword_of name)) is).1

name_is_word : (name : List ℕ) → IsName name → is_word name ≡ true
name_is_word [] is = absurd (true≢false (sym is))
name_is_word (b ∷ bytes) is = name_bytes (b ∷ bytes) is

name_spaced : (name : List ℕ) → IsName name → spaced name ≡ 32 ∷ name
name_spaced [] is = absurd (true≢false (sym is))
name_spaced (b ∷ bytes) is =
    ap (λ t. cond t (b ∷ bytes) (32 ∷ b ∷ bytes))
    (word_not_attached b (and_parts (is_word_byte b) (list_all is_word_byte bytes) (name_bytes (b ∷ bytes) is)).0)

-- a name is the first of its own list
own_number : (name : List ℕ) → position (bytes_eq name) (name ∷ []) ≡ Some 0
own_number name = ap (λ (b : Bool). let n = cond (not b) (1 + 0) 0 in cond (nat_lt n 1) (Some n) None) ((bytes_eq-Decides name name).1 refl)

module _ (section : Section) (valid : IsValidSection section) where
  letters_spaced : (list : List ℕ) → list_all (λ a. nat_lt a (letter_count section)) list ≡ true
      → flat_map spaced (map (letter_name section) list) ≡ flat_map (λ a. codes " " ++ letter_name section a) list
  letters_spaced [] h = refl
  letters_spaced (a ∷ list) h =
      let both = and_parts (nat_lt a (letter_count section)) (list_all (λ b. nat_lt b (letter_count section)) list) h in
      let front : spaced (letter_name section a) ≡ codes " " ++ letter_name section a =
      name_spaced (letter_name section a) (letter_is_name section valid a (ltb-true a (letter_count section) both.0)) in
      let back : flat_map spaced (map (letter_name section) list) ≡ flat_map (λ b. codes " " ++ letter_name section b) list = letters_spaced list both.1 in
      ap (λ x. x ++ flat_map spaced (map (letter_name section) list)) front ∙ ap (λ y. (codes " " ++ letter_name section a) ++ y) back

  list_spaced : (list : List ℕ) → list_all (λ a. nat_lt a (letter_count section)) list ≡ true
      → flat_map spaced (list_tokens section list) ≡ codes " " ++ list_text section list
  list_spaced [] h = refl
  list_spaced (a ∷ list) h = letters_spaced (a ∷ list) h

  part_spaced : (list : List ℕ) → list_all (λ a. nat_lt a (letter_count section)) list ≡ true
      → section.name ++ flat_map spaced (codes ":" ∷ list_tokens section list) ≡ part_text section list
  part_spaced list h =
      ap (λ x. section.name ++ (codes ":" ++ x)) (list_spaced list h) ∙ sym (append_assoc section.name (codes ": ") (list_text section list))

  -- the words of letters, lists and parts say them
  letter_written : (a : ℕ) → a < letter_count section → Prints (one_of section.letters) (λ b. b ≡ a) (letter_name section a ∷ [])
  letter_written a h =
      let is = letter_is_name section valid a h in
      prints_one_of section.letters (letter_name section a) a (name_is_word (letter_name section a) is) (name_free (letter_name section a) is)
      (number_of_name section valid a h)

  all_below : (list before : List ℕ) → list_all (λ a. nat_lt a (letter_count section)) list ≡ true → AllAfter (λ _ a. a < letter_count section) before list
  all_below [] before h = tt
  all_below (a ∷ list) before h =
      let both = and_parts (nat_lt a (letter_count section)) (list_all (λ b. nat_lt b (letter_count section)) list) h in
      (ltb-true a (letter_count section) both.0, all_below list (before ++ a ∷ []) both.1)

  letters_written : (list : List ℕ) → list_all (λ a. nat_lt a (letter_count section)) list ≡ true
      → Prints (many (one_of section.letters)) (λ found. map (λ a. a) found ≡ map (λ a. a) list) (map (letter_name section) list)
  letters_written list h =
      subst (λ (ws : List (List ℕ)). Prints (many (one_of section.letters)) (λ found. map (λ a. a) found ≡ map (λ a. a) list) ws)
      (flat_map_single (letter_name section) list)
      (prints_all (λ _. one_of section.letters) (λ _ a. a < letter_count section) (λ a. letter_name section a ∷ []) (λ a. a)
      (λ before again e a below. letter_written a below) list (all_below list [] h))

  list_written : (any : Bool) (list : List ℕ) → list_all (λ a. nat_lt a (letter_count section)) list ≡ true → (any || (length list == 1)) ≡ true
      → Prints (list_of any section) (λ found. found ≡ list) (list_tokens section list)
  unfolding list_of letters one_letter
  list_written true [] h g = prints_left (prints_means Words.Empty [] refl)
  list_written true (a ∷ list) h g =
      let both = and_parts (nat_lt a (letter_count section)) (list_all (λ b. nat_lt b (letter_count section)) list) h in
      prints_right (prints_bind (letter_written a (ltb-true a (letter_count section) both.0)) (λ b p.
      prints_last (letters_written list both.1) (λ found q.
      prints_gives (b ∷ found) (ap (λ (c : ℕ). c ∷ found) p ∙ ap (λ (l : List ℕ). a ∷ l) (sym (map-id found) ∙ q ∙ map-id list)))))
  list_written false [] h g = absurd (true≢false (sym g))
  list_written false (a ∷ []) h g =
      let both = and_parts (nat_lt a (letter_count section)) true h in
      prints_bind (letter_written a (ltb-true a (letter_count section) both.0)) (λ b p. prints_gives (b ∷ []) (ap (λ (c : ℕ). c ∷ []) p))
  list_written false (a ∷ b ∷ list) h g = let more : (length (a ∷ b ∷ list) == 1) ≡ true = g in absurd (grind (arith, nat_tests, more))

  part_written : (list : List ℕ) → list_fits section list ≡ true → Prints (part section) (λ found. found ≡ list) (part_tokens section list)
  unfolding part
  part_written list h =
      let both = and_parts (list_all (λ a. nat_lt a (letter_count section)) list) (has_any_length section.kind || (length list == 1)) h in
      let first = prints_one_of (section.name ∷ []) section.name 0 (name_is_word section.name valid.named) (name_free section.name valid.named) (own_number section.name) in
      prints_bind first (λ _ _. prints_after (prints_sign (Sign Colon) (codes ":") IsToken-colon refl) (list_written (has_any_length section.kind) list both.0 both.1))

each_written : (sections : List Section) (lists : List (List ℕ)) → AllByRecursion IsValidSection sections → lists_fit sections lists ≡ true
    → Prints (each later_part sections) (λ found. found ≡ lists) (later_tokens sections lists)
unfolding later_part
each_written [] [] valid h = prints_gives [] refl
each_written [] (list ∷ lists) valid h = absurd (true≢false (sym h))
each_written (section ∷ sections) [] valid h = absurd (true≢false (sym h))
each_written (section ∷ sections) (list ∷ lists) valid h =
    let both = and_parts (list_fits section list) (lists_fit sections lists) h in
    prints_bind (prints_after (prints_sign (Sign Semicolon) (codes ";") IsToken-semicolon refl) (part_written section valid.0 list both.0)) (λ found p.
    prints_last (each_written sections lists valid.1 both.1) (λ others q.
    prints_gives (found ∷ others) (ap (λ (l : List ℕ). l ∷ others) p ∙ ap (λ (ls : List (List ℕ)). list ∷ ls) q)))

-- the parts behind the first, as they are spaced
later_spaced : (sections : List Section) (lists : List (List ℕ)) → AllByRecursion IsValidSection sections → lists_fit sections lists ≡ true
    → flat_map spaced (later_tokens sections lists) ≡ flat_map (λ part. codes "; " ++ part) (part_texts sections lists)
later_spaced [] lists valid h = refl
later_spaced (section ∷ sections) [] valid h = refl
later_spaced (section ∷ sections) (list ∷ lists) valid h =
    let both = and_parts (list_fits section list) (lists_fit sections lists) h in
    let inner = codes ":" ∷ list_tokens section list in
    let later = later_tokens sections lists in
    let name : spaced section.name ≡ 32 ∷ section.name = name_spaced section.name valid.0.named in
    let part = part_spaced section valid.0 list (fitting_letters section list both.0) in
    let back = later_spaced sections lists valid.1 both.1 in
    ap (λ x. codes ";" ++ (x ++ flat_map spaced (inner ++ later))) name
    ∙ ap (λ x. codes "; " ++ (section.name ++ x)) (flat_map-append spaced inner later)
    ∙ ap (λ x. codes "; " ++ x) (sym (append_assoc section.name (flat_map spaced inner) (flat_map spaced later)))
    ∙ ap (λ x. codes "; " ++ (x ++ flat_map spaced later)) part
    ∙ ap (λ x. codes "; " ++ (part_text section list ++ x)) back

-- the text of all sections
abbrev text_of : List Section → List (List ℕ) → List ℕ
text_of sections lists = join_by (λ part. part) (codes "; ") (part_texts sections lists)

configuration_written : (section : Section) (sections : List Section) (list : List ℕ) (lists : List (List ℕ)) → AllByRecursion IsValidSection (section ∷ sections)
    → lists_fit (section ∷ sections) (list ∷ lists) ≡ true
    → Prints (configuration (section ∷ sections)) (λ c. c ≡ record { lists = list ∷ lists }) (part_tokens section list ++ later_tokens sections lists)
unfolding configuration parts
configuration_written section sections list lists valid h =
    let both = and_parts (list_fits section list) (lists_fit sections lists) h in
    prints_last (prints_bind (part_written section valid.0 list both.0) (λ found p.
    prints_last (each_written sections lists valid.1 both.1) (λ others q.
    prints_gives (found ∷ others) (ap (λ (l : List ℕ). l ∷ others) p ∙ ap (λ (ls : List (List ℕ)). list ∷ ls) q))))
    (λ all r. prints_gives (record { lists = all }) (ap (λ (ls : List (List ℕ)). record { lists = ls }) r))

lists_mean : (sections : List Section) (lists : List (List ℕ)) → 0 < length sections → AllByRecursion IsValidSection sections
    → lists_fit sections lists ≡ true → IsMeaning (configuration sections) (text_of sections lists) (record { lists = lists })
lists_mean [] lists some valid h = absurd (omega (arith, some))
lists_mean (section ∷ sections) [] some valid h = absurd (true≢false (sym h))
lists_mean (section ∷ sections) (list ∷ lists) some valid h =
    let both = and_parts (list_fits section list) (lists_fit sections lists) h in
    let inner = codes ":" ∷ list_tokens section list in
    let later = later_tokens sections lists in
    let written = configuration_written section sections list lists valid h in
    let lexed = tokens_of_words section.name (inner ++ later) written.tokens in
    let source : Source = source_of (section.name ++ flat_map spaced (inner ++ later)) lexed.0 in
    let again = written.says source 0 (length lexed.0) (words_stand source (section.name ∷ (inner ++ later)) [] lexed.0 0 refl refl lexed.2) in
    let within = within_from_said source (configuration (section ∷ sections)) (configuration_is_uniform (section ∷ sections))
    (configuration_is_told (section ∷ sections)) again.0 again.1 in
    let text : section.name ++ flat_map spaced (inner ++ later) ≡ text_of (section ∷ sections) (list ∷ lists) =
    ap (λ x. section.name ++ x) (flat_map-append spaced inner later)
    ∙ sym (append_assoc section.name (flat_map spaced inner) (flat_map spaced later))
    ∙ ap (λ x. x ++ flat_map spaced later) (part_spaced section valid.0 list (fitting_letters section list both.0))
    ∙ ap (λ x. part_text section list ++ x) (later_spaced sections lists valid.1 both.1) in
    subst (λ t. IsMeaning (configuration (section ∷ sections)) t (record { lists = list ∷ lists })) text (
      lexed.0,
      lexed.1,
      subst (λ (c : Configuration). IsWithin (configuration (section ∷ sections)) source c) again.2 within,
    )

-- the text of a configuration means it
pub text_means : (s : SystemData) (c : Configuration) → IsValid s → fits s c ≡ true → MeansConfiguration s (configuration_text s c) c
text_means s c valid fitting = lists_mean s.sections c.lists valid.limits.some_section valid.each_section fitting
