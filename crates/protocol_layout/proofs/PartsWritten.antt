-- The words of names, sets, patterns, rows and sections say them again.
use Rattle.std.proofs.Common.{◌≡◌, ℕ, ◌+◌, ◌-◌, List, [], ◌∷◌, length, map, refl, sym, ap, subst, ◌∙◌, inl, inr, nat_le}
use Rattle.std.proofs.lemmas.List.Concat.{flat_map_single}
use Rattle.std.proofs.lemmas.List.{length-map}
use Rattle.std.specs.Prelude.{codes, ⊤, fold}
use Rattle.std.specs.List.{flat_map}
use Rattle.protocol_lexer.specs.declared.TokenKind.TheVariants.{BraceLeft, BraceRight, Colon, Semicolon, Star, Plus}
use Rattle.forms.specs.declared.fault.What.{What}
use Rattle.forms.specs.declared.fault.What.TheVariants as Limits
use Rattle.forms.specs.declared.name.Name.{Name}
use Rattle.protocol_syntax.specs.declared.protocol.SectionText.{SectionText}
use Rattle.protocol_syntax.specs.declared.protocol.BaseText.TheVariants.{Letter, Set, Any}
use Rattle.protocol_syntax.specs.declared.protocol.Kind.{Kind}
use Rattle.protocol_syntax.specs.declared.protocol.Kind.TheVariants as Kinds
use Rattle.protocol_syntax.specs.declared.protocol.Many.{Many}
use Rattle.protocol_syntax.specs.declared.protocol.Many.TheVariants as Counts
use Rattle.forms.specs.declared.symbol.Keyword.{Keyword}
use Rattle.forms.specs.declared.symbol.Keyword.TheVariants as Words
use Rattle.forms.specs.declared.symbol.Symbol.TheVariants.{Sign}
use Rattle.forms.specs.Grammar.{Grammar, sign, name, optional, many, item, up_to}
use Rattle.protocol_syntax.specs.Grammar.{common_kind, lossy_kind, kind, section, more_sections, letters_of, set, letter_base, set_base, base, count, atom, atoms, pattern, part, row_body, row}
use Rattle.protocol_syntax.proofs.ForCallers.{IsToken-brace_left, IsToken-brace_right, IsToken-colon, IsToken-semicolon, IsToken-star}
use Rattle.protocol_syntax.proofs.ForCallers.{IsToken-plus, Prints, Writes, spelling, prints_sign, prints_keyword, prints_means}
use Rattle.protocol_syntax.proofs.ForCallers.{prints_name, prints_gives, prints_bind, prints_last, prints_after, prints_left, prints_right}
use Rattle.protocol_syntax.proofs.ForCallers.{prints_absent, prints_present, prints_only, prints_item, prints_all, prints_same, same_length}
use Rattle.protocol_syntax.proofs.ForCallers.{writes_many, writes_up_to}
use Rattle.forms.proofs.ForCallers.{MayMean, IsName}
use Rattle.protocol_layout.specs.Layout.{names_words, in_braces, kind_word, kind_rest, section_words, count_words, base_words, atom_words, pattern_words, part_words, row_words}
use Rattle.protocol_layout.specs.Places.{name_without_place, section_without_places, base_without_places, atom_without_places, part_without_places, row_without_places}

pub left_brace : Prints (sign (Sign BraceLeft)) (λ _. ⊤) (codes "{" ∷ [])
left_brace = prints_sign (Sign BraceLeft) (codes "{") IsToken-brace_left refl

pub right_brace : Prints (sign (Sign BraceRight)) (λ _. ⊤) (codes "}" ∷ [])
right_brace = prints_sign (Sign BraceRight) (codes "}") IsToken-brace_right refl

pub colon : Prints (sign (Sign Colon)) (λ _. ⊤) (codes ":" ∷ [])
colon = prints_sign (Sign Colon) (codes ":") IsToken-colon refl

pub semicolon : Prints (sign (Sign Semicolon)) (λ _. ⊤) (codes ";" ∷ [])
semicolon = prints_sign (Sign Semicolon) (codes ";") IsToken-semicolon refl

-- a name, apart from its place
abbrev pub IsLike : Name → Name → Type 0
IsLike n m = name_without_place m ≡ name_without_place n

pub name_again : (n : Name) → IsName n → Prints name (IsLike n) (n.text ∷ [])
name_again n is =
    let r = prints_name n is in
    record {
      tokens = r.tokens;
      some = (n, refl);
      says = λ s i k h.
          let t = r.says s i k h in
          (t.0, t.1, ap (λ (text : List ℕ). name_without_place (record { text = text; place = n.place })) t.2);
    }

abbrev name_words : Name → List (List ℕ)
name_words n = n.text ∷ []

flat_names : {x : Grammar (List Name)} (names : List Name) → Prints x (λ found. map name_without_place found ≡ map name_without_place names) (flat_map name_words names)
    → Prints x (λ found. map name_without_place found ≡ map name_without_place names) (names_words names)
flat_names {x} names r =
    subst (λ (ws : List (List ℕ)). Prints x (λ found. map name_without_place found ≡ map name_without_place names) ws) (flat_map_single (λ (n : Name). n.text) names) r

pub names_written : Writes (many name) names_words (map name_without_place)
names_written names v = flat_names names (writes_many {words = name_words} name_again names v)

pub names_up_to_written : (limit : ℕ) (what : What) → Writes (up_to limit what name) names_words (map name_without_place)
names_up_to_written limit what names v = flat_names names (writes_up_to {words = name_words} limit what name_again names v)

pub set_written : Writes set (λ names. in_braces (names_words names)) (map name_without_place)
unfolding set
set_written a (u, tu, (names, v, (w, tw, e))) =
    prints_same (λ names. in_braces (names_words names)) (map name_without_place) e
    (prints_after left_brace (prints_bind (names_written names v) (λ found p. prints_after right_brace (prints_gives found p))))

pub base_written : Writes base base_words base_without_places
unfolding base letter_base set_base
base_written b (inl (n, v, e)) =
    prints_same base_words base_without_places e (prints_left (prints_last (name_again n v) (λ m p. prints_gives (Letter m) (ap Letter p))))
base_written b (inr (inl (u, t, e))) = prints_same base_words base_without_places e (prints_right (prints_left (prints_means Words.Any Any refl)))
base_written b (inr (inr (names, v, e))) =
    prints_same base_words base_without_places e
    (prints_right (prints_right (prints_last (set_written names v) (λ found p. prints_gives (Set found) (ap Set p)))))

count_written : (m : Many) → Prints (optional Counts.One count) (λ n. n ≡ m) (count_words m)
unfolding count
count_written Counts.One = prints_absent Counts.One refl
count_written Counts.Star =
    prints_present Counts.One (prints_left (prints_after (prints_sign (Sign Star) (codes "*") IsToken-star refl) (prints_gives Counts.Star refl)))
count_written Counts.Plus =
    prints_present Counts.One (prints_right (prints_after (prints_sign (Sign Plus) (codes "+") IsToken-plus refl) (prints_gives Counts.Plus refl)))

atom_written : Writes atom atom_words atom_without_places
unfolding atom
atom_written a (b, v, (m, w, e)) =
    prints_same atom_words atom_without_places e
    (prints_bind (base_written b v) (λ c p. prints_last (count_written m) (λ n q. prints_gives (record { base = c; many = n }) (rw (p, q) refl))))

pattern_written : Writes pattern pattern_words (map atom_without_places)
unfolding pattern atoms
pattern_written a (inl (u, t, e)) = prints_same pattern_words (map atom_without_places) e (prints_left (prints_means Words.Empty [] refl))
pattern_written a (inr (first, v, (rest, w, e))) =
    prints_same pattern_words (map atom_without_places) e
    (prints_right (prints_bind (atom_written first v) (λ b p.
    prints_last (writes_up_to 31 Limits.Atoms atom_written rest w) (λ found q. prints_gives (b ∷ found) (rw (p, q) refl)))))

part_written : Writes part part_words part_without_places
unfolding part
part_written a (n, v, (u, tu, (atoms, w, (x, tx, e)))) =
    prints_same part_words part_without_places e
    (prints_bind (name_again n v) (λ m p.
    prints_after colon
    (prints_bind (pattern_written atoms w) (λ found q.
    prints_after semicolon
    (prints_gives (record { section = m; atoms = found }) (rw (p, q) refl))))))

pub row_written : (word : Keyword) → Writes (row word) (row_words (spelling word)) row_without_places
unfolding row row_body
row_written word a (u, tu, (w, tw, (parts, v, (x, tx, e)))) =
    prints_same (row_words (spelling word)) row_without_places e
    (prints_after (prints_keyword word)
    (prints_after left_brace
    (prints_bind (writes_many part_written parts v) (λ found p.
    prints_after right_brace
    (prints_gives (record { parts = found }) (rw p refl))))))

kind_words : Kind → List (List ℕ)
kind_words k = kind_word k ∷ kind_rest k

common_kind_written : Writes common_kind kind_words (λ k. k)
unfolding common_kind kind_words
common_kind_written k (inl (u, t, e)) = prints_same kind_words (λ (k : Kind). k) e (prints_left (prints_means Words.Cell Kinds.Cell refl))
common_kind_written k (inr (inl (u, t, e))) =
    prints_same kind_words (λ (k : Kind). k) e (prints_right (prints_left (prints_means Words.Array Kinds.Array refl)))
common_kind_written k (inr (inr (inl (u, t, e)))) =
    prints_same kind_words (λ (k : Kind). k) e (prints_right (prints_right (prints_left (prints_means Words.Channel Kinds.Channel refl))))
common_kind_written k (inr (inr (inr (u, t, e)))) =
    prints_same kind_words (λ (k : Kind). k) e (prints_right (prints_right (prints_right (prints_means Words.Stack Kinds.Stack refl))))

lossy_kind_written : Writes lossy_kind kind_words (λ k. k)
unfolding lossy_kind kind_words
lossy_kind_written k (u, tu, (w, tw, e)) =
    prints_same kind_words (λ (k : Kind). k) e
    (prints_after (prints_keyword Words.Lossy) (prints_after (prints_keyword Words.Channel) (prints_gives Kinds.LossyChannel refl)))

kind_written : (language : ℕ) → Writes (kind language) kind_words (λ k. k)
unfolding kind
kind_written language k (inl v) = prints_left (common_kind_written k v)
kind_written language k (inr v) = prints_right (prints_only (nat_le 2 language) v.0 (lossy_kind_written k v.1))

pub section_written : (language used : ℕ) → Writes (section language used) section_words section_without_places
unfolding section kind_words
section_written language used a (k, vk, (n, v, (u, tu, (letter, vl, (letters, vls, (w, tw, e)))))) =
    prints_same section_words section_without_places e
    (prints_bind (kind_written language k vk) (λ l p.
    prints_bind (name_again n v) (λ m q.
    prints_after left_brace
    (prints_bind (prints_item (nat_le 256 used) Limits.Letters vl.0 (name_again letter vl.1)) (λ first r.
    prints_bind (names_up_to_written (255 - used) Limits.Letters letters vls) (λ rest t.
    prints_after right_brace
    (prints_gives (record { kind = l; name = m; letters = first ∷ rest }) (rw (p, q, r, t) refl))))))))

letters_same : (used : ℕ) (sections : List SectionText)
    → fold (λ n s. n + length s.letters) used (map section_without_places sections) ≡ fold (λ n s. n + length s.letters) used sections
letters_same used [] = refl
letters_same used (s ∷ sections) =
    ap (λ (n : ℕ). fold (λ n s. n + length s.letters) (used + n) (map section_without_places sections)) (length-map s.letters name_without_place)
    ∙ letters_same (used + length s.letters) sections

-- sections that are alike have as many letters
used_same : (xs ys : List SectionText) → map section_without_places xs ≡ map section_without_places ys → letters_of xs ≡ letters_of ys
used_same xs ys e = sym (letters_same 0 xs) ∙ (ap (λ (l : List SectionText). letters_of l) e ∙ letters_same 0 ys)

pub more_sections_written : (language : ℕ) (first again : SectionText) → section_without_places again ≡ section_without_places first
    → (sections : List SectionText) → MayMean (more_sections language first) sections
    → Prints (more_sections language again) (λ found. map section_without_places found ≡ map section_without_places sections) (flat_map section_words sections)
unfolding more_sections
more_sections_written language first again e sections v =
    prints_all (λ before. item (nat_le 15 (length before)) Limits.Sections (section language (letters_of (again ∷ before))))
    (λ before. MayMean (item (nat_le 15 (length before)) Limits.Sections (section language (letters_of (first ∷ before))))) section_words section_without_places
    (λ before others d a w.
    let used : letters_of (again ∷ others) ≡ letters_of (first ∷ before) = used_same (again ∷ others) (first ∷ before) (rw (e, d) refl) in
    prints_item (nat_le 15 (length others)) Limits.Sections (ap (nat_le 15) (same_length section_without_places others before d) ∙ w.0)
    (subst (λ (n : ℕ). Prints (section language n) (λ b. section_without_places b ≡ section_without_places a) (section_words a))
    (sym used) (section_written language (letters_of (first ∷ before)) a w.1)))
    sections v
