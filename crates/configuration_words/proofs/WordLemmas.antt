-- Joined words, and lists of letters that are raised.
use Rattle.std.proofs.Common.{◌≡◌, ◌<◌, ◌≤◌, ◌+◌, ℕ, true, List, [], ◌∷◌, ◌++◌, Option, None, Some, All, get_or, refl, sym, ap, subst, ◌∙◌}
use Rattle.std.proofs.Common.{arith, nat_lt, ltb-true}
use Rattle.std.specs.List.{list_all}
use Rattle.std.proofs.lemmas.Bool.{and_parts}
use Rattle.std.proofs.lemmas.List.{append-nil}
use Rattle.std.proofs.lemmas.List.Sums.{AllPass-from_list_all}
use Rattle.std.proofs.lemmas.Option.{same_Some}
use Rattle.protocol_model.specs.declared.system.Section.{Section}
use Rattle.protocol_model.specs.System.{letter_count}
use Rattle.protocol_model.specs.Patterns.{list_fits}
use Rattle.protocol_model.specs.Words.{raised, joined}
use Rattle.configuration_words.specs.private.Cuts.{Lacks, IsCut}
use Rattle.sequence.proofs.ForCallers.{cut_unique, no_cut}

-- words, each behind a separator
abbrev pub separated : ℕ → List (List ℕ) → List ℕ
separated separator [] = []
separated separator (word ∷ words) = separator ∷ (word ++ separated separator words)

pub joined-cons : (separator : ℕ) (word : List ℕ) (words : List (List ℕ)) → joined separator (word ∷ words) ≡ word ++ separated separator words
joined-cons separator word [] = sym (append-nil word)
joined-cons separator word (next ∷ words) = ap (λ rest. word ++ separator ∷ rest) (joined-cons separator next words)

-- the joined words, if there is one
abbrev pub joined_some : ℕ → List (List ℕ) → Option (List ℕ)
joined_some separator [] = None
joined_some separator (word ∷ words) = Some (joined separator (word ∷ words))

-- a cut word is joined again
pub cut_joined : (separator : ℕ) (letters front : List ℕ) (behind : Option (List ℕ)) (words : List (List ℕ))
    → IsCut separator letters front behind → behind ≡ joined_some separator words → letters ≡ joined separator (front ∷ words)
cut_joined separator letters front None [] cut e = cut.joined
cut_joined separator letters front None (word ∷ words) cut e = cc
cut_joined separator letters front (Some rest) [] cut e = cc
cut_joined separator letters front (Some rest) (word ∷ words) cut e =
    cut.joined ∙ ap (λ more. front ++ separator ∷ more) (same_Some rest (joined separator (word ∷ words)) e)

-- a joined word is cut behind its first word
pub joined_cut : (separator : ℕ) (letters front : List ℕ) (behind : Option (List ℕ)) (word : List ℕ) (words : List (List ℕ))
    → IsCut separator letters front behind → Lacks separator word → letters ≡ joined separator (word ∷ words)
    → (front ≡ word) × (behind ≡ joined_some separator words)
joined_cut separator letters front None word [] cut lacks e = (sym cut.joined ∙ e, refl)
joined_cut separator letters front None word (next ∷ words) cut lacks e =
    absurd (no_cut separator word (joined separator (next ∷ words)) (subst (Lacks separator) (sym cut.joined ∙ e) cut.first))
joined_cut separator letters front (Some rest) word [] cut lacks e =
    absurd (no_cut separator front rest (subst (Lacks separator) (sym e ∙ cut.joined) lacks))
joined_cut separator letters front (Some rest) word (next ∷ words) cut lacks e =
    let same = cut_unique separator front word rest (joined separator (next ∷ words)) cut.first lacks (sym cut.joined ∙ e) in
    (same.0, ap (λ more. Some more) same.1)

-- raised letters are from the offset on, and below the count from there
pub raised_Lacks : (offset count separator : ℕ) (list : List ℕ) → list_all (λ a. nat_lt a count) list ≡ true → offset + count ≤ separator
    → Lacks separator (raised offset list)
raised_Lacks offset count separator [] h limit = tt
raised_Lacks offset count separator (a ∷ list) h limit =
    let parts = and_parts (nat_lt a count) (list_all (λ x. nat_lt x count) list) h in
    let below : a < count = ltb-true a count parts.0 in
    (λ same. omega arith, raised_Lacks offset count separator list parts.1 limit)

-- lists that are raised to the same are the same
pub raised_same : (offset : ℕ) (a b : List ℕ) → raised offset a ≡ raised offset b → a ≡ b
raised_same offset [] [] e = refl
raised_same offset [] (y ∷ b) e = cc
raised_same offset (x ∷ a) [] e = cc
raised_same offset (x ∷ a) (y ∷ b) e =
    let heads : x + offset ≡ y + offset = cc in
    let tails : raised offset a ≡ raised offset b = cc in
    let same : x ≡ y = omega arith in
    cc (same, raised_same offset a b tails)

-- the letter that stands anywhere in a raised list
pub raised_at : (offset count : ℕ) (list u v : List ℕ) (x : ℕ) → list_all (λ a. nat_lt a count) list ≡ true → u ++ x ∷ v ≡ raised offset list
    → (offset ≤ x) × (x < offset + count)
raised_at offset count [] [] v x h e = absurd cc
raised_at offset count [] (y ∷ u) v x h e = absurd cc
raised_at offset count (a ∷ list) [] v x h e =
    let below : a < count = ltb-true a count (and_parts (nat_lt a count) (list_all (λ y. nat_lt y count) list) h).0 in
    let is : x ≡ a + offset = cc in
    (omega arith, omega arith)
raised_at offset count (a ∷ list) (y ∷ u) v x h e =
    let tails : u ++ x ∷ v ≡ raised offset list = cc in
    raised_at offset count list u v x (and_parts (nat_lt a count) (list_all (λ y. nat_lt y count) list) h).1 tails

-- the letters of a fitting list are the section's
pub fitting_letters : (section : Section) (list : List ℕ) → list_fits section list ≡ true → list_all (λ a. nat_lt a (letter_count section)) list ≡ true
fitting_letters section list h =
    (and_parts (list_all (λ a. nat_lt a (letter_count section)) list) _ h).0

-- and they can be raised
pub fitting_below : (section : Section) (list : List ℕ) (offset limit : ℕ) → list_fits section list ≡ true → offset + letter_count section ≤ limit
    → All (λ a. a + offset < limit) list
fitting_below section list offset limit h fits = λ k d within.
    let below : get_or list k d < letter_count section =
    ltb-true (get_or list k d) (letter_count section)
    (AllPass-from_list_all (λ a. nat_lt a (letter_count section)) list (fitting_letters section list h) k d within) in
    omega arith
