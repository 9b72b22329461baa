-- What `clap` answers for a form, and the matches that it gives, against what the words bind.
use Rattle.std.proofs.Common.{◌≡◌, ◌∙◌, ◌||◌, ℕ, Bool, true, false, true≢false, List, [], ◌∷◌, ◌++◌, map, drop, Option, Some, None, codes, string_bytes, refl, sym, ap, ap₂, subst, cond, is_some, option_map, String, arith, append-nil, append_assoc, if◌then◌else◌}
use Rattle.std.specs.Char.{encode_utf8}
use Rattle.std.specs.List.{AllByRecursion, list_any}
use Rattle.std.specs.Prelude.{find, fold, slice_get, option_and_then}
use Rattle.std.specs.Str.{IsUtf8, bytes_eq, chars, encode_utf8_all}
use Rattle.std.proofs.lemmas.Slice.Eq.{bytes_eq-Decides}
use Rattle.std.proofs.lemmas.Str.{IsUtf8-string_bytes, IsUtf8-from_ascii, IsUtf8-past_char, encodes-chars}
use Rattle.clap.specs.Faults.{check_fault, defaults_fault, fault_of, level_fault, settle_fault, walk_fault, built_fault, is_simple_and_free}
use Rattle.clap.specs.Kinds.{Kinds, check_kinds, or_else}
use Rattle.clap.specs.Simple.{App, built, matches_of, names_of}
use Rattle.clap.specs.Walk.{Row, Text, finished, first_of, has_row, more_values, nothing_held, settled, walk, walk_from, with_default, reading_by}
use Rattle.clap.specs.declared.parser.matches.ValueSource.TheVariants.{DefaultValue}
use Rattle.clap.proofs.FaultLemmas.{leaf_fault}
use Rattle.command_words.specs.Parsing.{Fails, parser_of}
use Rattle.command_words.specs.Words.{Binding, CommandForm, bindings, bindings_of, bound_once, form_named, forms, is_among, is_flag, is_once, value_of}
use Rattle.command_words.proofs.FormRules.{AreUnbound, built_flag, built_rules, defaults_of_positionals, defaults_of_valued, form_rules, form_shape, no_default_fault, none_required}
use Rattle.command_words.proofs.FormWalk.{Adds, AllHaveHeads, HasHead, Judged, accepted, rejected, at_row_missing, judges, faults, rows_after}

-- ---- the first characters of words

has_byte : Text → Bool
has_byte [] = false
has_byte (x ∷ xs) = true

no_bytes : encode_utf8_all [] ≡ []
unfolding chars
no_bytes = encodes-chars [] (IsUtf8-from_ascii [] (λ i. omega arith))

no_chars : (b : ℕ) (rest : Text) → IsUtf8 (b ∷ rest) → chars (b ∷ rest) ≡ [] → ⊥
unfolding has_byte
no_chars b rest u none =
    let empty : [] ≡ b ∷ rest = sym no_bytes ∙ ap encode_utf8_all (sym none) ∙ encodes-chars (b ∷ rest) u in
    true≢false (ap has_byte (sym empty))

has_head : (word : Text) → IsUtf8 word → HasHead word
unfolding encode_utf8
has_head word u b rest e = go (chars (b ∷ rest)) refl
  where
    go : (cs : List ℕ) → chars (b ∷ rest) ≡ cs → (x : ℕ) × (slice_get (chars (b ∷ rest)) 0 ≡ Some x)
    go [] is = absurd (no_chars b rest (IsUtf8-past_char word (b ∷ rest) 45 u e) is)
    go (x ∷ xs) is = (x, ap (λ cs. slice_get cs 0) is)

all_have_heads : {Z : Type 0} (words : List (String Z)) → AllHaveHeads (map string_bytes words)
all_have_heads [] = tt
all_have_heads (word ∷ words) = (has_head (string_bytes word) (IsUtf8-string_bytes word), all_have_heads words)

pub later_have_heads : {Z : Type 0} (words : List (String Z)) → AllHaveHeads (drop 1 (map string_bytes words))
later_have_heads [] = tt
later_have_heads (word ∷ words) = all_have_heads words

-- ---- the fault of a whole parse

or_else_nil : (a : Kinds) → or_else a [] ≡ a
or_else_nil [] = refl
or_else_nil (k ∷ a) = refl

level_is : (form : CommandForm) (words : List Text)
    → level_fault (form_shape form) [] nothing_held words false [] ≡ faults form (walk_from nothing_held) words
level_is form words =
    let s = form_shape form in
    let w = walk_fault s [] (walk_from nothing_held) words in
    let end = (walk s.rules [] nothing_held words).held in
    let rest : or_else (defaults_fault (settled s.rules end).rows s.rules) (check_fault s (finished s.rules end) false) ≡ [] =
    ap₂ or_else (no_default_fault (settled s.rules end).rows form.valued form.flags 1 form.positionals)
    (ap (check_kinds false false) (none_required (finished s.rules end) form.valued form.flags 1 form.positionals)) in
    ap (λ k. or_else w (or_else (settle_fault s.rules false end) k)) rest ∙ ap (or_else w) (or_else_nil (settle_fault s.rules false end))

abbrev form_app : CommandForm → App
form_app form = record { top = form_shape form; subs = [] }

fault_is : (form : CommandForm) (words : List Text) → built (parser_of form) ≡ form_app form
    → fault_of (parser_of form) words ≡ faults form (walk_from nothing_held) (drop 1 words)
fault_is form words is =
    ap (λ a. built_fault a nothing_held (drop 1 words)) is ∙ leaf_fault (form_app form) nothing_held (drop 1 words) refl ∙ level_is form (drop 1 words)

-- ---- the values in the matches

-- what an option without a value gives where the words do not bind it
abbrev pub first_or_default : CommandForm → List ℕ → Option (List ℕ) → Option (List ℕ)
first_or_default form name (Some value) = Some value
first_or_default form name None = if is_among name form.flags then Some (codes "false") else None

-- each name has the value that the words bind it to
abbrev pub HasBindings : CommandForm → List Binding → List Row → Type 0
HasBindings form bound rows = (name : List ℕ) → first_of name rows ≡ first_or_default form name (value_of name bound)

abbrev Pairs : List Row → List Binding → Type 0
Pairs [] [] = Unit {0}
Pairs [] (b ∷ bs) = ⊥
Pairs (r ∷ rs) [] = ⊥
Pairs (r ∷ rs) (b ∷ bs) = (r.id ≡ b.name) × (r.values ≡ b.value ∷ []) × Pairs rs bs

paired : (rows : List Row) (bs : List Binding) (end : List Row) → Adds rows bs end → (rs : List Row) × (end ≡ rows ++ rs) × Pairs rs bs
paired rows [] end e = ([], e ∙ sym (append-nil rows), tt)
paired rows (b ∷ bs) end e =
    let later = paired (rows ++ e.0 ∷ []) bs end e.3 in
    (e.0 ∷ later.0, later.1 ∙ append_assoc rows (e.0 ∷ []) later.0, (e.1, e.2, later.2))

-- the first value, or else this
abbrev or_first : Option Text → Option Text → Option Text
or_first (Some v) o = Some v
or_first None o = o

first_then : (n : Text) (more : List Row) (rs : List Row) (bs : List Binding) → Pairs rs bs → first_of n (rs ++ more) ≡ or_first (value_of n bs) (first_of n more)
first_then n more [] [] pairs = refl
first_then n more [] (b ∷ bs) pairs = absurd pairs
first_then n more (r ∷ rs) [] pairs = absurd pairs
first_then n more (r ∷ rs) (b ∷ bs) pairs =
    ap (λ x. option_and_then (λ (q : Row). slice_get q.values 0) (cond (bytes_eq x n) (Some r) (find (λ (q : Row). bytes_eq q.id n) (rs ++ more)))) pairs.0
    ∙ go (bytes_eq b.name n) (first_then n more rs bs pairs.2)
  where
    go : (x : Bool) → first_of n (rs ++ more) ≡ or_first (value_of n bs) (first_of n more)
        → option_and_then (λ (q : Row). slice_get q.values 0) (cond x (Some r) (find (λ (q : Row). bytes_eq q.id n) (rs ++ more)))
        ≡ or_first (option_map (λ (q : Binding). q.value) (cond x (Some b) (find (λ (q : Binding). bytes_eq q.name n) bs))) (first_of n more)
    go true later = ap (λ vs. slice_get vs 0) pairs.1
    go false later = later

has_value : (n : Text) (rs : List Row) (bs : List Binding) → Pairs rs bs → has_row n rs ≡ is_some (value_of n bs)
has_value n [] [] pairs = refl
has_value n [] (b ∷ bs) pairs = absurd pairs
has_value n (r ∷ rs) [] pairs = absurd pairs
has_value n (r ∷ rs) (b ∷ bs) pairs = ap (λ x. bytes_eq x n || has_row n rs) pairs.0 ∙ go (bytes_eq b.name n) (has_value n rs bs pairs.2)
  where
    go : (x : Bool) → has_row n rs ≡ is_some (value_of n bs)
        → (x || has_row n rs) ≡ is_some (option_map (λ (q : Binding). q.value) (cond x (Some b) (find (λ (q : Binding). bytes_eq q.name n) bs)))
    go true later = refl
    go false later = later

or_first_none : (o : Option Text) → or_first o None ≡ o
or_first_none None = refl
or_first_none (Some v) = refl

pub data FlagsOf (form : CommandForm) : Type 0 where
  no_flag : form.flags ≡ [] → FlagsOf form
  one_flag : (f : Text) → form.flags ≡ f ∷ [] → FlagsOf form

-- without a flag nothing is added to the rows
no_flag_rows : (form : CommandForm) (rows : List Row) → form.flags ≡ [] → fold with_default rows (form_rules form) ≡ rows
no_flag_rows form rows none =
    defaults_of_valued rows form.valued form.flags 1 form.positionals
    ∙ ap (λ fs. fold with_default rows (built_rules [] fs 1 form.positionals)) none ∙ defaults_of_positionals rows 1 form.positionals

one_flag_rows : (form : CommandForm) (rows : List Row) (f : Text) → form.flags ≡ f ∷ [] → fold with_default rows (form_rules form) ≡ with_default rows (built_flag f)
one_flag_rows form rows f one =
    defaults_of_valued rows form.valued form.flags 1 form.positionals
    ∙ ap (λ fs. fold with_default rows (built_rules [] fs 1 form.positionals)) one ∙ defaults_of_positionals (with_default rows (built_flag f)) 1 form.positionals

default_row : Text → Row
default_row f = record { id = f; values = codes "false" ∷ []; count = None; source = Some DefaultValue; reading = reading_by (built_flag f) }

or_default : (form : CommandForm) (n : Text) (o : Option Text) → form.flags ≡ [] → o ≡ first_or_default form n o
or_default form n (Some v) none = refl
or_default form n None none = sym (ap (λ fs. cond (is_among n fs) (Some (codes "false")) None) none)

with_flag_given : (form : CommandForm) (n f : Text) (rs : List Row) (bs : List Binding) (o : Option Text) → value_of n bs ≡ o → form.flags ≡ f ∷ [] → Pairs rs bs
    → has_row f rs ≡ true → o ≡ first_or_default form n o
with_flag_given form n f rs bs (Some v) e one pairs has = refl
with_flag_given form n f rs bs None e one pairs has = sym (ap (λ fs. cond (is_among n fs) (Some (codes "false")) None) one ∙ go (bytes_eq f n) refl)
  where
    go : (b : Bool) → bytes_eq f n ≡ b → cond (b || false) (Some (codes "false")) None ≡ None
    go false is = refl
    go true is =
        let same : f ≡ n = (bytes_eq-Decides f n).0 is in
        let no_row : has_row n rs ≡ false = has_value n rs bs pairs ∙ ap is_some e in
        absurd (true≢false (sym has ∙ ap (λ x. has_row x rs) same ∙ no_row))

with_flag_default : (form : CommandForm) (n f : Text) (o : Option Text) → form.flags ≡ f ∷ []
    → or_first o (first_of n (default_row f ∷ [])) ≡ first_or_default form n o
unfolding default_row
with_flag_default form n f (Some v) one = refl
with_flag_default form n f None one = go (bytes_eq f n) ∙ sym (ap (λ fs. cond (is_among n fs) (Some (codes "false")) None) one)
  where
    go : (b : Bool) → option_and_then (λ (q : Row). slice_get q.values 0) (cond b (Some (default_row f)) None) ≡ cond (b || false) (Some (codes "false")) None
    go true = refl
    go false = refl

default_added : (rows : List Row) (f : Text) → has_row f rows ≡ false → with_default rows (built_flag f) ≡ rows ++ default_row f ∷ []
unfolding default_row
default_added rows f none = rw none (at_row_missing f (more_values DefaultValue (codes "false" ∷ [])) _ rows none)

values_in : (form : CommandForm) (rs : List Row) (bs : List Binding) → FlagsOf form → Pairs rs bs → HasBindings form bs (fold with_default rs (form_rules form))
values_in form rs bs (no_flag none) pairs n =
    ap (first_of n) (no_flag_rows form rs none ∙ sym (append-nil rs)) ∙ first_then n [] rs bs pairs ∙ or_first_none (value_of n bs) ∙ or_default form n (value_of n bs) none
values_in form rs bs (one_flag f one) pairs n = ap (first_of n) (one_flag_rows form rs f one) ∙ go (has_row f rs) refl
  where
    go : (b : Bool) → has_row f rs ≡ b → first_of n (with_default rs (built_flag f)) ≡ first_or_default form n (value_of n bs)
    go true has =
        rw has (ap (first_of n) (sym (append-nil rs)) ∙ first_then n [] rs bs pairs ∙ or_first_none (value_of n bs)
        ∙ with_flag_given form n f rs bs (value_of n bs) refl one pairs has)
    go false has =
        ap (first_of n) (default_added rs f has) ∙ first_then n (default_row f ∷ []) rs bs pairs ∙ with_flag_default form n f (value_of n bs) one

-- ---- the whole

-- what is known of a form
pub record IsFormed (form : CommandForm) : Type 0 where
  pub built_is : built (parser_of form) ≡ form_app form
  pub is_simple : is_simple_and_free (parser_of form) ≡ true
  pub places : AreUnbound (form_rules form) 1 form.positionals
  pub flags_are : FlagsOf form

abbrev judged : (form : CommandForm) (words : List Text) → IsFormed form → AllHaveHeads words
    → Judged [] (bindings_of form form.positionals None words) (faults form (walk_from nothing_held) words) [] (rows_after form (walk_from nothing_held) words)
judged form words formed heads = judges form words None nothing_held 1 form.positionals [] [] heads (refl, refl, refl) (λ name. refl) formed.places

-- the words are refused: they bind nothing
pub refused_is : (form : CommandForm) (words : List Text) → IsFormed form → AllHaveHeads (drop 1 words) → Fails (fault_of (parser_of form) words)
    → bindings form (drop 1 words) ≡ None
refused_is form words formed heads fails =
    go _ (judged form (drop 1 words) formed heads) (subst Fails (fault_is form words formed.built_is) fails)
  where
    once : (o : Option (List Binding)) → ((bs : List Binding) → o ≡ Some bs → is_once [] bs ≡ false) → bound_once o ≡ None
    once None never = refl
    once (Some bs) never = rw (never bs refl) refl

    go : (f : Kinds) → Judged [] (bindings_of form form.positionals None (drop 1 words)) f [] (rows_after form (walk_from nothing_held) (drop 1 words)) → Fails f
        → bindings form (drop 1 words) ≡ None
    go f (accepted bs e is_one none adds) fails = absurd (subst Fails none fails)
    go f (rejected never also) fails = once (bindings_of form form.positionals None (drop 1 words)) never

-- the words are taken: the matches have what they bind
pub taken_is : (form : CommandForm) (words : List Text) → IsFormed form → AllHaveHeads (drop 1 words) → fault_of (parser_of form) words ≡ []
    → (bs : List Binding) × (bindings form (drop 1 words) ≡ Some bs) × HasBindings form bs (matches_of (parser_of form) words)
taken_is form words formed heads none =
    go _ _ (judged form (drop 1 words) formed heads) (sym (fault_is form words formed.built_is) ∙ none) refl
  where
    matches_are : matches_of (parser_of form) words ≡ fold with_default (rows_after form (walk_from nothing_held) (drop 1 words)) (form_rules form)
    matches_are = ap (λ (a : App). finished a.top.rules (walk a.top.rules (names_of a) nothing_held (drop 1 words)).held) formed.built_is

    go : (f : Kinds) (end : List Row) → Judged [] (bindings_of form form.positionals None (drop 1 words)) f [] end → f ≡ []
        → rows_after form (walk_from nothing_held) (drop 1 words) ≡ end
        → (bs : List Binding) × (bindings form (drop 1 words) ≡ Some bs) × HasBindings form bs (matches_of (parser_of form) words)
    go f end (rejected never fails) none is = absurd (subst Fails none fails)
    go f end (accepted bs e is_one also adds) none is =
        let pairs = paired [] bs end adds in (
          bs,
          ap bound_once e ∙ rw is_one refl,
          subst (HasBindings form bs) (sym (matches_are ∙ ap (λ rows. fold with_default rows (form_rules form)) (is ∙ pairs.1)))
              (values_in form pairs.0 bs formed.flags_are pairs.2),
        )

-- ---- the forms of the commands

also : {A B : Type 0} → A → B → A × B
also here later = (here, later)

all_formed : AllByRecursion IsFormed forms
all_formed =
    also (record { built_is = refl; is_simple = refl; places = (refl, refl, refl); flags_are = one_flag (codes "report") refl })
    (also (record { built_is = refl; is_simple = refl; places = (refl, refl, (refl, refl, refl)); flags_are = no_flag refl })
    (also (record { built_is = refl; is_simple = refl; places = (refl, refl, refl); flags_are = no_flag refl })
    (also (record { built_is = refl; is_simple = refl; places = (refl, refl, (refl, refl, refl)); flags_are = no_flag refl })
    (also (record { built_is = refl; is_simple = refl; places = (refl, refl, refl); flags_are = no_flag refl })
    (also (record { built_is = refl; is_simple = refl; places = (refl, refl, (refl, refl, refl)); flags_are = no_flag refl })
    (also (record { built_is = refl; is_simple = refl; places = (refl, refl, refl); flags_are = no_flag refl })
    (also (record { built_is = refl; is_simple = refl; places = (refl, refl, refl); flags_are = no_flag refl })
    (also (record { built_is = refl; is_simple = refl; places = (refl, refl, refl); flags_are = no_flag refl })
    (also (record { built_is = refl; is_simple = refl; places = (refl, refl, (refl, refl, refl)); flags_are = no_flag refl }) tt)))))))))

-- what holds of all holds of one that is found
found_has : {T : Type 0} (P : T → Type 0) (p : T → Bool) (xs : List T) (x : T) → AllByRecursion P xs → find p xs ≡ Some x → P x
found_has P p [] x all is = cc is
found_has {T} P p (y ∷ ys) x all is = go (p y) is (found_has P p ys x all.1)
  where
    go : (b : Bool) → cond b (Some y) (find p ys) ≡ Some x → (find p ys ≡ Some x → P x) → P x
    go true same later = subst P (cc same) all.0
    go false found later = later found

-- what none has the one that is found has not
found_has_not : {T : Type 0} (f p : T → Bool) (xs : List T) (x : T) → list_any f xs ≡ false → find p xs ≡ Some x → f x ≡ false
found_has_not f p [] x none is = cc is
found_has_not {T} f p (y ∷ ys) x none is = go (f y) refl none (p y) is (λ rest. found_has_not f p ys x rest)
  where
    go : (a : Bool) → f y ≡ a → (a || list_any f ys) ≡ false → (b : Bool) → cond b (Some y) (find p ys) ≡ Some x
        → (list_any f ys ≡ false → find p ys ≡ Some x → f x ≡ false) → f x ≡ false
    go true has never b found later = absurd (true≢false never)
    go false has rest true same later = ap f (sym (cc same)) ∙ has
    go false has rest false found later = later rest found

pub formed : (word : List ℕ) (form : CommandForm) → form_named word ≡ Some form → IsFormed form
formed word form is = found_has IsFormed (λ f. bytes_eq f.word word) forms form all_formed is

pub own_flag : (word : List ℕ) (form : CommandForm) (name : List ℕ) → form_named word ≡ Some form → is_flag name ≡ false
    → is_among name form.flags ≡ false
own_flag word form name is none = found_has_not (λ f. is_among name f.flags) (λ f. bytes_eq f.word word) forms form none is
