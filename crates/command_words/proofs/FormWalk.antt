-- The walk of `clap` over the words of a form comes to what the words bind.
use Rattle.std.proofs.Common.{◌≡◌, ◌∙◌, ◌+◌, ◌||◌, ◌&&◌, ◌==◌, ℕ, Bool, true, false, true≢false, not, List, [], ◌∷◌, ◌++◌, length, Option, Some, None, codes, refl, sym, ap, ap₂, subst, if◌then◌else◌, cond, min, zero, suc, arith, is_none, is_some, append-nil, unwrap_or}
use Rattle.std.specs.Option.{option_map_or}
use Rattle.std.specs.Prelude.{fold, slice_get}
use Rattle.std.specs.Str.{bytes_eq, chars}
use Rattle.std.proofs.lemmas.Slice.Eq.{bytes_eq-Decides}
use Rattle.std.proofs.lemmas.Bool.{eqb-true, or_parts}
use Rattle.clap.specs.Lexer.{long_of, short_of, usize_max}
use Rattle.clap.specs.Walk.{Held, Row, Rule, Text, Waiting, Walk, arg_by_id, arg_by_index, arg_by_long, at_row, done, has_row, idle, is_pending, long_met, more_values, option, pushed, reacted, reading_by, settled, settled_rows, subcommand_met, takes_values, to_positional, used_by_id, used, walked}
use Rattle.clap.specs.Walk.{value as positional_step, positional as several}
use Rattle.clap.specs.Simple.{Shape}
use Rattle.clap.specs.Kinds.{Kinds, or_else}
use Rattle.clap.specs.Faults.{bundle_fault, flags_fault, long_fault, option_fault, positional_fault, react_fault, settle_fault, step_fault, stray_fault, turn_fault, use_fault, walk_fault, word_fault}
use Rattle.clap.specs.declared.error.kind.ErrorKind.TheVariants.{ArgumentConflict, TooManyValues}
use Rattle.clap.specs.declared.parser.matches.ValueSource.TheVariants.{CommandLine}
use Rattle.command_words.specs.Parsing.{Fails}
use Rattle.command_words.specs.Words.{Binding, CommandForm, Kind, ends, long, short, plain, bindings_of, bindings_of_long, bindings_of_positionals, bindings_of_word, is_among, is_once, kind_of, then_bound}
use Rattle.command_words.proofs.FormRules.{AreUnbound, built_flag, built_positional, built_valued, by_id, by_long, by_short, form_rules, form_shape, option_rule, text_rule}

-- ---- faults

pub fails_left : (a b : Kinds) → Fails a → Fails (or_else a b)
fails_left [] b f = absurd f
fails_left (k ∷ a) b f = tt

-- ---- words

abbrev pub Lexed : Kind → Text → Type 0
Lexed ends word = bytes_eq word (45 ∷ 45 ∷ []) ≡ true
Lexed (long n v) word = (bytes_eq word (45 ∷ 45 ∷ []) ≡ false) × (long_of word ≡ Some (n, v))
Lexed short word = (bytes_eq word (45 ∷ 45 ∷ []) ≡ false) × (long_of word ≡ None)
    × ((b : ℕ) × (rest : Text) × (word ≡ 45 ∷ b ∷ rest) × (short_of word ≡ Some (b ∷ rest)))
Lexed plain word = (bytes_eq word (45 ∷ 45 ∷ []) ≡ false) × (long_of word ≡ None) × (short_of word ≡ None)

lexed_one : (a : ℕ) → Lexed plain (a ∷ [])
lexed_one a = go (a == 45) refl
  where
    go : (x : Bool) → (a == 45) ≡ x → Lexed plain (a ∷ [])
    go true e = rw e (refl, refl, refl)
    go false e = rw e (refl, refl, refl)

lexed_more : (a b : ℕ) (rest : Text) (x y : Bool) → (a == 45) ≡ x → (b == 45) ≡ y → (x ≡ true → a ≡ 45) → Lexed (kind_of (a ∷ (b ∷ rest))) (a ∷ (b ∷ rest))
lexed_more a b [] true true ea eb is = rw (ea, eb) (rw (ea, eb) refl)
lexed_more a b (k ∷ rest) true true ea eb is = rw (ea, eb) (rw (ea, eb) refl, rw (ea, eb) refl)
lexed_more a b rest true false ea eb is = rw (ea, eb) (rw (ea, eb) refl, rw (ea, eb) refl, (b, rest, ap (λ n. n ∷ b ∷ rest) (is refl), rw (ea, eb) refl))
lexed_more a b rest false y ea eb is = rw ea (rw ea refl, rw ea refl, rw ea refl)

pub lexed : (word : Text) → Lexed (kind_of word) word
lexed [] = (refl, refl, refl)
lexed (a ∷ []) = lexed_one a
lexed (a ∷ (b ∷ rest)) = lexed_more a b rest (a == 45) (b == 45) refl refl (eqb-true a 45)

-- the first character of a short option is there
abbrev pub HasHead : Text → Type 0
HasHead word = (b : ℕ) (rest : Text) → word ≡ 45 ∷ b ∷ rest → (x : ℕ) × (slice_get (chars (b ∷ rest)) 0 ≡ Some x)

abbrev pub AllHaveHeads : List Text → Type 0
AllHaveHeads [] = Unit {0}
AllHaveHeads (word ∷ words) = HasHead word × AllHaveHeads words

no_subcommand : (waiting : Waiting) (word : Text) → subcommand_met [] waiting word ≡ None
no_subcommand idle word = refl
no_subcommand (option n) word = refl
no_subcommand several word = refl

-- ---- rows

at_row_other : (id : Text) (change : Row → List Row) (missing : List Row) (r : Row) (rs : List Row) (b : Bool) → b ≡ false
    → at_row id change missing rs ≡ rs ++ missing → (if b then change r ++ rs else r ∷ at_row id change missing rs) ≡ r ∷ rs ++ missing
at_row_other id change missing r rs true h later = absurd (true≢false h)
at_row_other id change missing r rs false h later = ap (λ rest. r ∷ rest) later

pub at_row_missing : (id : Text) (change : Row → List Row) (missing rows : List Row) → has_row id rows ≡ false → at_row id change missing rows ≡ rows ++ missing
at_row_missing id change missing [] none = refl
at_row_missing id change missing (r ∷ rs) none =
    let parts = or_parts (bytes_eq r.id id) (has_row id rs) none in
    at_row_other id change missing r rs (bytes_eq r.id id) parts.0 (at_row_missing id change missing rs parts.1)

at_row_twice : (id : Text) (change : Row → List Row) (missing rows : List Row) → has_row id rows ≡ false
    → at_row id change missing (at_row id (λ _. []) [] rows) ≡ rows ++ missing
at_row_twice id change missing rows none =
    ap (at_row id change missing) (at_row_missing id (λ _. []) [] rows none ∙ append-nil rows) ∙ at_row_missing id change missing rows none

-- the row of an argument with one value
abbrev row_of_rule : Rule → Text → Row
row_of_rule a v = record { id = a.id; values = v ∷ []; count = None; source = Some CommandLine; reading = reading_by a }

abbrev again : Bool → Kinds
again b = if b then ArgumentConflict ∷ [] else []

text_use : (l : Option Text) (i : Option ℕ) (n word : Text) (rows : List Row) (b : Bool) → has_row n rows ≡ b
    → use_fault false (text_rule l i n) (word ∷ []) rows ≡ again b
text_use l i n word rows true e = rw e refl
text_use l i n word rows false e = rw e refl

text_used : (l : Option Text) (i : Option ℕ) (n word : Text) (rows : List Row) → has_row n rows ≡ false
    → used (text_rule l i n) (word ∷ []) rows ≡ rows ++ row_of_rule (text_rule l i n) word ∷ []
text_used l i n word rows none = at_row_twice n (more_values CommandLine (word ∷ [])) _ rows none

flag_use : (n : Text) (rows : List Row) (b : Bool) → has_row n rows ≡ b → use_fault false (built_flag n) [] rows ≡ again b
flag_use n rows true e = rw e refl
flag_use n rows false e = rw e refl

flag_used : (n : Text) (rows : List Row) → has_row n rows ≡ false
    → used (built_flag n) [] rows ≡ rows ++ row_of_rule (built_flag n) (codes "true") ∷ []
flag_used n rows none = at_row_twice n (more_values CommandLine (codes "true" ∷ [])) _ rows none

-- ---- what is judged

-- the rows at the end are these rows with one for each binding
abbrev pub Adds : List Row → List Binding → List Row → Type 0
Adds rows [] end = end ≡ rows
Adds rows (b ∷ bs) end = (r : Row) × (r.id ≡ b.name) × (r.values ≡ b.value ∷ []) × Adds (rows ++ r ∷ []) bs end

-- the words are refused by both, or both give the same
pub data Judged (bound : List Text) (o : Option (List Binding)) (faults : Kinds) (rows end : List Row) : Type 0 where
  accepted : (bs : List Binding) → o ≡ Some bs → is_once bound bs ≡ true → faults ≡ [] → Adds rows bs end → Judged bound o faults rows end
  rejected : ((bs : List Binding) → o ≡ Some bs → is_once bound bs ≡ false) → Fails faults → Judged bound o faults rows end

-- the rows so far are those of the names that are bound
abbrev pub Holds : List Text → List Row → Type 0
Holds bound rows = (name : Text) → has_row name rows ≡ is_among name bound

not_false : (b x : Bool) → b ≡ false → x ≡ true → (not b && x) ≡ true
not_false true x h t = absurd (true≢false h)
not_false false x h t = t

not_true : (b x : Bool) → b ≡ true → (not b && x) ≡ false
not_true true x h = refl
not_true false x h = absurd (true≢false (sym h))

and_false : (a x : Bool) → x ≡ false → (a && x) ≡ false
and_false true x h = h
and_false false x h = refl

none_some : {X : Type 0} {Y : Type 0} (x : X) → None ≡ Some x → Y
none_some x e = absurd (true≢false (ap is_none e))

some_inside : {X : Type 0} (a b : X) → Some a ≡ Some b → a ≡ b
some_inside a b e = ap (λ o. unwrap_or o a) e

one_more : (bound : List Text) (o : Option (List Binding)) (faults : Kinds) (rows end : List Row) (name value : Text) (r : Row)
    → r.id ≡ name → r.values ≡ value ∷ [] → is_among name bound ≡ false → Judged (name ∷ bound) o faults (rows ++ r ∷ []) end
    → Judged bound (then_bound name value o) faults rows end
one_more bound o faults rows end name value r id values new (accepted bs e once none adds) =
    accepted (record { name = name; value = value } ∷ bs) (ap (then_bound name value) e) (not_false (is_among name bound) _ new once) none (r, id, values, adds)
one_more bound o faults rows end name value r id values new (rejected never fails) = rejected (λ bs e. go o never bs e) fails
  where
    go : (o : Option (List Binding)) → ((bs : List Binding) → o ≡ Some bs → is_once (name ∷ bound) bs ≡ false) → (bs : List Binding)
        → then_bound name value o ≡ Some bs → is_once bound bs ≡ false
    go None never bs e = none_some _ e
    go (Some rest) never bs e = subst (λ x. is_once bound x ≡ false) (some_inside _ _ e) (and_false (not (is_among name bound)) _ (never rest refl))

twice : (bound : List Text) (o : Option (List Binding)) (name value : Text) → is_among name bound ≡ true → (bs : List Binding)
    → then_bound name value o ≡ Some bs → is_once bound bs ≡ false
twice bound None name value old bs e = none_some _ e
twice bound (Some rest) name value old bs e = subst (λ x. is_once bound x ≡ false) (some_inside _ _ e) (not_true (is_among name bound) _ old)

nothing : (bound : List Text) (bs : List Binding) → None ≡ Some bs → is_once bound bs ≡ false
nothing bound bs e = none_some _ e

has_row-append : (name : Text) (rows : List Row) (r : Row) → has_row name (rows ++ r ∷ []) ≡ (bytes_eq r.id name || has_row name rows)
has_row-append name [] r = refl
has_row-append name (x ∷ rows) r = ap (λ b. bytes_eq x.id name || b) (has_row-append name rows r) ∙ swap (bytes_eq x.id name) (bytes_eq r.id name) (has_row name rows)
  where
    swap : (a b c : Bool) → (a || (b || c)) ≡ (b || (a || c))
    swap true true c = refl
    swap true false c = refl
    swap false b c = refl

holds_more : (bound : List Text) (rows : List Row) (r : Row) (n : Text) → r.id ≡ n → Holds bound rows → Holds (n ∷ bound) (rows ++ r ∷ [])
holds_more bound rows r n id holds name =
    has_row-append name rows r ∙ ap₂ (λ x b. bytes_eq x name || b) id (holds name)

module _ (form : CommandForm) where
  abbrev c : List Rule
  c = form_rules form

  abbrev s : Shape
  s = form_shape form

  abbrev pub at : Held → Waiting → ℕ → Bool → Walk
  at h waiting p trailing = record { held = h; waiting = waiting; position = p; is_trailing = trailing; stopped = None }

  abbrev after : Walk → List Text → Held
  after w words = (fold (walked c []) w words).held

  abbrev pub faults : Walk → List Text → Kinds
  faults w words = or_else (walk_fault s [] w words) (settle_fault c false (after w words))

  abbrev pub rows_after : Walk → List Text → List Row
  rows_after w words = settled_rows c (after w words).pending (after w words).rows

  goes_on : (w next : Walk) (word : Text) (words : List Text) → turn_fault s [] w word ≡ [] → walked c [] w word ≡ next
      → faults w (word ∷ words) ≡ faults next words
  unfolding walk_fault
  goes_on w next word words none is =
      ap (λ k. or_else (or_else k (walk_fault s [] (walked c [] w word) words)) (settle_fault c false (after (walked c [] w word) words))) none
      ∙ ap (λ x. faults x words) is

  stepped : (bound : List Text) (o : Option (List Binding)) (rows : List Row) (w next : Walk) (word : Text) (words : List Text)
      → turn_fault s [] w word ≡ [] → walked c [] w word ≡ next → Judged bound o (faults next words) rows (rows_after next words)
      → Judged bound o (faults w (word ∷ words)) rows (rows_after w (word ∷ words))
  stepped bound o rows w next word words none is judged =
      subst (λ k. Judged bound o k rows (rows_after w (word ∷ words))) (sym (goes_on w next word words none is))
      (subst (λ end. Judged bound o (faults next words) rows end) (sym (ap (λ x. rows_after x words) is)) judged)

  stops : (w : Walk) (word : Text) (words : List Text) → Fails (turn_fault s [] w word) → Fails (faults w (word ∷ words))
  unfolding walk_fault
  stops w word words fails = fails_left _ _ (fails_left _ _ fails)

  -- ---- single turns

  no_wait : (b : Bool) (kinds : Kinds) → cond (b && false) [] kinds ≡ kinds
  no_wait true kinds = refl
  no_wait false kinds = refl

  no_wait_held : (b : Bool) (h g : Held) → cond (b && false) h g ≡ g
  no_wait_held true h g = refl
  no_wait_held false h g = refl

  -- a positional word, where an option or a positional word may be pending
  place_fault : (h : Held) (p : ℕ) (place : Text) → arg_by_index c p ≡ Some (built_positional p place)
      → step_fault s p h positional_step ≡ settle_fault c false h
  place_fault h p place e = ap (λ o. option_map_or (λ a. positional_fault c false a h) o (stray_fault s)) e ∙ no_wait (is_pending (built_positional p place) h.pending) _

  stray : (h : Held) (p : ℕ) → arg_by_index c p ≡ None → Fails (step_fault s p h positional_step)
  stray h p e = subst Fails (sym (ap (λ o. option_map_or (λ a. positional_fault c false a h) o (stray_fault s)) e)) tt

  abbrev pends : Text → Text → Held → Held
  pends n word h = record { rows = settled_rows c h.pending h.rows; pending = Some (n, word ∷ []); skip = h.skip }

  place_walked : (w : Walk) (p : ℕ) (place word : Text) (h : Held) → arg_by_index c p ≡ Some (built_positional p place)
      → to_positional c (arg_by_index c p) word w h
      ≡ record { held = pends place word h; waiting = idle; position = min (w.position + 1) usize_max; is_trailing = w.is_trailing || false; stopped = None }
  place_walked w p place word h e =
      ap (λ o. to_positional c o word w h) e
      ∙ ap (λ g. record { held = pushed place word g; waiting = idle; position = min (w.position + 1) usize_max; is_trailing = w.is_trailing || false; stopped = None })
      (no_wait_held (is_pending (built_positional p place) h.pending) h (settled c h))

  fails_at_place : (left : List Text) (h : Held) (p : ℕ) → AreUnbound c p left → Fails (settle_fault c false h) → Fails (step_fault s p h positional_step)
  fails_at_place [] h p e fails = stray h p e
  fails_at_place (place ∷ left) h p e fails = subst Fails (sym (place_fault h p place e.0)) fails

  plain_turn : (h : Held) (p : ℕ) (word : Text) → Lexed plain word → turn_fault s [] (at h idle p false) word ≡ step_fault s p h positional_step
  plain_turn h p word l = rw (l.0, l.1, l.2) refl

  plain_walked : (h : Held) (p : ℕ) (word : Text) → Lexed plain word
      → walked c [] (at h idle p false) word ≡ to_positional c (arg_by_index c p) word (at h idle p false) h
  unfolding walked
  plain_walked h p word l = rw (l.0, l.1, l.2) refl

  ends_turn : (h : Held) (waiting : Waiting) (p : ℕ) (word : Text) → Lexed ends word → turn_fault s [] (at h waiting p false) word ≡ []
  ends_turn h waiting p word l = rw (no_subcommand waiting word, l) refl

  ends_walked : (h : Held) (waiting : Waiting) (p : ℕ) (word : Text) → Lexed ends word → walked c [] (at h waiting p false) word ≡ at h waiting p true
  unfolding walked
  ends_walked h waiting p word l = rw (no_subcommand waiting word, l) refl

  trailing_walked : (h : Held) (waiting : Waiting) (p : ℕ) (word : Text)
      → walked c [] (at h waiting p true) word ≡ to_positional c (arg_by_index c p) word (at h waiting p true) h
  unfolding walked
  trailing_walked h waiting p word = refl

  -- ---- words that fail whatever follows

  long_fails : (o : Option Rule) (v : Option Text) (h : Held) → Fails (settle_fault c false h) → Fails (long_fault c false o v h)
  long_fails None v h fails = tt
  long_fails (Some a) v h fails = go (takes_values a)
    where
      with_value : (v : Option Text) → Fails (option_fault c false a v h)
      with_value None = fails
      with_value (Some x) = fails_left _ _ fails

      without : (v : Option Text) → Fails (cond (is_some v) (TooManyValues ∷ []) (react_fault c false a [] h))
      without None = fails_left _ _ fails
      without (Some x) = tt

      go : (b : Bool) → Fails (cond b (option_fault c false a v h) (cond (is_some v) (TooManyValues ∷ []) (react_fault c false a [] h)))
      go true = with_value v
      go false = without v

  long_word : (h : Held) (waiting : Waiting) (word n : Text) (v : Option Text) → Lexed (long n v) word
      → word_fault s [] false waiting word h ≡ long_fault c false (arg_by_long c n) v h
  long_word h waiting word n v l = rw (no_subcommand waiting word, l.0, l.1) refl

  long_word_fails : (h : Held) (waiting : Waiting) (p : ℕ) (word n : Text) (v : Option Text) → Lexed (long n v) word → Fails (settle_fault c false h)
      → Fails (turn_fault s [] (at h waiting p false) word)
  long_word_fails h waiting p word n v l fails =
      fails_left _ _ (subst Fails (sym (long_word h waiting word n v l)) (long_fails (arg_by_long c n) v h fails))

  flags_fail : (k : ℕ) (flags : Text) (skip : ℕ) (h : Held) (x : ℕ) → slice_get (chars flags) 0 ≡ Some x → skip ≡ 0 → Fails (flags_fault c false (suc k) flags skip h)
  unfolding flags_fault
  flags_fail k flags zero h x e none = rw e (rw (by_short form.valued form.flags 1 form.positionals x) tt)
  flags_fail k flags (suc skip) h x e none = absurd (omega (arith, none))

  bundle_fails : (b : ℕ) (rest : Text) (h : Held) (x : ℕ) → slice_get (chars (b ∷ rest)) 0 ≡ Some x → h.skip ≡ 0 → Fails (bundle_fault c false (b ∷ rest) h)
  bundle_fails b rest h x e none = flags_fail (length rest) (b ∷ rest) h.skip (record h { skip = 0 }) x e none

  short_word_fails : (h : Held) (waiting : Waiting) (p : ℕ) (word : Text) → Lexed short word → HasHead word → h.skip ≡ 0
      → Fails (turn_fault s [] (at h waiting p false) word)
  short_word_fails h waiting p word l head none =
      let is : word_fault s [] false waiting word h ≡ bundle_fault c false (l.2.0 ∷ l.2.1) h = rw (no_subcommand waiting word, l.0, l.1, l.2.3) refl in
      let first = head l.2.0 l.2.1 l.2.2 in
      fails_left _ _ (subst Fails (sym is) (bundle_fails l.2.0 l.2.1 h first.0 first.1 none))

  doomed_trailing : (words : List Text) (h : Held) (waiting : Waiting) (p : ℕ) (left : List Text) → AreUnbound c p left → Fails (settle_fault c false h)
      → Fails (faults (at h waiting p true) words)
  unfolding walk_fault
  doomed_trailing [] h waiting p left places fails = fails
  doomed_trailing (word ∷ words) h waiting p left places fails = fails_left _ _ (fails_left _ _ (fails_at_place left h p places fails))

  doomed_at : (k : Kind) (word : Text) (words : List Text) (h : Held) (p : ℕ) (left : List Text) → Lexed k word → HasHead word → AreUnbound c p left → h.skip ≡ 0
      → Fails (settle_fault c false h) → Fails (faults (at h idle p false) (word ∷ words))
  doomed_at ends word words h p left l head places none fails =
      subst Fails (sym (goes_on (at h idle p false) (at h idle p true) word words (ends_turn h idle p word l) (ends_walked h idle p word l)))
      (doomed_trailing words h idle p left places fails)
  doomed_at (long n v) word words h p left l head places none fails = stops (at h idle p false) word words (long_word_fails h idle p word n v l fails)
  doomed_at short word words h p left l head places none fails = stops (at h idle p false) word words (short_word_fails h idle p word l head none)
  doomed_at plain word words h p left l head places none fails =
      stops (at h idle p false) word words (subst Fails (sym (plain_turn h p word l)) (fails_at_place left h p places fails))

  doomed : (words : List Text) (h : Held) (p : ℕ) (left : List Text) → AllHaveHeads words → AreUnbound c p left → h.skip ≡ 0
      → Fails (settle_fault c false h) → Fails (faults (at h idle p false) words)
  unfolding walk_fault
  doomed [] h p left heads places none fails = fails
  doomed (word ∷ words) h p left heads places none fails = doomed_at (kind_of word) word words h p left (lexed word) heads.0 places none fails

  -- ---- the words in turn

  -- what is pending is used without a fault, and these are the rows then
  abbrev Settled : Held → List Row → Type 0
  Settled h rows = (settle_fault c false h ≡ []) × (settled_rows c h.pending h.rows ≡ rows) × (h.skip ≡ 0)

  abbrev awaits : Text → List Row → Held
  awaits n rows = record { rows = rows; pending = Some (n, []); skip = 0 }

  abbrev Waits : Option Text → Held → List Row → Type 0
  Waits None h rows = Settled h rows
  Waits (Some n) h rows = (h ≡ awaits n rows) × (is_among n form.valued ≡ true)

  abbrev waiting_for : Option Text → Waiting
  waiting_for None = idle
  waiting_for (Some n) = option n

  abbrev pub Judges : List Text → Type 0
  Judges words = (waiting : Option Text) (h : Held) (p : ℕ) (left bound : List Text) (rows : List Row) → AllHaveHeads words → Waits waiting h rows
      → Holds bound rows → AreUnbound c p left
      → Judged bound (bindings_of form left waiting words) (faults (at h (waiting_for waiting) p false) words) rows
      (rows_after (at h (waiting_for waiting) p false) words)

  pended_fault : (l : Option Text) (i : Option ℕ) (n word : Text) (h : Held) (rows : List Row) (b : Bool) → arg_by_id c n ≡ Some (text_rule l i n)
      → settled_rows c h.pending h.rows ≡ rows → has_row n rows ≡ b → settle_fault c false (pends n word h) ≡ again b
  pended_fault l i n word h rows b found are has =
      ap (λ o. option_map_or (λ a. use_fault false a (word ∷ []) (settled_rows c h.pending h.rows)) o []) found
      ∙ ap (use_fault false (text_rule l i n) (word ∷ [])) are ∙ text_use l i n word rows b has

  pended_rows : (l : Option Text) (i : Option ℕ) (n word : Text) (h : Held) (rows : List Row) → arg_by_id c n ≡ Some (text_rule l i n)
      → settled_rows c h.pending h.rows ≡ rows → has_row n rows ≡ false
      → settled_rows c (pends n word h).pending (pends n word h).rows ≡ rows ++ row_of_rule (text_rule l i n) word ∷ []
  pended_rows l i n word h rows found are has =
      ap (λ o. used_by_id o (word ∷ []) (settled_rows c h.pending h.rows)) found
      ∙ ap (used (text_rule l i n) (word ∷ [])) are ∙ text_used l i n word rows has

  -- a value is pending, which its name may have already
  pended_judged : (l : Option Text) (i : Option ℕ) (n word : Text) (h : Held) (bound : List Text) (rows : List Row) (o : Option (List Binding)) (f : Kinds)
      (end : List Row) (b : Bool) → has_row n rows ≡ b → Holds bound rows → arg_by_id c n ≡ Some (text_rule l i n) → settled_rows c h.pending h.rows ≡ rows
      → h.skip ≡ 0
      → (Settled (pends n word h) (rows ++ row_of_rule (text_rule l i n) word ∷ []) → Holds (n ∷ bound) (rows ++ row_of_rule (text_rule l i n) word ∷ [])
      → Judged (n ∷ bound) o f (rows ++ row_of_rule (text_rule l i n) word ∷ []) end)
      → (Fails (settle_fault c false (pends n word h)) → Fails f) → Judged bound (then_bound n word o) f rows end
  pended_judged l i n word h bound rows o f end false has holds found are skip good bad =
      let r = row_of_rule (text_rule l i n) word in
      one_more bound o f rows end n word r refl refl (sym (holds n) ∙ has)
      (good (pended_fault l i n word h rows false found are has, pended_rows l i n word h rows found are has, skip)
      (holds_more bound rows r n refl holds))
  pended_judged l i n word h bound rows o f end true has holds found are skip good bad =
      rejected (twice bound o n word (sym (holds n) ∙ has)) (bad (subst Fails (sym (pended_fault l i n word h rows true found are has)) tt))

  judge_trailing : (words : List Text) (h : Held) (waiting : Waiting) (p : ℕ) (left bound : List Text) (rows : List Row) → Settled h rows → Holds bound rows
      → AreUnbound c p left
      → Judged bound (bindings_of_positionals left words) (faults (at h waiting p true) words) rows (rows_after (at h waiting p true) words)
  unfolding walk_fault
  judge_trailing [] h waiting p left bound rows ready holds places = accepted [] refl refl ready.0 ready.1
  judge_trailing (word ∷ words) h waiting p [] bound rows ready holds places = rejected (nothing bound) (fails_left _ _ (fails_left _ _ (stray h p places)))
  judge_trailing (word ∷ words) h waiting p (place ∷ left) bound rows ready holds places =
      let here = at h waiting p true in
      let next = at (pends place word h) idle (min (p + 1) usize_max) true in
      stepped bound _ rows here next word words (place_fault h p place places.0 ∙ ready.0)
      (trailing_walked h waiting p word ∙ place_walked here p place word h places.0)
      (pended_judged None (Some p) place word h bound rows (bindings_of_positionals left words) (faults next words) (rows_after next words) (has_row place rows) refl
      holds places.1 ready.1 ready.2
      (λ settled more. judge_trailing words (pends place word h) idle (min (p + 1) usize_max) left (place ∷ bound) _ settled more places.2)
      (doomed_trailing words (pends place word h) idle (min (p + 1) usize_max) left places.2))

  plain_judged : (word : Text) (words : List Text) (h : Held) (p : ℕ) (left bound : List Text) (rows : List Row) → Lexed plain word → AllHaveHeads words
      → Settled h rows → Holds bound rows → AreUnbound c p left → Judges words
      → Judged bound (bindings_of_word form left None plain word words (λ l next. bindings_of form l next words)) (faults (at h idle p false) (word ∷ words)) rows
      (rows_after (at h idle p false) (word ∷ words))
  plain_judged word words h p [] bound rows l heads ready holds places later =
      rejected (nothing bound) (stops (at h idle p false) word words (subst Fails (sym (plain_turn h p word l)) (stray h p places)))
  plain_judged word words h p (place ∷ left) bound rows l heads ready holds places later =
      let here = at h idle p false in
      let next = at (pends place word h) idle (min (p + 1) usize_max) false in
      stepped bound _ rows here next word words (plain_turn h p word l ∙ place_fault h p place places.0 ∙ ready.0)
      (plain_walked h p word l ∙ place_walked here p place word h places.0)
      (pended_judged None (Some p) place word h bound rows (bindings_of form left None words) (faults next words) (rows_after next words) (has_row place rows) refl
      holds places.1 ready.1 ready.2
      (λ settled more. later None (pends place word h) (min (p + 1) usize_max) left (place ∷ bound) _ heads settled more places.2)
      (doomed words (pends place word h) (min (p + 1) usize_max) left heads places.2 ready.2))

  long_turn : (h : Held) (p : ℕ) (word n : Text) (v : Option Text) (a : Rule) (values : List Text) → Lexed (long n v) word → arg_by_long c n ≡ Some a
      → long_fault c false (Some a) v h ≡ react_fault c false a values h → long_met c (Some a) v h ≡ (reacted c a values h, done)
      → turn_fault s [] (at h idle p false) word ≡ or_else (react_fault c false a values h) []
  long_turn h p word n v a values l found fault met = rw (l.0, l.1, found) (rw (fault, met) refl)

  long_walked : (h : Held) (p : ℕ) (word n : Text) (v : Option Text) (a : Rule) (values : List Text) → Lexed (long n v) word → arg_by_long c n ≡ Some a
      → long_met c (Some a) v h ≡ (reacted c a values h, done) → walked c [] (at h idle p false) word ≡ at (reacted c a values h) idle p false
  unfolding walked
  long_walked h p word n v a values l found met = rw (l.0, l.1, found) (rw met refl)

  -- an option that is complete in this word
  attached_judged : (word n value : Text) (v : Option Text) (a : Rule) (values : List Text) (r : Row) (words : List Text) (h : Held) (p : ℕ)
      (left bound : List Text) (rows : List Row) (b : Bool) → has_row n rows ≡ b → Lexed (long n v) word → arg_by_long c n ≡ Some a
      → long_fault c false (Some a) v h ≡ react_fault c false a values h → long_met c (Some a) v h ≡ (reacted c a values h, done)
      → use_fault false a values rows ≡ again b → (has_row n rows ≡ false → used a values rows ≡ rows ++ r ∷ []) → r.id ≡ n → r.values ≡ value ∷ []
      → AllHaveHeads words → Settled h rows → Holds bound rows → AreUnbound c p left → Judges words
      → Judged bound (then_bound n value (bindings_of form left None words)) (faults (at h idle p false) (word ∷ words)) rows
      (rows_after (at h idle p false) (word ∷ words))
  attached_judged word n value v a values r words h p left bound rows false has l found fault met once makes id holds_value heads ready holds places later =
      let here = at h idle p false in
      let next = at (reacted c a values h) idle p false in
      stepped bound _ rows here next word words
      (long_turn h p word n v a values l found fault met
      ∙ ap₂ (λ x y. or_else (or_else x y) []) ready.0 (ap (use_fault false a values) ready.1 ∙ once))
      (long_walked h p word n v a values l found met)
      (one_more bound (bindings_of form left None words) (faults next words) rows (rows_after next words) n value r id holds_value (sym (holds n) ∙ has)
      (later None (reacted c a values h) p left (n ∷ bound) (rows ++ r ∷ []) heads (refl, ap (used a values) ready.1 ∙ makes has, ready.2)
      (holds_more bound rows r n id holds) places))
  attached_judged word n value v a values r words h p left bound rows true has l found fault met once makes id holds_value heads ready holds places later =
      rejected (twice bound (bindings_of form left None words) n value (sym (holds n) ∙ has))
      (stops (at h idle p false) word words
      (subst Fails (sym (long_turn h p word n v a values l found fault met
      ∙ ap₂ (λ x y. or_else (or_else x y) []) ready.0 (ap (use_fault false a values) ready.1 ∙ once))) tt))

  waits_turn : (h : Held) (p : ℕ) (word n : Text) → Lexed (long n None) word → arg_by_long c n ≡ Some (built_valued n)
      → turn_fault s [] (at h idle p false) word ≡ or_else (settle_fault c false h) []
  waits_turn h p word n l found = rw (l.0, l.1, found) refl

  waits_walked : (h : Held) (p : ℕ) (word n : Text) → Lexed (long n None) word → arg_by_long c n ≡ Some (built_valued n)
      → walked c [] (at h idle p false) word ≡ at (record (settled c h) { pending = Some (n, []) }) (option n) p false
  unfolding walked
  waits_walked h p word n l found = rw (l.0, l.1, found) refl

  -- a word of an option that is none, or that has a value it must not have
  refused_long : (word n : Text) (v : Option Text) (o : Option Rule) (words : List Text) (h : Held) (p : ℕ) (bound : List Text) (rows : List Row)
      → Lexed (long n v) word → arg_by_long c n ≡ o → Fails (long_fault c false o v h)
      → Judged bound None (faults (at h idle p false) (word ∷ words)) rows (rows_after (at h idle p false) (word ∷ words))
  refused_long word n v o words h p bound rows l found fails =
      rejected (nothing bound) (stops (at h idle p false) word words
      (fails_left _ _ (subst Fails (sym (long_word h idle word n v l ∙ ap (λ x. long_fault c false x v h) found)) fails)))

  long_judged : (v : Option Text) (b d : Bool) (word n : Text) (words : List Text) (h : Held) (p : ℕ) (left bound : List Text) (rows : List Row)
      → is_among n form.valued ≡ b → is_among n form.flags ≡ d → arg_by_long c n ≡ option_rule form.valued form.flags n → Lexed (long n v) word → AllHaveHeads words
      → Settled h rows → Holds bound rows → AreUnbound c p left → Judges words
      → Judged bound (bindings_of_long form n v (λ next. bindings_of form left next words)) (faults (at h idle p false) (word ∷ words)) rows
      (rows_after (at h idle p false) (word ∷ words))
  long_judged (Some value) true d word n words h p left bound rows eb ed found l heads ready holds places later =
      rw eb (attached_judged word n value (Some value) (built_valued n) (value ∷ []) (row_of_rule (built_valued n) value) words h p left bound rows
      (has_row n rows) refl l (rw eb at found) refl refl (text_use (Some n) None n value rows _ refl) (text_used (Some n) None n value rows) refl refl
      heads ready holds places later)
  long_judged (Some value) false true word n words h p left bound rows eb ed found l heads ready holds places later =
      rw eb (refused_long word n (Some value) (Some (built_flag n)) words h p bound rows l (rw (eb, ed) at found) tt)
  long_judged (Some value) false false word n words h p left bound rows eb ed found l heads ready holds places later =
      rw eb (refused_long word n (Some value) None words h p bound rows l (rw (eb, ed) at found) tt)
  long_judged None true d word n words h p left bound rows eb ed found l heads ready holds places later =
      let here = at h idle p false in
      let found_valued : arg_by_long c n ≡ Some (built_valued n) = rw eb at found in
      let next = at (record (settled c h) { pending = Some (n, []) }) (option n) p false in
      rw eb (stepped bound _ rows here next word words (waits_turn h p word n l found_valued ∙ ap (λ k. or_else k []) ready.0) (waits_walked h p word n l found_valued)
      (later (Some n) (record (settled c h) { pending = Some (n, []) }) p left bound rows heads
      (ap₂ (λ x k. record { rows = x; pending = Some (n, []); skip = k }) ready.1 ready.2, eb) holds places))
  long_judged None false true word n words h p left bound rows eb ed found l heads ready holds places later =
      rw (eb, ed) (attached_judged word n (codes "true") None (built_flag n) [] (row_of_rule (built_flag n) (codes "true")) words h p left bound rows
      (has_row n rows) refl l (rw (eb, ed) at found) refl refl (flag_use n rows _ refl) (flag_used n rows) refl refl
      heads ready holds places later)
  long_judged None false false word n words h p left bound rows eb ed found l heads ready holds places later =
      rw (eb, ed) (refused_long word n None None words h p bound rows l (rw (eb, ed) at found) tt)

  idle_judged : (k : Kind) (word : Text) (words : List Text) (h : Held) (p : ℕ) (left bound : List Text) (rows : List Row) → Lexed k word → HasHead word
      → AllHaveHeads words → Settled h rows → Holds bound rows → AreUnbound c p left → Judges words
      → Judged bound (bindings_of_word form left None k word words (λ l next. bindings_of form l next words)) (faults (at h idle p false) (word ∷ words)) rows
      (rows_after (at h idle p false) (word ∷ words))
  idle_judged ends word words h p left bound rows l head heads ready holds places later =
      stepped bound _ rows (at h idle p false) (at h idle p true) word words (ends_turn h idle p word l) (ends_walked h idle p word l)
      (judge_trailing words h idle p left bound rows ready holds places)
  idle_judged (long n v) word words h p left bound rows l head heads ready holds places later =
      long_judged v (is_among n form.valued) (is_among n form.flags) word n words h p left bound rows refl refl
      (by_long form.valued form.flags 1 form.positionals n) l heads ready holds places later
  idle_judged short word words h p left bound rows l head heads ready holds places later =
      rejected (nothing bound) (stops (at h idle p false) word words (short_word_fails h idle p word l head ready.2))
  idle_judged plain word words h p left bound rows l head heads ready holds places later =
      plain_judged word words h p left bound rows l heads ready holds places later

  -- ---- a word where an option waits for its value

  awaits_fails : (n : Text) (rows : List Row) → is_among n form.valued ≡ true → Fails (settle_fault c false (awaits n rows))
  awaits_fails n rows among =
      subst Fails (sym (ap (λ o. option_map_or (λ a. use_fault false a [] rows) o []) (by_id form.valued form.flags 1 form.positionals n among))) tt

  value_turn : (n : Text) (rows : List Row) (p : ℕ) (word : Text) → Lexed plain word → turn_fault s [] (at (awaits n rows) (option n) p false) word ≡ []
  value_turn n rows p word l = rw (l.0, l.1, l.2) refl

  abbrev holding : List Row → Held
  holding rows = record { rows = rows; pending = None; skip = 0 }

  value_walked : (n : Text) (rows : List Row) (p : ℕ) (word : Text) → Lexed plain word → is_among n form.valued ≡ true
      → walked c [] (at (awaits n rows) (option n) p false) word ≡ at (pends n word (holding rows)) idle p false
  unfolding walked
  value_walked n rows p word l among =
      rw (l.0, l.1, l.2) (rw (by_id form.valued form.flags 1 form.positionals n among) (rw ((bytes_eq-Decides n n).1 refl) refl))

  waiting_judged : (k : Kind) (n word : Text) (words : List Text) (p : ℕ) (left bound : List Text) (rows : List Row) → Lexed k word → HasHead word
      → AllHaveHeads words → is_among n form.valued ≡ true → Holds bound rows → AreUnbound c p left → Judges words
      → Judged bound (bindings_of_word form left (Some n) k word words (λ l next. bindings_of form l next words))
      (faults (at (awaits n rows) (option n) p false) (word ∷ words)) rows (rows_after (at (awaits n rows) (option n) p false) (word ∷ words))
  waiting_judged ends n word words p left bound rows l head heads among holds places later =
      let h = awaits n rows in
      rejected (nothing bound) (subst Fails
      (sym (goes_on (at h (option n) p false) (at h (option n) p true) word words (ends_turn h (option n) p word l) (ends_walked h (option n) p word l)))
      (doomed_trailing words h (option n) p left places (awaits_fails n rows among)))
  waiting_judged (long m v) n word words p left bound rows l head heads among holds places later =
      rejected (nothing bound) (stops _ word words (long_word_fails (awaits n rows) (option n) p word m v l (awaits_fails n rows among)))
  waiting_judged short n word words p left bound rows l head heads among holds places later =
      rejected (nothing bound) (stops _ word words (short_word_fails (awaits n rows) (option n) p word l head refl))
  waiting_judged plain n word words p left bound rows l head heads among holds places later =
      let next = at (pends n word (holding rows)) idle p false in
      stepped bound _ rows (at (awaits n rows) (option n) p false) next word words (value_turn n rows p word l) (value_walked n rows p word l among)
      (pended_judged (Some n) None n word (holding rows) bound rows (bindings_of form left None words) (faults next words) (rows_after next words) (has_row n rows)
      refl holds (by_id form.valued form.flags 1 form.positionals n among) refl refl
      (λ ready more. later None (pends n word (holding rows)) p left (n ∷ bound) _ heads ready more places)
      (doomed words (pends n word (holding rows)) p left heads places refl))

  pub judges : (words : List Text) → Judges words
  unfolding walk_fault
  judges [] None h p left bound rows heads ready holds places = accepted [] refl refl ready.0 ready.1
  judges [] (Some n) h p left bound rows heads ready holds places =
      rejected (nothing bound) (subst (λ g. Fails (settle_fault c false g)) (sym ready.0) (awaits_fails n rows ready.1))
  judges (word ∷ words) None h p left bound rows heads ready holds places =
      idle_judged (kind_of word) word words h p left bound rows (lexed word) heads.0 heads.1 ready holds places (judges words)
  judges (word ∷ words) (Some n) h p left bound rows heads ready holds places =
      subst (λ g. Judged bound (bindings_of form left (Some n) (word ∷ words)) (faults (at g (option n) p false) (word ∷ words)) rows
      (rows_after (at g (option n) p false) (word ∷ words))) (sym ready.0)
      (waiting_judged (kind_of word) n word words p left bound rows (lexed word) heads.0 heads.1 ready.1 holds places (judges words))
