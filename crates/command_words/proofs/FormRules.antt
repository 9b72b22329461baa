-- The arguments of a form, as a command of `clap` has them once it is built, and which of them a name finds.
use Rattle.std.proofs.Common.{◌≡◌, ◌∙◌, ◌+◌, ◌<◌, ◌||◌, ◌&&◌, not, ℕ, suc, Bool, true, false, true≢false, List, [], ◌∷◌, ◌++◌, length, map, drop, get_or, drop-cons, append-nil, append_assoc, arith, Option, Some, None, codes, refl, sym, ap, ap₂, if◌then◌else◌, cond, min}
use Rattle.std.specs.List.{list_any}
use Rattle.std.specs.Prelude.{fold}
use Rattle.std.specs.Str.{bytes_eq}
use Rattle.std.proofs.lemmas.Slice.Eq.{bytes_eq-Decides}
use Rattle.clap.specs.Lexer.{usize_max}
use Rattle.clap.specs.Walk.{Rule, Row, Text, arg_by_id, arg_by_index, arg_by_long, arg_by_short, with_default, has_row}
use Rattle.clap.specs.Simple.{App, Shape, new_rule, new_shape, with_rule}
use Rattle.clap.specs.Kinds.{Kinds, or_else}
use Rattle.clap.specs.Faults.{defaults_fault}
use Rattle.clap.specs.Takes.{is_given}
use Rattle.clap.specs.declared.builder.action.ArgAction.TheVariants.{Set, SetTrue}
use Rattle.clap.specs.declared.builder.value_parser.ValueParser.TheVariants as parser
use Rattle.command_words.specs.Parsing.{flag_rule, parser_of, positional_rule, valued_rule}
use Rattle.command_words.specs.Words.{CommandForm, is_among}

-- an argument that takes one value, as text
abbrev pub text_rule : Option Text → Option ℕ → Text → Rule
text_rule long index name = record (new_rule name) {
  long = long;
  index = index;
  action = Some Set;
  parser = Some parser.String;
  range = Some (record { start_inclusive = 1; end_inclusive = 1 });
}

abbrev pub built_valued : Text → Rule
built_valued name = text_rule (Some name) None name

abbrev pub built_positional : ℕ → Text → Rule
built_positional i name = text_rule None (Some i) name

abbrev pub built_flag : Text → Rule
built_flag name = record (new_rule name) {
  long = Some name;
  action = Some SetTrue;
  defaults = codes "false" ∷ [];
  missing = codes "true" ∷ [];
  parser = Some parser.Bool;
  range = Some (record { start_inclusive = 0; end_inclusive = 0 });
}

abbrev pub built_rules : List Text → List Text → ℕ → List Text → List Rule
built_rules (v ∷ vs) fs i ps = built_valued v ∷ built_rules vs fs i ps
built_rules [] (f ∷ fs) i ps = built_flag f ∷ built_rules [] fs i ps
built_rules [] [] i (p ∷ ps) = built_positional i p ∷ built_rules [] [] (min (i + 1) usize_max) ps
built_rules [] [] i [] = []

abbrev pub form_rules : CommandForm → List Rule
form_rules form = built_rules form.valued form.flags 1 form.positionals

-- the built command of this form
abbrev pub form_shape : CommandForm → Shape
form_shape form = record (new_shape (codes "armc")) {
  rules = form_rules form;
  disable_help_flag = true;
  disable_help_subcommand = true;
  is_built = true;
}

-- the option of this name among those with a value and those without
abbrev pub option_rule : List Text → List Text → Text → Option Rule
option_rule vs fs name = if is_among name vs then Some (built_valued name) else (if is_among name fs then Some (built_flag name) else None)

found_valued : (v name : Text) (vs fs : List Text) (rest : Option Rule) (b : Bool) → (b ≡ true → v ≡ name) → rest ≡ option_rule vs fs name
    → cond (b || false) (Some (built_valued v)) rest
    ≡ (if b || is_among name vs then Some (built_valued name) else (if is_among name fs then Some (built_flag name) else None))
found_valued v name vs fs rest true same later = ap (λ n. Some (built_valued n)) (same refl)
found_valued v name vs fs rest false same later = later

found_flag : (f name : Text) (fs : List Text) (rest : Option Rule) (b : Bool) → (b ≡ true → f ≡ name) → rest ≡ option_rule [] fs name
    → cond (b || false) (Some (built_flag f)) rest ≡ (if b || is_among name fs then Some (built_flag name) else None)
found_flag f name fs rest true same later = ap (λ n. Some (built_flag n)) (same refl)
found_flag f name fs rest false same later = later

pub by_long : (vs fs : List Text) (i : ℕ) (ps : List Text) (name : Text) → arg_by_long (built_rules vs fs i ps) name ≡ option_rule vs fs name
by_long (v ∷ vs) fs i ps name = found_valued v name vs fs _ (bytes_eq v name) (bytes_eq-Decides v name).0 (by_long vs fs i ps name)
by_long [] (f ∷ fs) i ps name = found_flag f name fs _ (bytes_eq f name) (bytes_eq-Decides f name).0 (by_long [] fs i ps name)
by_long [] [] i (p ∷ ps) name = by_long [] [] (min (i + 1) usize_max) ps name
by_long [] [] i [] name = refl

pub by_short : (vs fs : List Text) (i : ℕ) (ps : List Text) (c : ℕ) → arg_by_short (built_rules vs fs i ps) c ≡ None
by_short (v ∷ vs) fs i ps c = by_short vs fs i ps c
by_short [] (f ∷ fs) i ps c = by_short [] fs i ps c
by_short [] [] i (p ∷ ps) c = by_short [] [] (min (i + 1) usize_max) ps c
by_short [] [] i [] c = refl

found_by_id : (v name : Text) (vs : List Text) (rest : Option Rule) (b : Bool) → (b ≡ true → v ≡ name) → (b || is_among name vs) ≡ true
    → (is_among name vs ≡ true → rest ≡ Some (built_valued name)) → cond b (Some (built_valued v)) rest ≡ Some (built_valued name)
found_by_id v name vs rest true same among later = ap (λ n. Some (built_valued n)) (same refl)
found_by_id v name vs rest false same among later = later among

pub by_id : (vs fs : List Text) (i : ℕ) (ps : List Text) (name : Text) → is_among name vs ≡ true
    → arg_by_id (built_rules vs fs i ps) name ≡ Some (built_valued name)
by_id (v ∷ vs) fs i ps name among =
    found_by_id v name vs _ (bytes_eq v name) (bytes_eq-Decides v name).0 among (by_id vs fs i ps name)
by_id [] fs i ps name among = absurd (true≢false (sym among))

-- which names of positional words are left at this place
abbrev pub AreUnbound : List Rule → ℕ → List Text → Type 0
AreUnbound c i [] = arg_by_index c i ≡ None
AreUnbound c i (p ∷ ps) = (arg_by_index c i ≡ Some (built_positional i p)) × (arg_by_id c p ≡ Some (built_positional i p)) × AreUnbound c (min (i + 1) usize_max) ps

-- ---- defaults

same_rows : (b : Bool) (rows : List Row) → cond b rows rows ≡ rows
same_rows true rows = refl
same_rows false rows = refl

pub defaults_of_valued : (rows : List Row) (vs fs : List Text) (i : ℕ) (ps : List Text)
    → fold with_default rows (built_rules vs fs i ps) ≡ fold with_default rows (built_rules [] fs i ps)
defaults_of_valued rows (v ∷ vs) fs i ps =
    ap (λ r. fold with_default r (built_rules vs fs i ps)) (same_rows (has_row v rows) rows) ∙ defaults_of_valued rows vs fs i ps
defaults_of_valued rows [] fs i ps = refl

pub defaults_of_positionals : (rows : List Row) (i : ℕ) (ps : List Text) → fold with_default rows (built_rules [] [] i ps) ≡ rows
defaults_of_positionals rows i (p ∷ ps) =
    ap (λ r. fold with_default r (built_rules [] [] (min (i + 1) usize_max) ps)) (same_rows (has_row p rows) rows)
    ∙ defaults_of_positionals rows (min (i + 1) usize_max) ps
defaults_of_positionals rows i [] = refl

-- ---- faults after the walk

text_default : (b : Bool) (kinds : Kinds) → cond (b || true) [] kinds ≡ []
text_default true kinds = refl
text_default false kinds = refl

flag_default : (b : Bool) (kinds : Kinds) → kinds ≡ [] → cond (b || false) [] kinds ≡ []
flag_default true kinds none = refl
flag_default false kinds none = none

pub no_default_fault : (rows : List Row) (vs fs : List Text) (i : ℕ) (ps : List Text) → defaults_fault rows (built_rules vs fs i ps) ≡ []
unfolding defaults_fault
no_default_fault rows (v ∷ vs) fs i ps = ap₂ or_else (text_default (has_row v rows) _) (no_default_fault (with_default rows (built_valued v)) vs fs i ps)
no_default_fault rows [] (f ∷ fs) i ps =
    ap₂ or_else (flag_default (has_row f rows) _ refl) (no_default_fault (with_default rows (built_flag f)) [] fs i ps)
no_default_fault rows [] [] i (p ∷ ps) =
    ap₂ or_else (text_default (has_row p rows) _) (no_default_fault (with_default rows (built_positional i p)) [] [] (min (i + 1) usize_max) ps)
no_default_fault rows [] [] i [] = refl

pub none_required : (rows : List Row) (vs fs : List Text) (i : ℕ) (ps : List Text)
    → list_any (λ (a : Rule). a.required && not (is_given a.id rows)) (built_rules vs fs i ps) ≡ false
none_required rows (v ∷ vs) fs i ps = none_required rows vs fs i ps
none_required rows [] (f ∷ fs) i ps = none_required rows [] fs i ps
none_required rows [] [] i (p ∷ ps) = none_required rows [] [] (min (i + 1) usize_max) ps
none_required rows [] [] i [] = refl

-- ---- the command of a form, made name by name

-- one more name is read
pub one_name : {X T : Type 0} (rule : T → Rule) (text : X → T) (a next : App) (d : X) (xs : List X) (i : ℕ) → i < length xs
    → next ≡ with_rule a (rule (text (get_or xs i d)))
    → fold with_rule next (map rule (map text (drop (i + 1) xs))) ≡ fold with_rule a (map rule (map text (drop i xs)))
one_name rule text a next d xs i lt is =
    let more : suc i ≡ i + 1 = omega arith in
    ap (λ b. fold with_rule b (map rule (map text (drop (i + 1) xs)))) is
    ∙ sym (ap (λ ys. fold with_rule a (map rule (map text ys))) (drop-cons xs i d lt ∙ ap (λ k. get_or xs i d ∷ drop k xs) more))

abbrev pub with_rules : Shape → List Rule → App
with_rules s rules = record { top = record s { rules = rules }; subs = [] }

rules_added : (s : Shape) (rules more : List Rule) → fold with_rule (with_rules s rules) more ≡ with_rules s (rules ++ more)
rules_added s rules [] = ap (with_rules s) (sym (append-nil rules))
rules_added s rules (r ∷ more) = rules_added s (rules ++ r ∷ []) more ∙ ap (with_rules s) (append_assoc rules (r ∷ []) more)

pub made : (form : CommandForm) (a v f p : App) → a ≡ with_rules (record (new_shape (codes "armc")) { disable_help_flag = true }) []
    → v ≡ fold with_rule a (map valued_rule form.valued) → f ≡ fold with_rule v (map flag_rule form.flags)
    → p ≡ fold with_rule f (map positional_rule form.positionals) → p ≡ parser_of form
made form a v f p ea ev ef ep =
    let s = record (new_shape (codes "armc")) { disable_help_flag = true } in
    let vs = map valued_rule form.valued in
    let fs = map flag_rule form.flags in
    let ps = map positional_rule form.positionals in
    let valued : v ≡ with_rules s vs = ev ∙ ap (λ x. fold with_rule x vs) ea ∙ rules_added s [] vs in
    let flags : f ≡ with_rules s (vs ++ fs) = ef ∙ ap (λ x. fold with_rule x fs) valued ∙ rules_added s vs fs in
    ep ∙ ap (λ x. fold with_rule x ps) flags ∙ rules_added s (vs ++ fs) ps ∙ ap (with_rules s) (append_assoc vs fs ps)
