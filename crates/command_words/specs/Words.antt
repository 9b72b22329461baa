-- Which words mean which command, and with which settings.
use Rattle.std.specs.Prelude.{◌<◌, ◌≤◌, ◌+◌, ◌-◌, ◌*◌, ◌==◌, ◌&&◌, ◌++◌, ℕ, Bool, true, false, not, List, [], ◌∷◌, length, codes, bytes_eq, nat_lt, nat_le, Option, Some, None, option_map, option_and_then, find, map, flat_map, if◌then◌else◌}
use Rattle.std.specs.List.{list_any, before_first, after_first}
use Rattle.std.specs.Str.{all_ascii_digits}
use Rattle.command_words.specs.declared.Command.{Command as CommandWords}
use Rattle.command_words.specs.declared.Command.TheVariants as words
use Rattle.command_words.specs.declared.Limits.{Limits}
use Rattle.command_words.specs.declared.Method.{Method}
use Rattle.command_words.specs.declared.Method.TheVariants.{Predicates, Length}
use Rattle.command_words.specs.declared.Query.{Query}
use Rattle.command_words.specs.declared.Query.TheVariants.{Check, Back, Deadlock, Past}
use Rattle.command_words.specs.declared.Settings.{Settings}
use Rattle.command_words.specs.declared.Start.{Start}
use Rattle.command_words.specs.declared.Start.TheVariants.{Bad, Nothing}
use Rattle.command_words.specs.declared.forms.Name.{Name}
use Rattle.command_words.specs.declared.forms.Name.TheVariants as names

-- a command with the names of its texts
pub data Command : Type 0 where
  verify : List ℕ → List ℕ → Command
  migrate : List ℕ → List ℕ → Command
  steps : List ℕ → List ℕ → Command
  show : List ℕ → Command
  searching : List ℕ → Query → Limits → Command
  checking_all : List ℕ → List ℕ → Limits → Command
  generate : ℕ → ℕ → Command

-- ---- the ranges of numbers

abbrev pub most_bound : ℕ
most_bound = 64

abbrev pub default_budget : ℕ
default_budget = 100000

abbrev pub most_budget : ℕ
most_budget = 1000000

abbrev pub most_workers : ℕ
most_workers = 16

abbrev pub most_generated : ℕ
most_generated = 255

pub record IsWorkers (workers : ℕ) : Type 0 where
  pub workers_low : 0 < workers
  pub workers_high : workers ≤ most_workers

pub record IsLimits (limits : Limits) : Type 0 where
  pub budget_low : 0 < limits.budget
  pub budget_high : limits.budget ≤ most_budget
  pub workers_in : IsWorkers limits.workers

pub record IsSettings (settings : Settings) : Type 0 where
  pub bound_high : settings.bound ≤ most_bound

abbrev pub IsQuery : Query → Type 0
IsQuery (Check settings) = IsSettings settings
IsQuery Back = Unit {0}
IsQuery Deadlock = Unit {0}
IsQuery (Past bound) = bound ≤ most_bound

pub record IsSearching (query : Query) (limits : Limits) : Type 0 where
  pub query_in : IsQuery query
  pub limits_in : IsLimits limits

pub record IsGenerate (number workers : ℕ) : Type 0 where
  pub number_low : 0 < number
  pub number_high : number ≤ most_generated
  pub workers_in : IsWorkers workers

-- the numbers of the command are in range
abbrev pub IsInRange : Command → Type 0
IsInRange (verify file certificate) = Unit {0}
IsInRange (migrate file certificate) = Unit {0}
IsInRange (steps file configuration) = Unit {0}
IsInRange (show file) = Unit {0}
IsInRange (searching file query limits) = IsSearching query limits
IsInRange (checking_all file properties limits) = IsLimits limits
IsInRange (generate number workers) = IsGenerate number workers

-- ---- what one word is

-- `--` ends the options; `--x` and `--x=V` name an option; any other word that begins with `-` and has more bytes is a short one; the rest, `-` among it,
-- is positional
pub data Kind : Type 0 where
  ends : Kind
  long : List ℕ → Option (List ℕ) → Kind
  short : Kind
  plain : Kind

abbrev pub is_equals : ℕ → Bool
is_equals b = b == 61

-- what follows `--`: the name, which ends before the first `=`, and what follows that
abbrev pub kind_of_long : List ℕ → Kind
kind_of_long [] = ends
kind_of_long (b ∷ rest) =
    long (before_first is_equals (b ∷ rest)) (if list_any is_equals (b ∷ rest) then Some (after_first is_equals (b ∷ rest)) else None)

abbrev pub kind_of : List ℕ → Kind
kind_of [] = plain
kind_of (a ∷ []) = plain
kind_of (a ∷ (b ∷ rest)) = if a == 45 then (if b == 45 then kind_of_long rest else short) else plain

-- ---- what the words after the command's name bind

-- the form of a command: the word that names it, the full names of its options with a value and without, and the names of its positional words
pub record CommandForm : Type 0 where
  pub name : Name
  pub word : List ℕ
  pub valued : List (List ℕ)
  pub flags : List (List ℕ)
  pub positionals : List (List ℕ)

-- a name of the form with what the words give it
pub record Binding : Type 0 where
  pub name : List ℕ
  pub value : List ℕ

abbrev pub is_among : List ℕ → List (List ℕ) → Bool
is_among name names = list_any (λ n. bytes_eq n name) names

abbrev pub then_bound : List ℕ → List ℕ → Option (List Binding) → Option (List Binding)
then_bound name value bindings = option_map (λ rest. record { name = name; value = value } ∷ rest) bindings

-- a positional word has the first name that is left
abbrev pub next_bound : List (List ℕ) → List ℕ → (List (List ℕ) → Option (List Binding)) → Option (List Binding)
next_bound [] word rest = None
next_bound (place ∷ places) word rest = then_bound place word (rest places)

-- after `--` each word is positional
abbrev pub bindings_of_positionals : List (List ℕ) → List (List ℕ) → Option (List Binding)
bindings_of_positionals places [] = Some []
bindings_of_positionals places (word ∷ words) = next_bound places word (λ left. bindings_of_positionals left words)

-- an option with a value has it after `=`, or it is the next word; one without has none, and stands for the value `true`
abbrev pub bindings_of_long : CommandForm → List ℕ → Option (List ℕ) → (Option (List ℕ) → Option (List Binding)) → Option (List Binding)
bindings_of_long form name (Some value) rest = if is_among name form.valued then then_bound name value (rest None) else None
bindings_of_long form name None rest =
    if is_among name form.valued then rest (Some name)
    else (if is_among name form.flags then then_bound name (codes "true") (rest None) else None)

-- one word, where no option waits for its value, or this one does; then the words after it
abbrev pub bindings_of_word :
    CommandForm → List (List ℕ) → Option (List ℕ) → Kind → List ℕ → List (List ℕ) → (List (List ℕ) → Option (List ℕ) → Option (List Binding)) → Option (List Binding)
bindings_of_word form places (Some name) plain word words rest = then_bound name word (rest places None)
bindings_of_word form places (Some name) _ word words rest = None
bindings_of_word form places None ends word words rest = bindings_of_positionals places words
bindings_of_word form places None (long name value) word words rest = bindings_of_long form name value (rest places)
bindings_of_word form places None short word words rest = None
bindings_of_word form places None plain word words rest = next_bound places word (λ left. rest left None)

-- what the words bind, in order, where these names of positional words are left; None where a word is refused
abbrev pub bindings_of : CommandForm → List (List ℕ) → Option (List ℕ) → List (List ℕ) → Option (List Binding)
bindings_of form places None [] = Some []
bindings_of form places (Some name) [] = None
bindings_of form places waiting (word ∷ words) =
    bindings_of_word form places waiting (kind_of word) word words (λ left next. bindings_of form left next words)

-- no name is bound twice, and none of these is bound
abbrev pub is_once : List (List ℕ) → List Binding → Bool
is_once bound [] = true
is_once bound (binding ∷ bindings) = not (is_among binding.name bound) && is_once (binding.name ∷ bound) bindings

-- what the words bind, where each option stands at most once
abbrev pub bound_once : Option (List Binding) → Option (List Binding)
bound_once None = None
bound_once (Some bindings) = if is_once [] bindings then Some bindings else None

abbrev pub bindings : CommandForm → List (List ℕ) → Option (List Binding)
bindings form words = bound_once (bindings_of form form.positionals None words)

-- the value of the name
abbrev pub value_of : List ℕ → List Binding → Option (List ℕ)
value_of name bindings = option_map (λ (binding : Binding). binding.value) (find (λ (binding : Binding). bytes_eq binding.name name) bindings)

-- what an option gives: its default, or what its value is read as
abbrev pub given : {X : Type 0} → X → (List ℕ → Option X) → Option (List ℕ) → Option X
given default read None = Some default
given default read (Some value) = read value

-- ---- values

-- the number that digits after those of n write in decimal notation
abbrev pub number_after : ℕ → List ℕ → ℕ
number_after n [] = n
number_after n (b ∷ digits) = number_after (10 * n + (b - 48)) digits

-- whether the word is a number: one to seven digits, with leading zeros or without
abbrev pub is_number : List ℕ → Bool
is_number word = nat_lt 0 (length word) && (nat_lt (length word) 8 && all_ascii_digits word)

-- the number that the word gives, from `least` to `most`
abbrev pub number_in : ℕ → ℕ → List ℕ → Option ℕ
number_in least most word =
    if is_number word && (nat_le least (number_after 0 word) && nat_le (number_after 0 word) most) then Some (number_after 0 word) else None

-- the methods and the first predicates, by the words that choose them
abbrev pub methods : List (List ℕ × Method)
methods = (codes "predicates", Predicates) ∷ ((codes "length", Length) ∷ [])

abbrev pub starts : List (List ℕ × Start)
starts = (codes "bad", Bad) ∷ ((codes "none", Nothing) ∷ [])

abbrev pub chosen : {X : Type 0} → List (List ℕ × X) → List ℕ → Option X
chosen {X} choices word = option_map (λ (choice : List ℕ × X). choice.1) (find (λ (choice : List ℕ × X). bytes_eq word choice.0) choices)

-- ---- what the names of options give

abbrev pub default_settings : Settings
default_settings = record { method = Predicates; start = Bad; bound = 0; report = false }

abbrev pub method_given : List Binding → Option Method
method_given bindings = given default_settings.method (chosen methods) (value_of (codes "method") bindings)

abbrev pub start_given : List Binding → Option Start
start_given bindings = given default_settings.start (chosen starts) (value_of (codes "start") bindings)

abbrev pub bound_given : List Binding → Option ℕ
bound_given bindings = given default_settings.bound (number_in 0 most_bound) (value_of (codes "bound") bindings)

abbrev pub budget_given : List Binding → Option ℕ
budget_given bindings = given default_budget (number_in 1 most_budget) (value_of (codes "budget") bindings)

abbrev pub workers_given : List Binding → Option ℕ
workers_given bindings = given 1 (number_in 1 most_workers) (value_of (codes "workers") bindings)

-- whether the report is asked for
abbrev pub is_true : Option (List ℕ) → Bool
is_true None = false
is_true (Some value) = bytes_eq value (codes "true")

abbrev pub limits_from : Option ℕ → Option ℕ → Option Limits
limits_from (Some budget) (Some workers) = Some (record { budget = budget; workers = workers })
limits_from _ _ = None

abbrev pub limits_given : List Binding → Option Limits
limits_given bindings = limits_from (budget_given bindings) (workers_given bindings)

abbrev pub settings_from : Option Method → Option Start → Option ℕ → Bool → Option Settings
settings_from (Some method) (Some start) (Some bound) report =
    Some (record { method = method; start = start; bound = bound; report = report })
settings_from _ _ _ report = None

-- the settings of `check`, each of which must be given well
abbrev pub settings_given : List Binding → Option Settings
settings_given bindings = settings_from (method_given bindings) (start_given bindings) (bound_given bindings)
    (is_true (value_of (codes "report") bindings))

-- ---- commands

-- the options of every search
abbrev pub search_options : List (List ℕ)
search_options = codes "budget" ∷ (codes "workers" ∷ [])

-- the form of each command
abbrev pub forms : List CommandForm
forms =
    record {
      name = names.Check;
      word = codes "check";
      valued = codes "method" ∷ (codes "start" ∷ (codes "bound" ∷ search_options));
      flags = codes "report" ∷ [];
      positionals = codes "FILE" ∷ [];
    } ∷
    (record { name = names.Verify; word = codes "verify"; valued = []; flags = []; positionals = codes "FILE" ∷ (codes "CERT" ∷ []) } ∷
    (record { name = names.Show; word = codes "show"; valued = []; flags = []; positionals = codes "FILE" ∷ [] } ∷
    (record { name = names.Steps; word = codes "steps"; valued = []; flags = []; positionals = codes "FILE" ∷ (codes "CONFIGURATION" ∷ []) } ∷
    (record { name = names.Generate; word = codes "gen"; valued = codes "workers" ∷ []; flags = []; positionals = codes "N" ∷ [] } ∷
    (record { name = names.Migrate; word = codes "migrate"; valued = []; flags = []; positionals = codes "FILE" ∷ (codes "CERT" ∷ []) } ∷
    (record { name = names.Back; word = codes "back"; valued = search_options; flags = []; positionals = codes "FILE" ∷ [] } ∷
    (record { name = names.Deadlock; word = codes "deadlock"; valued = search_options; flags = []; positionals = codes "FILE" ∷ [] } ∷
    (record { name = names.Past; word = codes "past"; valued = codes "bound" ∷ search_options; flags = []; positionals = codes "FILE" ∷ [] } ∷
    (record { name = names.CheckAll; word = codes "checkall"; valued = search_options; flags = []; positionals = codes "FILE" ∷ (codes "PROPS" ∷ []) } ∷ [])))))))))

-- the texts in their order, with one text between each two
abbrev pub separated : List ℕ → List (List ℕ) → List ℕ
separated between [] = []
separated between (text ∷ texts) = text ++ flat_map (λ other. between ++ other) texts

abbrev pub alternatives : {X : Type 0} → List (List ℕ × X) → List ℕ
alternatives {X} choices = separated (codes "|") (map (λ (choice : List ℕ × X). choice.0) choices)

-- what the usage has in place of the value of an option
abbrev pub value_words : List ℕ → List ℕ
value_words name =
    if bytes_eq name (codes "method") then alternatives methods else (if bytes_eq name (codes "start") then alternatives starts else codes "N")

-- the words of a form: its own, those in places, and its options
abbrev pub form_words : CommandForm → List ℕ
form_words form =
    form.word ++ flat_map (λ name. codes " " ++ name) form.positionals
    ++ flat_map (λ name. codes " [--" ++ name ++ codes " " ++ value_words name ++ codes "]") form.valued
    ++ flat_map (λ name. codes " [--" ++ name ++ codes "]") form.flags

-- the commands with their words
abbrev pub usage_text : List ℕ
usage_text = codes "armc: usage: " ++ separated (codes "; ") (map form_words forms)

-- the form of the command that the word names
abbrev pub form_named : List ℕ → Option CommandForm
form_named word = find (λ form. bytes_eq form.word word) forms

-- whether a command has an option of this name without a value
abbrev pub is_flag : List ℕ → Bool
is_flag name = list_any (λ form. is_among name form.flags) forms

-- a searching command, where its text, its query and its limits are given well
abbrev pub searching_of : Option (List ℕ) → Option Query → Option Limits → Option Command
searching_of (Some file) (Some query) (Some limits) = Some (searching file query limits)
searching_of _ _ _ = None

abbrev pub searching_given : List Binding → Option Query → Option Command
searching_given bound query = searching_of (value_of (codes "FILE") bound) query (limits_given bound)

abbrev pub two_of : (List ℕ → List ℕ → Command) → Option (List ℕ) → Option (List ℕ) → Option Command
two_of command (Some file) (Some other) = Some (command file other)
two_of command _ _ = None

abbrev pub checking_all_of : List Binding → Limits → Option Command
checking_all_of bound limits =
    two_of (λ file properties. checking_all file properties limits) (value_of (codes "FILE") bound) (value_of (codes "PROPS") bound)

abbrev pub generate_of : Option ℕ → Option ℕ → Option Command
generate_of (Some number) (Some workers) = Some (generate number workers)
generate_of _ _ = None

-- the command of this name, from what the words after it bind
abbrev pub command_given : Name → List Binding → Option Command
command_given names.Check bound = searching_given bound (option_map Check (settings_given bound))
command_given names.Back bound = searching_given bound (Some Back)
command_given names.Deadlock bound = searching_given bound (Some Deadlock)
command_given names.Past bound = searching_given bound (option_map Past (bound_given bound))
command_given names.CheckAll bound = option_and_then (checking_all_of bound) (limits_given bound)
command_given names.Verify bound = two_of verify (value_of (codes "FILE") bound) (value_of (codes "CERT") bound)
command_given names.Migrate bound = two_of migrate (value_of (codes "FILE") bound) (value_of (codes "CERT") bound)
command_given names.Show bound = option_map show (value_of (codes "FILE") bound)
command_given names.Steps bound = two_of steps (value_of (codes "FILE") bound) (value_of (codes "CONFIGURATION") bound)
command_given names.Generate bound =
    generate_of (option_and_then (number_in 1 most_generated) (value_of (codes "N") bound)) (workers_given bound)

-- the command of this form, from the words after its name
abbrev pub command_after : List (List ℕ) → CommandForm → Option Command
command_after words form = option_and_then (command_given form.name) (bindings form words)

abbrev pub command_named : List ℕ → List (List ℕ) → Option Command
command_named word words = option_and_then (command_after words) (form_named word)

abbrev pub is_empty : List ℕ → Bool
is_empty word = length word == 0

-- the command that the words mean: the first word names it; no word is empty
abbrev pub command_of : List (List ℕ) → Option Command
command_of [] = None
command_of (word ∷ words) = if list_any is_empty (word ∷ words) then None else command_named word words

-- the command that a value of the program stands for
abbrev pub said : CommandWords → Command
said (words.Verify file certificate) = verify file.now certificate.now
said (words.Migrate file certificate) = migrate file.now certificate.now
said (words.Steps file configuration) = steps file.now configuration.now
said (words.Show file) = show file.now
said (words.Search file query limits) = searching file.now query limits
said (words.CheckAll file properties limits) = checking_all file.now properties.now limits
said (words.Generate number workers) = generate number workers
