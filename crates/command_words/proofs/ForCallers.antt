-- The numbers of every command that words mean are in range.
use Rattle.std.proofs.Common.{◌≡◌, ◌≤◌, ℕ, Bool, true, false, cond, List, [], ◌∷◌, Option, None, Some, refl, arith, codes, nat_le, option_map}
use Rattle.std.specs.List.{list_any}
use Rattle.std.specs.Option.{option_and_then}
use Rattle.std.specs.Prelude.{◌&&◌, IfSome}
use Rattle.std.proofs.lemmas.Bool.{and_parts, leb-true}
use Rattle.command_words.specs.declared.Limits.{Limits}
use Rattle.command_words.specs.declared.Query.{Query}
use Rattle.command_words.specs.declared.Query.TheVariants.{Back, Check, Deadlock, Past}
use Rattle.command_words.specs.declared.forms.Name.{Name}
use Rattle.command_words.specs.declared.forms.Name.TheVariants as names
use Rattle.command_words.specs.declared.Method.{Method}
use Rattle.command_words.specs.declared.Start.{Start}
use Rattle.command_words.specs.Words.{Binding, Command, IsInRange, IsLimits, IsQuery, IsSettings}
use Rattle.command_words.specs.Words.{bindings, checking_all, command_after, command_given, command_named, command_of, form_named, generate_of, is_empty, is_number, is_true}
use Rattle.command_words.specs.Words.{bound_given, budget_given, limits_from, limits_given, method_given, settings_from, settings_given, start_given, workers_given}
use Rattle.command_words.specs.Words.{default_budget, given, migrate, most_bound, most_budget, most_generated, most_workers, number_after, number_in, searching_of, show, steps, two_of, value_of, verify}

-- a number is at least the one and at most the other
abbrev IsBetween : ℕ → ℕ → ℕ → Type 0
IsBetween least most n = (least ≤ n) × (n ≤ most)

some-if : {X : Type 0} (P : X → Type 0) (test : Bool) (x : X) → (test ≡ true → P x) → IfSome (cond test (Some x) None) P
some-if P true x has = has refl
some-if P false x has = tt

then-has : {X Y : Type 0} (P : Y → Type 0) (f : X → Option Y) (o : Option X) → ((x : X) → IfSome (f x) P) → IfSome (option_and_then f o) P
then-has P f None each = tt
then-has P f (Some x) each = each x

mapped : {X Y : Type 0} (P : X → Type 0) (Q : Y → Type 0) (f : X → Y) (o : Option X) → ((x : X) → P x → Q (f x)) → IfSome o P → IfSome (option_map f o) Q
mapped P Q f None each has = tt
mapped P Q f (Some x) each has = each x has

number-between : (least most : ℕ) (word : List ℕ) → IfSome (number_in least most word) (IsBetween least most)
number-between least most word =
    let n = number_after 0 word in
    some-if (IsBetween least most) (is_number word && (nat_le least n && nat_le n most)) n
    (λ all.
    let both = and_parts (nat_le least n) (nat_le n most) (and_parts (is_number word) (nat_le least n && nat_le n most) all).1 in
    (leb-true least n both.0, leb-true n most both.1))

given-between : (default least most : ℕ) (word : Option (List ℕ)) → IsBetween least most default
    → IfSome (given default (number_in least most) word) (IsBetween least most)
given-between default least most None has = has
given-between default least most (Some word) has = number-between least most word

workers-in : (b : List Binding) → IfSome (workers_given b) (IsBetween 1 most_workers)
workers-in b = given-between 1 1 most_workers (value_of (codes "workers") b) (omega arith, omega arith)

limits-from : (budget workers : Option ℕ) → IfSome budget (IsBetween 1 most_budget) → IfSome workers (IsBetween 1 most_workers)
    → IfSome (limits_from budget workers) IsLimits
limits-from (Some budget) (Some workers) g w = record {
  budget_low = omega (arith, g.0);
  budget_high = g.1;
  workers_in = record { workers_low = omega (arith, w.0); workers_high = w.1 };
}
limits-from _ _ g w = tt

limits-in : (b : List Binding) → IfSome (limits_given b) IsLimits
limits-in b =
    limits-from (budget_given b) (workers_given b)
    (given-between default_budget 1 most_budget (value_of (codes "budget") b) (omega arith, omega arith)) (workers-in b)

bound-in : (b : List Binding) → IfSome (bound_given b) (IsBetween 0 most_bound)
bound-in b = given-between 0 0 most_bound (value_of (codes "bound") b) (omega arith, omega arith)

settings_from-in_range : (method : Option Method) (start : Option Start) (bound : Option ℕ) (report : Bool) → IfSome bound (IsBetween 0 most_bound)
    → IfSome (settings_from method start bound report) IsSettings
settings_from-in_range (Some method) (Some start) (Some bound) report has = record { bound_high = has.1 }
settings_from-in_range _ _ _ report has = tt

settings_given-in_range : (b : List Binding) → IfSome (settings_given b) IsSettings
settings_given-in_range b = settings_from-in_range (method_given b) (start_given b) (bound_given b) (is_true (value_of (codes "report") b)) (bound-in b)

searching_in : (file : Option (List ℕ)) (query : Option Query) (limits : Option Limits) → IfSome query IsQuery → IfSome limits IsLimits
    → IfSome (searching_of file query limits) IsInRange
searching_in (Some file) (Some query) (Some limits) q l = record { query_in = q; limits_in = l }
searching_in _ _ _ q l = tt

two-in : (command : List ℕ → List ℕ → Command) (x y : Option (List ℕ)) → ((a b : List ℕ) → IsInRange (command a b))
    → IfSome (two_of command x y) IsInRange
two-in command (Some a) (Some b) each = each a b
two-in command _ _ each = tt

all-in : (o : Option Limits) (file properties : Option (List ℕ)) → IfSome o IsLimits
    → IfSome (option_and_then (λ limits. two_of (λ f p. checking_all f p limits) file properties) o) IsInRange
all-in None file properties has = tt
all-in (Some limits) file properties has = two-in (λ f p. checking_all f p limits) file properties (λ f p. has)

generate-in : (number workers : Option ℕ) → IfSome number (IsBetween 1 most_generated) → IfSome workers (IsBetween 1 most_workers)
    → IfSome (generate_of number workers) IsInRange
generate-in (Some number) (Some workers) n w = record {
  number_low = omega (arith, n.0);
  number_high = n.1;
  workers_in = record { workers_low = omega (arith, w.0); workers_high = w.1 };
}
generate-in _ _ n w = tt

show_in_range : (file : Option (List ℕ)) → IfSome (option_map show file) IsInRange
show_in_range (Some file) = tt
show_in_range None = tt

command-in : (name : Name) (b : List Binding) → IfSome (command_given name b) IsInRange
command-in names.Check b =
    searching_in (value_of (codes "FILE") b) _ (limits_given b) (mapped IsSettings IsQuery Check (settings_given b) (λ settings has. has) (settings_given-in_range b)) (limits-in b)
command-in names.Back b = searching_in (value_of (codes "FILE") b) (Some Back) (limits_given b) tt (limits-in b)
command-in names.Deadlock b = searching_in (value_of (codes "FILE") b) (Some Deadlock) (limits_given b) tt (limits-in b)
command-in names.Past b =
    searching_in (value_of (codes "FILE") b) _ (limits_given b) (mapped (IsBetween 0 most_bound) IsQuery Past (bound_given b) (λ bound has. has.1) (bound-in b))
    (limits-in b)
command-in names.CheckAll b = all-in (limits_given b) (value_of (codes "FILE") b) (value_of (codes "PROPS") b) (limits-in b)
command-in names.Verify b = two-in verify (value_of (codes "FILE") b) (value_of (codes "CERT") b) (λ _ _. tt)
command-in names.Migrate b = two-in migrate (value_of (codes "FILE") b) (value_of (codes "CERT") b) (λ _ _. tt)
command-in names.Show b = show_in_range (value_of (codes "FILE") b)
command-in names.Steps b = two-in steps (value_of (codes "FILE") b) (value_of (codes "CONFIGURATION") b) (λ _ _. tt)
command-in names.Generate b =
    generate-in _ (workers_given b) (then-has (IsBetween 1 most_generated) (number_in 1 most_generated) (value_of (codes "N") b) (number-between 1 most_generated))
    (workers-in b)

-- the words as a whole: where they are a command, its numbers are in range
pub commands_in_range : (words : List (List ℕ)) → IfSome (command_of words) IsInRange
commands_in_range [] = tt
commands_in_range (word ∷ words) = go (list_any is_empty (word ∷ words))
  where
    go : (test : Bool) → IfSome (cond test None (command_named word words)) IsInRange
    go true = tt
    go false =
        then-has IsInRange (command_after words) (form_named word)
        (λ form. then-has IsInRange (command_given form.name) (bindings form words) (command-in form.name))
