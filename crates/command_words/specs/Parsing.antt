-- Only private functions cite this file: the command of `clap` for a form, what its parse gives, and what its matches are read as.
use Rattle.std.specs.Prelude.{◌≡◌, ◌++◌, ℕ, false, true, List, [], ◌∷◌, map, codes, Option, Some, None, MatchOption}
use Rattle.std.specs.Borrow.{Bor}
use Rattle.clap.specs.Kinds.{Kinds}
use Rattle.clap.specs.Simple.{App, new_rule, new_shape}
use Rattle.clap.specs.Walk.{Rule}
use Rattle.clap.specs.declared.builder.action.ArgAction.TheVariants.{Set, SetTrue}
use Rattle.clap.specs.declared.parser.matches.ArgMatches.{ArgMatches}
use Rattle.clap.specs.Matches.{found_of, first_value}
use Rattle.command_words.specs.declared.Command.{Command as CommandWords}
use Rattle.command_words.specs.declared.forms.Name.{Name}
use Rattle.command_words.specs.declared.parsers.Role.{Role}
use Rattle.command_words.specs.declared.parsers.Role.TheVariants.{Valued, Flag, Positional}
use Rattle.command_words.specs.Words.{Binding, Command, CommandForm, bindings, is_flag, is_true, said, value_of}

-- the form that a value of the program stands for
abbrev pub form_as_words : Name × Bor (List ℕ) × Bor (List (Bor (List ℕ))) × Bor (List (Bor (List ℕ))) × Bor (List (Bor (List ℕ))) → CommandForm
form_as_words form = record {
  name = form.0;
  word = form.1.now;
  valued = map (λ name. name.now) form.2.now;
  flags = map (λ name. name.now) form.3.now;
  positionals = map (λ name. name.now) form.4.now;
}

abbrev pub valued_rule : List ℕ → Rule
valued_rule name = record (new_rule name) { long = Some name; action = Some Set }

abbrev pub flag_rule : List ℕ → Rule
flag_rule name = record (new_rule name) { long = Some name; action = Some SetTrue }

abbrev pub positional_rule : List ℕ → Rule
positional_rule name = record (new_rule name) { action = Some Set }

abbrev pub rule_for : Role → List ℕ → Rule
rule_for Valued name = valued_rule name
rule_for Flag name = flag_rule name
rule_for Positional name = positional_rule name

-- the command of this form, without help; its name is never shown
abbrev pub parser_of : CommandForm → App
parser_of form = record {
  top = record (new_shape (codes "armc")) {
    rules = map valued_rule form.valued ++ (map flag_rule form.flags ++ map positional_rule form.positionals);
    disable_help_flag = true;
  };
  subs = [];
}

-- the list of faults is not empty
abbrev pub Fails : Kinds → Type 0
Fails [] = ⊥
Fails (kind ∷ kinds) = Unit {0}

-- the matches of `clap` have the value of each name that is no option without a value, and say of each name whether its value is `true`
pub record GivesValues (bound : List Binding) (matches : ArgMatches) : Type 0 where
  pub values : (name : List ℕ) → is_flag name ≡ false → first_value (found_of matches) name ≡ value_of name bound
  pub flags : (name : List ℕ) → is_true (first_value (found_of matches) name) ≡ is_true (value_of name bound)

-- the words bind these names, and the matches have them
pub record IsParsed (form : CommandForm) (words : List (List ℕ)) (matches : ArgMatches) : Type 0 where
  pub bound : List Binding
  pub says : bindings form words ≡ Some bound
  pub has : GivesValues bound matches

-- the value of the program stands for this command, or there is none
abbrev pub Gives : Option CommandWords → Option Command → Type 0
Gives found command = MatchOption found (command ≡ None) (λ (value : CommandWords). command ≡ Some (said value))
