-- From what `clap` answers to what the words bind, and from its matches to values.
use Rattle.std.proofs.Common.{◌≡◌, ◌∙◌, ℕ, Bool, true, false, List, [], ◌∷◌, map, drop, Option, Some, None, MatchOption, option_map, codes, string_bytes, String, refl, sym, ap, subst, length, ◌<◌, arith, if◌then◌else◌}
use Rattle.clap.specs.Faults.{fault_of}
use Rattle.clap.specs.Matches.{found_of}
use Rattle.clap.specs.Simple.{App, app_of, matches_of}
use Rattle.clap.specs.Walk.{rows_of}
use Rattle.clap.specs.declared.builder.command.Command.{Command as Parser}
use Rattle.clap.specs.declared.parser.matches.ArgMatches.{ArgMatches}
use Rattle.clap.proofs.WalkLemmas.{first_value-rows, list_any-map}
use Rattle.std.specs.List.{list_any, slice_index_or}
use Rattle.std.specs.Prelude.{IsSomeAnd}
use Rattle.command_words.specs.declared.Command.{Command as CommandWords}
use Rattle.command_words.specs.Parsing.{Fails, Gives, GivesValues, IsParsed, parser_of}
use Rattle.command_words.specs.Words.{Binding, Command, CommandForm, bindings, command_named, command_of, form_named, is_among, is_empty, is_true, said, value_of}
use Rattle.command_words.proofs.FormMatches.{HasBindings, first_or_default, formed, later_have_heads, own_flag, refused_is, taken_is}

plain_value : (form : CommandForm) (name : List ℕ) (o : Option (List ℕ)) → is_among name form.flags ≡ false → first_or_default form name o ≡ o
plain_value form name (Some value) plain = refl
plain_value form name None plain = rw plain refl

true_or_default : (form : CommandForm) (name : List ℕ) (o : Option (List ℕ)) → is_true (first_or_default form name o) ≡ is_true o
true_or_default form name (Some value) = refl
true_or_default form name None = go (is_among name form.flags)
  where
    go : (b : Bool) → is_true (if b then Some (codes "false") else None) ≡ false
    go true = refl
    go false = refl

gives_values : (word : List ℕ) (form : CommandForm) (bound : List Binding) (m : ArgMatches) → form_named word ≡ Some form
    → HasBindings form bound (rows_of (found_of m)) → GivesValues bound m
gives_values word form bound m is has = record {
  values = λ name plain.
      first_value-rows (found_of m) name ∙ has name ∙ plain_value form name (value_of name bound) (own_flag word form name is plain);
  flags = λ name. ap is_true (first_value-rows (found_of m) name ∙ has name) ∙ true_or_default form name (value_of name bound);
}

-- the matches of a parser of a form have what the words bind
pub from_matches : {Z : Type 0} (word : List ℕ) (form : CommandForm) (p : Parser) (words : List (String Z)) (found : Option ArgMatches)
    → app_of p ≡ parser_of form → form_named word ≡ Some form
    → MatchOption found (Fails (fault_of (app_of p) (map string_bytes words)))
    (λ m. (fault_of (app_of p) (map string_bytes words) ≡ []) × (rows_of (found_of m) ≡ matches_of (app_of p) (map string_bytes words)))
    → MatchOption found (bindings form (drop 1 (map string_bytes words)) ≡ None) (IsParsed form (drop 1 (map string_bytes words)))
from_matches word form p words None is named fails =
    refused_is form (map string_bytes words) (formed word form named) (later_have_heads words)
    (subst (λ a. Fails (fault_of a (map string_bytes words))) is fails)
from_matches word form p words (Some m) is named given =
    let taken = taken_is form (map string_bytes words) (formed word form named) (later_have_heads words)
    (ap (λ (a : App). fault_of a (map string_bytes words)) (sym is) ∙ given.0) in
    record {
      bound = taken.0;
      says = taken.1;
      has =
          gives_values word form taken.0 m named
          (subst (HasBindings form taken.0) (sym (given.1 ∙ ap (λ (a : App). matches_of a (map string_bytes words)) is)) taken.2);
    }

pub gives_none : (found : Option CommandWords) (command : Option Command) → found ≡ None → command ≡ None → Gives found command
gives_none found command none is = subst (λ o. Gives o command) (sym none) is

-- what is made of a value that is there
pub gives-mapped : {T : Type 0} (found : Option T) (made : Option CommandWords) (of : T → Command) (post : T → CommandWords → Type 0) (command : Option Command)
    → MatchOption found (made ≡ None) (λ x. IsSomeAnd made (post x)) → ((x : T) (value : CommandWords) → post x value → of x ≡ said value)
    → option_map of found ≡ command → Gives made command
gives-mapped None made of post command cases means is = gives_none made command cases (sym is)
gives-mapped (Some x) None of post command cases means is = absurd cases
gives-mapped (Some x) (Some value) of post command cases means is = sym is ∙ ap Some (means x value cases)

-- the words as a whole: one is empty, there is none, and the first of them names the command
pub empty_none : {Z : Type 0} (words : List (String Z)) → list_any (λ word. is_empty (string_bytes word)) words ≡ true → command_of (map string_bytes words) ≡ None
empty_none [] some = refl
empty_none (w ∷ ws) some =
    ap (λ b. if b then None else command_named (string_bytes w) (map string_bytes ws)) (sym (list_any-map is_empty string_bytes (w ∷ ws)) ∙ some)

pub first_named : {Z : Type 0} (words : List (String Z)) (name : String Z) → 0 < length words → name ≡ slice_index_or words 0 name
    → list_any (λ word. is_empty (string_bytes word)) words ≡ false → command_named (string_bytes name) (drop 1 (map string_bytes words)) ≡ command_of (map string_bytes words)
first_named [] name some is full = absurd (omega arith)
first_named (w ∷ ws) name some is full =
    ap (λ x. command_named (string_bytes x) (map string_bytes ws)) is
    ∙ sym (ap (λ b. if b then None else command_named (string_bytes w) (map string_bytes ws)) (sym (list_any-map is_empty string_bytes (w ∷ ws)) ∙ full))
