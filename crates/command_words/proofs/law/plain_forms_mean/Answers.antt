use Rattle.std.proofs.Common.{◌≡◌, ℕ, List, Option, Some, refl, ap, option_map}
use Rattle.command_words.specs.declared.Query.TheVariants.{Check, Past}
use Rattle.command_words.specs.PlainForms.{default_limits}
use Rattle.command_words.specs.Words.{default_budget, default_settings, limits_from, most_bound, most_budget, number_in, searching, searching_of}
use Rattle.command_words.proofs.law.plain_forms_mean.Goals as goal

budgeted : (file : List ℕ) (o : Option ℕ) (budget : ℕ) → o ≡ Some budget
    → searching_of (Some file) (Some (Check default_settings)) (limits_from o (Some 1))
    ≡ Some (searching file (Check default_settings) (record default_limits { budget = budget }))
budgeted file o budget e = ap (λ x. searching_of (Some file) (Some (Check default_settings)) (limits_from x (Some 1))) e

from_bound : (file : List ℕ) (o : Option ℕ) (bound : ℕ) → o ≡ Some bound
    → searching_of (Some file) (option_map Past o) (limits_from (Some default_budget) (Some 1)) ≡ Some (searching file (Past bound) default_limits)
from_bound file o bound e = ap (λ x. searching_of (Some file) (option_map Past x) (limits_from (Some default_budget) (Some 1))) e

pub returns : goal.returns
returns c = record {
  shown = λ file f. rw (f.is_full, f.is_plain) refl;
  checked = λ file f. rw (f.is_full, f.is_plain) refl;
  verified = λ file certificate f g. rw (f.is_full, g.is_full, f.is_plain) (rw g.is_plain refl);
  stepped = λ file configuration f g. rw (f.is_full, g.is_full, f.is_plain) (rw g.is_plain refl);
  migrated = λ file certificate f g. rw (f.is_full, g.is_full, f.is_plain) (rw g.is_plain refl);
  searched_back = λ file f. rw (f.is_full, f.is_plain) refl;
  searched_for_deadlocks = λ file f. rw (f.is_full, f.is_plain) refl;
  searched_by_pasts = λ file f. rw (f.is_full, f.is_plain) refl;
  past_bounded = λ file number bound f g e. rw (f.is_full, g.is_full, f.is_plain) (rw g.is_plain (from_bound file (number_in 0 most_bound number) bound e));
  checked_all = λ file properties f g. rw (f.is_full, g.is_full, f.is_plain) (rw g.is_plain refl);
  bounded = λ file number budget f g e. rw (f.is_full, g.is_full, f.is_plain) (rw g.is_plain (budgeted file (number_in 1 most_budget number) budget e));
}
