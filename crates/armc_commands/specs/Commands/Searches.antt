-- What each query searches.
use Rattle.std.specs.Prelude.{ℕ}
use Rattle.command_words.specs.declared.Method.{Method}
use Rattle.command_words.specs.declared.Method.TheVariants.{Predicates, Length}
use Rattle.command_words.specs.declared.Query.{Query}
use Rattle.command_words.specs.declared.Query.TheVariants.{Check, Back, Deadlock, Past}
use Rattle.command_words.specs.declared.Start.{Start}
use Rattle.command_words.specs.declared.Start.TheVariants.{Bad, Nothing}
use Rattle.command_words.specs.declared.Settings.{Settings}
use Rattle.protocol_search.specs.Methods.{predicate_search}
use Rattle.protocol_search.specs.declared.first.FirstAbstraction.{FirstAbstraction}
use Rattle.protocol_search.specs.declared.first.FirstAbstraction.TheVariants.{TargetPredicates, NoPredicates, Lengths, Pasts}
use Rattle.protocol_search.specs.declared.search.Analysis.TheVariants.{Forward, Backward, Stuck}
use Rattle.protocol_search.specs.declared.search.Search.{Search}

-- the first predicates: those of the bad words, or none
abbrev pub first_predicates : Start → FirstAbstraction
first_predicates Bad = TargetPredicates
first_predicates Nothing = NoPredicates

-- what states are merged by in the first round, by the method; the start matters to predicates alone, and the bound to words alone
abbrev pub first_by : Method → Start → ℕ → FirstAbstraction
first_by Predicates start bound = first_predicates start
first_by Length start bound = Lengths bound

abbrev pub first_abstraction : Settings → FirstAbstraction
first_abstraction settings = first_by settings.method settings.start settings.bound

-- what a query searches within the budget
abbrev pub search_for : Query → ℕ → Search
search_for (Check settings) budget = record { analysis = Forward; first = first_abstraction settings; budget = budget }
search_for Back budget = predicate_search Backward budget
search_for Deadlock budget = predicate_search Stuck budget
search_for (Past bound) budget = record { analysis = Forward; first = Pasts bound; budget = budget }
