use Rattle.std.proofs.Common.{refl, rules, subst, sym}
use Rattle.command_words.specs.Parsing.{Gives}
use Rattle.command_words.specs.Words.{command_given, migrate, searching_given, steps, verify}
use Rattle.command_words.proofs.Given.{gives-mapped}
use Rattle.command_words.proofs.commands.command_in.Goals as goal

pub returns-in-Check : goal.returns-in-Check
returns-in-Check c bound has =
    subst (λ name. Gives c.search_in.result (command_given name bound)) (sym c.in-Check.is)
    (subst (λ query. Gives c.search_in.result (searching_given bound query)) (c.check_query_in.ensures bound has)
    (c.search_in.ensures bound has))

pub returns-in-Back : goal.returns-in-Back
returns-in-Back c bound has =
    subst (λ name. Gives c.search_in-in-Back.result (command_given name bound)) (sym c.in-Back.is) (c.search_in-in-Back.ensures bound has)

pub returns-in-Deadlock : goal.returns-in-Deadlock
returns-in-Deadlock c bound has =
    subst (λ name. Gives c.search_in-in-Deadlock.result (command_given name bound)) (sym c.in-Deadlock.is)
    (c.search_in-in-Deadlock.ensures bound has)

pub returns-in-Past : goal.returns-in-Past
returns-in-Past c bound has =
    subst (λ name. Gives c.search_in-in-Past.result (command_given name bound)) (sym c.in-Past.is)
    (subst (λ query. Gives c.search_in-in-Past.result (searching_given bound query)) (c.past_query_in.ensures bound has)
    (c.search_in-in-Past.ensures bound has))

pub returns-in-Verify : goal.returns-in-Verify
returns-in-Verify c bound has =
    subst (λ name. Gives c.map.result (command_given name bound)) (sym c.in-Verify.is)
    (gives-mapped _ _ (λ words. verify words.0.now words.1.now) _ _ c.map.ensures.cases (λ words value made. search rules)
    (c.two_in.ensures bound has refl verify))

pub returns-in-Migrate : goal.returns-in-Migrate
returns-in-Migrate c bound has =
    subst (λ name. Gives c.map-in-Migrate.result (command_given name bound)) (sym c.in-Migrate.is)
    (gives-mapped _ _ (λ words. migrate words.0.now words.1.now) _ _ c.map-in-Migrate.ensures.cases (λ words value made. search rules)
    (c.two_in-in-Migrate.ensures bound has refl migrate))

pub returns-in-Steps : goal.returns-in-Steps
returns-in-Steps c bound has =
    subst (λ name. Gives c.map-in-Steps.result (command_given name bound)) (sym c.in-Steps.is)
    (gives-mapped _ _ (λ words. steps words.0.now words.1.now) _ _ c.map-in-Steps.ensures.cases (λ words value made. search rules)
    (c.two_in-in-Steps.ensures bound has refl steps))
