use Rattle.std.proofs.Common.{◌∙◌, Option, None, Some, IfSome, sym, ap, subst, drop, map, string_bytes}
use Rattle.std.proofs.lemmas.Result.{IfOk-weaker}
use Rattle.command_words.specs.Parsing.{Gives}
use Rattle.command_words.specs.declared.Command.{Command as CommandWords}
use Rattle.command_words.specs.Words.{Command, IsInRange, command_named, said}
use Rattle.command_words.proofs.ForCallers.{commands_in_range}
use Rattle.command_words.proofs.Given.{empty_none, first_named}
use Rattle.command_words.proofs.command_of.Goals as goal

pub returns-then-has_empty_word-clause-command : goal.returns-then-has_empty_word-clause-command
returns-then-has_empty_word-clause-command c = empty_none c.args.words.now (sym c.has_empty_word.ensures ∙ c.if-has_empty_word.true)

pub returns-in-Some-clause-command : goal.returns-in-Some-clause-command
returns-in-Some-clause-command c =
    let words = c.args.words.now in
    let first = c.in-Some.ensures.item in
    let named =
    ap (λ name. command_named name (drop 1 (map string_bytes words))) c.as_str.ensures.value
    ∙ first_named words c.in-Some.name.now first.3.0 first.1 (sym c.has_empty_word.ensures ∙ c.if-has_empty_word.false) in
    IfOk-weaker c.command_called.result _ _ (λ found gives. subst (Gives found) named gives) c.command_called.ensures

-- the command that the program has is in range where the words mean one in range
in_range : (found : Option CommandWords) (command : Option Command) → Gives found command → IfSome command IsInRange
    → IfSome found (λ value. IsInRange (said value))
in_range None command gives has = tt
in_range (Some value) command gives has = subst (λ o. IfSome o IsInRange) gives has

pub returns-in-Some-clause-in_range : goal.returns-in-Some-clause-in_range
returns-in-Some-clause-in_range c =
    IfOk-weaker c.command_called.result _ _ (λ found gives. in_range found _ gives (commands_in_range (map string_bytes c.args.words.now)))
    (returns-in-Some-clause-command c)
