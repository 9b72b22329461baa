use Rattle.std.proofs.Common.{◌≡◌, drop, map}
use Rattle.std.specs.Prelude.{fold}
use Rattle.clap.specs.Simple.{app_of, with_rule}
use Rattle.command_words.specs.Parsing.{rule_for}
use Rattle.command_words.proofs.parsers.with_names.Given as goal

-- the names that are left bring the command to what it is to be
abbrev pub invariant-loop-name : goal.invariant-loop-name
invariant-loop-name l =
    fold with_rule (app_of l.parser) (map (rule_for l.role) (map (λ name. name.now) (drop l.name-index l.names)))
    ≡ fold with_rule (app_of l.initial.parser) (map (rule_for l.role) (map (λ name. name.now) l.names))
