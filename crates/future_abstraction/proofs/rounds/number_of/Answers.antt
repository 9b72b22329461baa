use Rattle.std.proofs.Common.{◌∙◌, nat_eq, sym}
use Rattle.std.specs.HashMap.{get}
use Rattle.future_abstraction.proofs.Numbering.{kept_numbered}
use Rattle.future_abstraction.proofs.rounds.number_of.Goals as goal

pub returns-then-is_kept : goal.returns-then-is_kept
returns-then-is_kept c =
    let noted = sym c.is_kept.ensures ∙ c.if-is_kept.true in
    kept_numbered c.args.automaton.now c.args.classes.now c.args.kept.now (get nat_eq c.args.firsts.now) c.args.state
    (c.requires.kept c.args.state c.requires.state noted) noted
