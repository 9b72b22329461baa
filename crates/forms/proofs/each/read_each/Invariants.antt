use Rattle.std.proofs.Common.{length}
use Rattle.forms.specs.Symbol.{source_of}
use Rattle.forms.specs.Grammar.{each}
use Rattle.forms.specs.Reading.{read}
use Rattle.forms.proofs.EachLaws.{Left}
use Rattle.forms.proofs.each.read_each.Given as goal

abbrev pub invariant-values : goal.invariant-values
invariant-values g l =
    let s = source_of l.source.text.now l.source.tokens.now in
    let f = g.X.FormOf.grammar l.form in
    Left s f l.left l.found.items l.at (read s (each f l.fn.values) l.fn.at)

abbrev pub decreases-values : goal.decreases-values
decreases-values g l = length l.left
