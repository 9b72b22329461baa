use Rattle.std.proofs.Common.{length, ◌-◌}
use Rattle.forms.specs.Symbol.{source_of}
use Rattle.forms.specs.Grammar.{many_by}
use Rattle.forms.specs.Reading.{begins, read}
use Rattle.forms.proofs.Loops.{Onward}
use Rattle.forms.proofs.repeated.read_many.Given as goal

abbrev pub invariant-items : goal.invariant-items
invariant-items g l =
    let s = source_of l.source.text.now l.source.tokens.now in
    let x = g.I.Items.next l.items in
    Onward s (λ before. begins (x before) s) (λ before. read s (x before)) l.found.items l.at (read s (many_by x) l.fn.at)

abbrev pub decreases-items : goal.decreases-items
decreases-items g l = length l.source.tokens.now - length l.found.items
