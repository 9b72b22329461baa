use Rattle.std.proofs.Common.{[], sym, subst}
use Rattle.exploration.specs.Residuals.{StartsWith}
use Rattle.exploration.specs.private.Worklist.{Explored}
use Rattle.exploration.proofs.Steps.{begun_numbered, begun_without}
use Rattle.exploration.proofs.construction.begin.Goals as goal

pub returns-in_ok-number-in-Some : goal.returns-in_ok-number-in-Some
returns-in_ok-number-in-Some g c =
    let system = c.args.system.now in
    let t = g.T.LanguageSystem in
    begun_numbered (t.letter_count system) (t.accepted system) (t.language system) (t.is_state system) c.args.found.now c.number.new.found
    c.args.builder.now c.number.new.builder c.in-Some.start c.in_ok-number-in-Some.field-0 c.requires.none c.requires.empty
    (subst (StartsWith (t.accepted system) (t.language system)) c.in-Some.is c.in_ok-start.ensures.start) (rw c.in-Some.is at c.in_ok-start.ensures.state) c.in_ok-number-in-Some.ensures

pub returns-in-None : goal.returns-in-None
returns-in-None g c =
    let system = c.args.system.now in
    let t = g.T.LanguageSystem in
    subst (λ ks. Explored (t.letter_count system) (t.accepted system) (t.language system) (t.is_state system) ks c.args.builder.now 0 []) (sym c.requires.none)
    (subst (λ m. Explored (t.letter_count system) (t.accepted system) (t.language system) (t.is_state system) [] m 0 []) (sym c.requires.empty)
    (begun_without (t.letter_count system) (t.accepted system) (t.language system) (t.is_state system)
    (subst (StartsWith (t.accepted system) (t.language system)) c.in-None.is c.in_ok-start.ensures.start)))
