use Rattle.std.proofs.Common.{sym, ◌∙◌, true≢false, arith}
use Rattle.atoms.proofs.Growth.{accepting_none, accepting_skip, accepting_more, accepting_all}
use Rattle.atoms.proofs.search.accepting_places.Goals as goal

pub places-init : goal.places-init
places-init c = accepting_none c.args.automaton.now c.args.used.now c.in_ok-set.set c.in_ok-set.ensures.none c.in_ok-set.ensures.room

pub places-preserved-then-not-accepting : goal.places-preserved-then-not-accepting
places-preserved-then-not-accepting c =
    accepting_skip c.args.automaton.now c.args.used.now c.places.place c.places.set (λ accepts. true≢false (sym accepts.1 ∙ sym c.accepting.ensures ∙ c.if-not-accepting.true)) c.places.invariant

pub places-preserved : goal.places-preserved
places-preserved c =
    accepting_more c.args.automaton.now c.args.used.now c.places.place c.places.set c.insert.new.self (c.places-test.true, sym c.accepting.ensures ∙ c.if-not-accepting.false)
    c.insert.ensures.only c.insert.ensures.kept c.insert.ensures.added c.insert.ensures.room c.places.invariant

pub returns : goal.returns
returns c = accepting_all c.args.automaton.now c.args.used.now c.places.place c.places.set (let t = c.places-test.false in let e = c.places.auto.place-end in omega arith) c.places.invariant
