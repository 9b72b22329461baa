use Rattle.std.proofs.Common.{◌≡◌, ◌∷◌, [], ◌∙◌, ℕ, refl, sym, ap, subst, add-one, length, get_or, slice_get, Some, arith}
use Rattle.std.proofs.lemmas.List.{nil_from_length}
use Rattle.std.proofs.lemmas.Option.{slice_get_read}
use Rattle.std.specs.Vec.Iter.{into_iter_items}
use Rattle.exploration.specs.Residuals.{AreResiduals}
use Rattle.exploration.specs.private.Worklist.{Explored, Expands}
use Rattle.exploration.proofs.Steps.{next_valid, expanded, expanded_all, none_after, none_later, edge_in_range}
use Rattle.exploration.proofs.construction.expand.Given.{Over}
use Rattle.exploration.proofs.construction.expand.Goals.{After-index-as_slice-from, In-Some}
use Rattle.exploration.proofs.construction.expand.Goals as goal

-- the successor is the next one to be done
expands : (g : Over) (c : In-Some g) → Expands (g.T.LanguageSystem.letter_count c.args.system.now)
    (g.T.LanguageSystem.accepted c.args.system.now) (g.T.LanguageSystem.language c.args.system.now) (g.T.LanguageSystem.is_state c.args.system.now)
    c.successors.found c.successors.builder c.args.from c.successors.yielded ((c.in-Some.letter, c.in-Some.state) ∷ into_iter_items c.next.new.self)
expands g c =
    let system = c.args.system.now in
    let t = g.T.LanguageSystem in
    let loop = c.successors in
    let expands = Expands (t.letter_count system) (t.accepted system) (t.language system) (t.is_state system) in
    subst (expands loop.found loop.builder c.args.from loop.yielded) c.in-Some.ensures.steps.0 loop.invariant.2

-- the state that is gone through stands at its number
stands : (g : Over) (c : After-index-as_slice-from g) → slice_get c.args.found.now c.args.from ≡ Some c.index-as_slice-from.result
stands g c =
    let found = c.args.found.now in
    let from = c.args.from in
    let state = c.index-as_slice-from.result in
    slice_get_read found (length found) from state refl c.requires.there
    (c.index-as_slice-from.is ∙ ap (λ states. get_or states from state) c.as_slice.ensures)

pub successors-requires : goal.successors-requires
successors-requires g c =
    c.requires.before.states c.args.from c.index-as_slice-from.result (stands g (goal.at.successors-requires g c).After-index-as_slice-from)

pub successors-init : goal.successors-init
successors-init g c =
    let system = c.args.system.now in
    let t = g.T.LanguageSystem in (
      tt,
      tt,
      record {
        state = c.index-as_slice-from.result;
        at = stands g (goal.at.successors-init g c).After-index-as_slice-from;
        explored = c.requires.before;
        residuals = subst (AreResiduals (t.letter_count system) (t.language system) (t.is_state system) c.index-as_slice-from.result)
            (sym c.into_iter-letter-iterator.ensures.into_iter_gives.0) c.in_ok-successors.ensures;
      },
    )

pub number-requires : goal.number-requires
number-requires g c =
    let system = c.args.system.now in
    let t = g.T.LanguageSystem in
    let loop = c.successors in
    let next = c.in-Some in
    let e = expands g (goal.at.number-requires g c).In-Some in
    next_valid (t.letter_count system) (t.accepted system) (t.language system) (t.is_state system)
    loop.found loop.builder c.args.from loop.yielded (into_iter_items c.next.new.self) next.letter next.state e

pub add_edge-requires-clause-in_range : goal.add_edge-requires-clause-in_range
add_edge-requires-clause-in_range g c =
    let system = c.args.system.now in
    let t = g.T.LanguageSystem in
    let loop = c.successors in
    let next = c.in-Some in
    let e = expands g (goal.at.add_edge-requires-clause-in_range g c).In-Some in
    edge_in_range (t.letter_count system) (t.accepted system) (t.language system) (t.is_state system)
    loop.found loop.builder c.args.from loop.yielded (into_iter_items c.next.new.self) next.letter next.state e
    c.number.new.found c.number.new.builder c.in_ok-to.to c.in_ok-to.ensures

pub add_edge-requires-clause-absent : goal.add_edge-requires-clause-absent
add_edge-requires-clause-absent g c =
    let system = c.args.system.now in
    let t = g.T.LanguageSystem in
    let loop = c.successors in
    let next = c.in-Some in
    let e = expands g (goal.at.add_edge-requires-clause-absent g c).In-Some in
    none_after (t.letter_count system) (t.accepted system) (t.language system) (t.is_state system)
    loop.found loop.builder c.args.from loop.yielded (into_iter_items c.next.new.self) next.letter next.state e
    c.number.new.found c.number.new.builder c.in_ok-to.to c.in_ok-to.ensures

pub add_edge-requires-clause-last : goal.add_edge-requires-clause-last
add_edge-requires-clause-last g c =
    let system = c.args.system.now in
    let t = g.T.LanguageSystem in
    let loop = c.successors in
    let next = c.in-Some in
    let e = expands g (goal.at.add_edge-requires-clause-last g c).In-Some in
    none_later (t.letter_count system) (t.accepted system) (t.language system) (t.is_state system)
    loop.found loop.builder c.args.from loop.yielded (into_iter_items c.next.new.self) next.letter next.state e
    c.number.new.found c.number.new.builder c.in_ok-to.to c.in_ok-to.ensures

pub successors-preserved : goal.successors-preserved
successors-preserved g c =
    let system = c.args.system.now in
    let t = g.T.LanguageSystem in
    let loop = c.successors in
    let next = c.in-Some in
    let e = expands g (goal.at.successors-preserved g c).In-Some in
    let done = expanded (t.letter_count system) (t.accepted system) (t.language system) (t.is_state system)
    loop.found loop.builder c.args.from loop.yielded (into_iter_items c.next.new.self) next.letter next.state e
    c.number.new.found c.number.new.builder c.in_ok-to.to c.in_ok-to.ensures c.add_edge.new.self c.in_ok-add_edge.ensures.ok in
    (tt, tt, done)

pub returns : goal.returns
returns g c =
    let system = c.args.system.now in
    let t = g.T.LanguageSystem in
    let loop = c.successors in
    let from = c.args.from in
    let rest = into_iter_items loop.letter-iterator in
    let none : rest ≡ [] = nil_from_length rest (let l = loop.letter-iterator.rest.ok.0 in let z = c.in-None.ensures.steps.0 in omega arith) in
    let expands = Expands (t.letter_count system) (t.accepted system) (t.language system) (t.is_state system) in
    let explored = Explored (t.letter_count system) (t.accepted system) (t.language system) (t.is_state system) in
    subst (λ (n : ℕ). explored loop.found loop.builder n []) (sym (add-one from))
    (expanded_all (t.letter_count system) (t.accepted system) (t.language system) (t.is_state system) loop.found loop.builder from loop.yielded
    (subst (expands loop.found loop.builder from loop.yielded) none loop.invariant.2))
