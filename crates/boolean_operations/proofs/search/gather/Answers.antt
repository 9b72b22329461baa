use Rattle.std.proofs.Common.{◌≡◌, ◌<◌, ℕ, Some, length, slice_get, refl, subst, sym, ap, ◌∙◌, arith, get_or}
use Rattle.std.proofs.lemmas.Option.{slice_get_read, slice_get-get_or, slice_get_within, same_Some}
use Rattle.boolean_operations.specs.private.Search.{AreStepsUpTo}
use Rattle.boolean_operations.proofs.SearchCalls.{gathered_none, gathered_more, gathered_all}
use Rattle.boolean_operations.proofs.search.gather.Given.{Over}
use Rattle.boolean_operations.proofs.search.gather.Goals.{After-index-state}
use Rattle.boolean_operations.proofs.search.gather.Goals as goal

pub states-init : goal.states-init
states-init g c =
    let t = g.T.Graph in
    let graph = c.args.graph.now in
    subst (AreStepsUpTo (t.is_state graph) (t.edge graph) (t.goal graph) c.args.found.now.states.items c.args.groups.now c.args.group c.args.from c.args.from) (sym c.requires.none)
    (gathered_none c.requires.count c.requires.rising c.requires.begins)

-- the state at the place
found_at : (g : Over) (c : After-index-state g) → slice_get c.args.found.now.states.items c.states.place ≡ Some c.index-state.result.now
found_at g c =
    let found = c.args.found.now.states.items in
    slice_get_read found (length found) c.states.place c.index-state.result.now refl (omega (arith, c.states-test.true, c.requires.count)) c.index-state.ensures

group_at : (g : Over) (c : After-index-state g) → slice_get c.args.groups.now c.states.place ≡ Some c.args.group
group_at g c = slice_get-get_or c.args.groups.now c.states.place 0 (omega (arith, c.states-test.true)) ∙ ap (λ (n : ℕ). Some n) c.if-groups-place.true

pub states-preserved : goal.states-preserved
states-preserved g c =
    let w = (goal.at.states-preserved g c).After-index-state in
    gathered_more c.requires.count c.requires.rising c.requires.begins c.states.invariant c.add_steps.new.steps.items c.index-state.result.now
    (found_at g w) (group_at g w) (sym c.is_goal.ensures ∙ c.if-is_goal.false) c.in_ok-add_steps.ensures

pub is_goal-requires : goal.is_goal-requires
is_goal-requires g c = c.requires.states c.states.place c.index-state.result.now (found_at g (goal.at.is_goal-requires g c).After-index-state)

pub add_steps-requires : goal.add_steps-requires
add_steps-requires g c = c.requires.states c.states.place c.index-state.result.now (found_at g (goal.at.add_steps-requires g c).After-index-state)

pub returns-then-is_goal : goal.returns-then-is_goal
returns-then-is_goal g c =
    let w = (goal.at.returns-then-is_goal g c).After-index-state in
    (c.index-state.result.now, (c.states.place, found_at g w, group_at g w), sym c.is_goal.ensures ∙ c.if-is_goal.true)

pub returns-else-groups-place : goal.returns-else-groups-place
returns-else-groups-place g c =
    let groups = c.args.groups.now in
    let place = c.states.place in
    let within : place < length groups = omega (arith, c.states-test.true) in
    gathered_all c.requires.count c.requires.rising c.requires.begins c.states.invariant
    (λ h at same. let eq = same_Some h (get_or groups place 0) (sym at ∙ slice_get-get_or groups place 0 within) in c.if-groups-place.false (sym eq ∙ same))

pub returns-after-states : goal.returns-after-states
returns-after-states g c =
    gathered_all c.requires.count c.requires.rising c.requires.begins c.states.invariant
    (λ h at same. let within = slice_get_within c.args.groups.now c.states.place h at in absurd (omega (arith, within, c.states-test.false)))
