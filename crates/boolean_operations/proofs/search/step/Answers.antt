use Rattle.std.proofs.Common.{◌≡◌, ◌+◌, ◌++◌, ◌∷◌, [], IfSome, Some, suc, length, slice_get, refl, sym, subst, ◌∙◌, ap, arith}
use Rattle.boolean_operations.specs.private.Search.{Reached, Extends, IsIn}
use Rattle.boolean_operations.proofs.SearchSteps.{Found, found_new, found_old, extends-nothing, extends-trans, in_kept, kept_longer}
use Rattle.boolean_operations.proofs.search.step.Given.{Over}
use Rattle.boolean_operations.proofs.search.step.Goals.{In_ok-push-2, In_ok-close}
use Rattle.boolean_operations.proofs.search.step.Goals as goal

-- what is there when the state, its step and its group were added
found_at : (g : Over) (c : In_ok-push-2 g) → Found c.requires.reached c.args.from c.args.letter c.requires.within c.requires.bounded
    c.args.state c.requires.is_state c.requires.source c.add_step.new.steps.items c.in_ok-add_step.ensures c.push.new.self.states.items c.push-2.new.self.items
found_at g c =
    found_new c.requires.reached c.args.from c.args.letter c.requires.within c.requires.bounded
    c.args.state c.requires.is_state c.requires.source c.add_step.new.steps.items c.in_ok-add_step.ensures c.push.new.self.states.items c.push-2.new.self.items
    (c.in_ok-push.ensures ∙ ap (λ xs. xs ++ c.args.state ∷ []) c.look_up.ensures.same)
    (c.in_ok-push-2.ensures.items ∙ ap (λ n. c.args.groups.now.items ++ n ∷ []) (c.len.ensures ∙ c.add_step.new.steps.ok.0))

-- and when its edges without a letter were followed
closed_at : (g : Over) (c : In_ok-close g) → Extends c.push.new.self.states.items c.push-2.new.self.items c.add_step.new.steps.items
    c.close.new.found.states.items c.close.new.groups.items c.add_step.new.steps.items (length c.add_step.new.steps.items)
closed_at g c =
    subst (λ k. Extends c.push.new.self.states.items c.push-2.new.self.items k c.close.new.found.states.items c.close.new.groups.items k (length k)) c.deref.ensures.value
    c.in_ok-close.ensures.extends

pub close-requires-clause-before : goal.close-requires-clause-before
close-requires-clause-before g c =
    let t = g.T.Graph in
    let graph = c.args.graph.now in
    let found = c.args.found.now.states.items in
    let f = found_at g (goal.at.close-requires-clause-before g c).In_ok-push-2 in
    let closed : length found ≡ c.len-closed.result = sym (c.len-closed.ensures ∙ ap length c.look_up.ensures.same) in
    subst (λ k. Reached (t.is_state graph) (t.is_start graph) (t.edge graph) c.push.new.self.states.items c.push-2.new.self.items k c.len-closed.result) (sym c.deref.ensures.value)
    (subst (Reached (t.is_state graph) (t.is_start graph) (t.edge graph) c.push.new.self.states.items c.push-2.new.self.items c.add_step.new.steps.items) closed f.reached)

pub close-requires-clause-within : goal.close-requires-clause-within
close-requires-clause-within g c =
    let found = c.args.found.now.states.items in
    let f = found_at g (goal.at.close-requires-clause-within g c).In_ok-push-2 in
    let closed : length found ≡ c.len-closed.result = sym (c.len-closed.ensures ∙ ap length c.look_up.ensures.same) in
    omega (arith, kept_longer found c.push.new.self.states.items f.extends.found_kept, closed)

pub returns-clause-reached : goal.returns-clause-reached
returns-clause-reached g c =
    let t = g.T.Graph in
    let graph = c.args.graph.now in
    let found = c.close.new.found.states.items in
    subst (λ steps. Reached (t.is_state graph) (t.is_start graph) (t.edge graph) found c.close.new.groups.items steps (length found)) c.deref.ensures.value
    c.in_ok-close.ensures.reached

pub returns-clause-bounded : goal.returns-clause-bounded
returns-clause-bounded g c = (found_at g (goal.at.returns-clause-bounded g c).In_ok-push-2).bounded_still

pub returns-clause-extends : goal.returns-clause-extends
returns-clause-extends g c =
    let w = goal.at.returns-clause-extends g c in
    let f = found_at g w.In_ok-push-2 in
    subst (Extends c.args.found.now.states.items c.args.groups.now.items c.args.steps.now.items c.close.new.found.states.items c.close.new.groups.items c.add_step.new.steps.items)
    (let e : suc c.args.from ≡ c.args.from + 1 = omega arith in e) (extends-trans f.extends (closed_at g w.In_ok-close) f.above)

pub returns-clause-taken : goal.returns-clause-taken
returns-clause-taken g c =
    let w = goal.at.returns-clause-taken g c in
    let f = found_at g w.In_ok-push-2 in
    let group = length c.add_step.new.steps.items in
    (group, in_kept (closed_at g w.In_ok-close) c.args.state group f.there, f.not_after)

pub returns-then-holds-clause-reached : goal.returns-then-holds-clause-reached
returns-then-holds-clause-reached g c = c.requires.reached

pub returns-then-holds-clause-bounded : goal.returns-then-holds-clause-bounded
returns-then-holds-clause-bounded g c = c.requires.bounded

pub returns-then-holds-clause-extends : goal.returns-then-holds-clause-extends
returns-then-holds-clause-extends g c = extends-nothing

pub returns-then-holds-clause-taken : goal.returns-then-holds-clause-taken
returns-then-holds-clause-taken g c =
    found_old c.requires.reached c.args.from c.args.letter c.requires.within c.requires.bounded c.args.state c.requires.is_state c.requires.source c.args.last (c.if-holds.ensures refl)

pub returns-in-Some-clause-reached : goal.returns-in-Some-clause-reached
returns-in-Some-clause-reached g c =
    let t = g.T.Graph in
    let graph = c.args.graph.now in
    subst (λ found. Reached (t.is_state graph) (t.is_start graph) (t.edge graph) found c.args.groups.now.items c.args.steps.now.items (length found)) (sym c.look_up.ensures.same)
    c.requires.reached

pub returns-in-Some-clause-bounded : goal.returns-in-Some-clause-bounded
returns-in-Some-clause-bounded g c = c.requires.bounded

pub returns-in-Some-clause-extends : goal.returns-in-Some-clause-extends
returns-in-Some-clause-extends g c =
    let groups = c.args.groups.now.items in
    let steps = c.args.steps.now.items in
    subst (λ new. Extends c.args.found.now.states.items groups steps new groups steps (c.args.from + 1)) (sym c.look_up.ensures.same) extends-nothing

pub returns-in-Some-clause-taken : goal.returns-in-Some-clause-taken
returns-in-Some-clause-taken g c =
    let at = subst (λ o. IfSome o (λ place. slice_get c.args.found.now.states.items place ≡ Some c.args.state)) c.in-Some.is c.in_ok-place.ensures.place in
    let there = found_old c.requires.reached c.args.from c.args.letter c.requires.within c.requires.bounded c.args.state c.requires.is_state c.requires.source c.in-Some.place at in
    (there.0, subst (λ xs. IsIn xs c.args.groups.now.items c.args.state there.0) (sym c.look_up.ensures.same) there.1, there.2)
