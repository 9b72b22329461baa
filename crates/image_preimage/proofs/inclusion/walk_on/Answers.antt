use Rattle.std.proofs.Common.{◌≡◌, ◌≤◌, ◌<◌, ◌++◌, ◌+◌, ◌-◌, ◌∷◌, ◌^◌, [], Some, slice_get, length, length-append, refl, sym, ap, ◌∙◌, subst, arith, true≢false}
use Rattle.std.proofs.lemmas.Option.{slice_get-get_or}
use Rattle.image_preimage.specs.private.Triples.{AddsPlaces}
use Rattle.image_preimage.proofs.CopyingLemmas.{identities}
use Rattle.image_preimage.proofs.TripleLemmas.{leads_out_here}
use Rattle.image_preimage.proofs.WalkLemmas.{Grows-longer, Walks-more, walk_inside, outside_refutes, popped_none, popped_place, smaller}
use Rattle.image_preimage.proofs.inclusion.walk_on.Goals.{In-Some, After-index}
use Rattle.image_preimage.proofs.inclusion.walk_on.Goals as goal

pub triples-init : goal.triples-init
triples-init c = (c.requires.walks, λ e. absurd (true≢false (sym e)))

popped_at : (c : In-Some) → (c.triples.pending.items ≡ c.pop.new.self.items ++ c.in-Some.place ∷ []) × (c.in-Some.place < length c.triples.found.states.items)
popped_at c = popped_place c.pop.new.self.items c.triples.invariant.0 c.pop.ensures.items c.in-Some.is

-- the triple that is gone on from
triple_at : (c : After-index) → c.in-Some.place < length c.triples.found.states.items → slice_get c.triples.found.states.items c.in-Some.place ≡ Some c.index.result.now
triple_at c within = slice_get-get_or c.triples.found.states.items c.in-Some.place c.index.result.now within ∙ ap Some (sym c.index.ensures)

pub index-requires : goal.index-requires
index-requires c = omega (arith, (popped_at (goal.at.index-requires c).In-Some).1, c.triples.found.states.ok)

pub visit-requires-clause-there : goal.visit-requires-clause-there
visit-requires-clause-there c = let w = goal.at.visit-requires-clause-there c in triple_at w.After-index (popped_at w.In-Some).1

pub returns-then-is_goal : goal.returns-then-is_goal
returns-then-is_goal c =
    let triples = c.args.triples.now in
    let w = goal.at.returns-then-is_goal c in
    let out = leads_out_here triples.t.now triples.a.now triples.b.now c.index.result.now (sym c.is_goal.ensures ∙ c.if-is_goal.true) in
    let outside = c.triples.invariant.0.reached c.in-Some.place c.index.result.now (triple_at w.After-index (popped_at w.In-Some).1) out in
    record {
      included_is = (λ e. absurd (true≢false (sym e)), λ included. absurd (outside_refutes triples.t.now triples.a.now triples.b.now outside included));
      outside = λ e. outside;
    }

pub push_places-requires : goal.push_places-requires
push_places-requires c =
    let longer = Grows-longer c.triples.found.states.items c.visit.new.found.states.items c.in_ok-visit.ensures.grows in
    omega (arith, longer, c.len-before.ensures, c.len.ensures)

pub triples-smaller : goal.triples-smaller
triples-smaller c =
    let old = c.triples.found.states.items in
    let new = c.visit.new.found.states.items in
    let rest = c.pop.new.self.items in
    let pending = c.push_places.new.pending.items in
    let popped = popped_at (goal.at.triples-smaller c).In-Some in
    let waiting : length c.triples.pending.items ≡ length rest + 1 = ap length popped.0 ∙ length-append rest (c.in-Some.place ∷ []) in
    let small : length new ≤ 2 ^ 64 = omega (arith, c.len.ensures) in
    let adds : length pending ≡ length rest + (length new - length old) =
    subst (λ n. length pending ≡ length rest + (length new - n)) c.len-before.ensures
    (subst (λ n. length pending ≡ length rest + (n - c.len-before.result)) c.len.ensures c.in_ok-push_places.ensures.count) in
    smaller (length old) (length new) (length c.triples.pending.items) (length rest) (length pending) (2 ^ 64) waiting
    (Grows-longer old new c.in_ok-visit.ensures.grows) small adds

pub triples-preserved : goal.triples-preserved
triples-preserved c =
    let new = c.visit.new.found.states.items in
    let rest = c.pop.new.self.items in
    let pending = c.push_places.new.pending.items in
    let w = goal.at.triples-preserved c in
    let popped = popped_at w.In-Some in
    let adds : AddsPlaces rest pending (length c.triples.found.states.items) (length new) =
    subst (λ n. AddsPlaces rest pending n (length new)) c.len-before.ensures
    (subst (AddsPlaces rest pending c.len-before.result) c.len.ensures c.in_ok-push_places.ensures) in (
      Walks-more c.in-Some.place c.index.result.now c.triples.invariant.0 popped.0 (triple_at w.After-index popped.1)
          (sym c.is_goal.ensures ∙ c.if-is_goal.false) c.in_ok-visit.ensures adds,
      λ e. sym c.requires.first ∙ c.are_known_same-are_same.ensures e ∙ c.requires.second,
    )

pub returns : goal.returns
returns c =
    let triples = c.args.triples.now in
    let old = c.triples.pending.items in
    let none : old ≡ [] = popped_none old c.pop.new.self.items c.pop.result c.triples.pending.len c.pop.ensures.variant (omega (arith, c.triples.pending.ok))
    c.in_default.not-Some in
    record {
      included_is = (λ e. walk_inside c.triples.invariant.0 none (identities triples.t.now triples.copying.now c.requires.copying), λ included. refl);
      outside = λ e. absurd (true≢false e);
    }
