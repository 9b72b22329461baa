use Rattle.std.proofs.Common.{◌≡◌, ◌<◌, ◌+◌, ◌++◌, ◌∷◌, ◌∙◌, [], ℕ, length, get_or, min, sym, ap, subst, rules}
use Rattle.std.proofs.lemmas.List.{length_push}
use Rattle.std.proofs.lemmas.Slice.Zip.{zip_turn, zip_end}
use Rattle.refinement.specs.declared.verdict.Verdict.{Verdict}
use Rattle.protocol_properties.specs.declared.properties.Property.{Property}
use Rattle.armc_commands.proofs.CheckAllLemmas.{Completes, completes-all, completes-next, verdict-at}
use Rattle.armc_commands.proofs.commands.checkall.told_parts.Goals as goal

pub told_part-requires-clause-verdict : goal.told_part-requires-clause-verdict
told_part-requires-clause-verdict c =
    let ps = c.args.properties.now in
    let vs = c.args.verdicts.now in
    let n : ℕ = length c.parts.yielded in
    let turn : (n < length ps) × (n < length vs) × ((d : Property) → c.in-Some.property.now ≡ get_or ps n d) × ((d : Verdict) → c.in-Some.verdict.now ≡ get_or vs n d) =
    zip_turn ps vs c.parts.yielded c.into_iter-property-iterator.result c.parts.property-iterator c.next.new.self c.next.result (search rules) (search rules)
    c.parts.yielded_by (c.in-Some.property, c.in-Some.verdict) c.in-Some.is c.next.ensures.steps in
    verdict-at c.args.budget ps vs n c.in-Some.property.now c.in-Some.verdict.now c.requires.verdicts turn.0 turn.1 (turn.2 _) (turn.3 _)

pub parts-preserved : goal.parts-preserved
parts-preserved c =
    let ps = c.args.properties.now in
    let vs = c.args.verdicts.now in
    let n : ℕ = length c.parts.yielded in
    let turn : (n < length ps) × (n < length vs) × ((d : Property) → c.in-Some.property.now ≡ get_or ps n d) × ((d : Verdict) → c.in-Some.verdict.now ≡ get_or vs n d) =
    zip_turn ps vs c.parts.yielded c.into_iter-property-iterator.result c.parts.property-iterator c.next.new.self c.next.result (search rules) (search rules)
    c.parts.yielded_by (c.in-Some.property, c.in-Some.verdict) c.in-Some.is c.next.ensures.steps in
    let more : length (c.parts.yielded ++ (c.in-Some.property, c.in-Some.verdict) ∷ []) ≡ n + 1 = length_push c.parts.yielded (c.in-Some.property, c.in-Some.verdict) in
    subst (λ k. Completes c.args.budget ps vs k c.extend_from_slice.new.self.items) (sym more)
    (completes-next c.args.budget ps vs n c.parts.text.items c.in-Some.property.now c.in-Some.verdict.now c.in_ok-part.part.items
    c.extend_from_slice.new.self.items turn.0 turn.1 (turn.2 _) (turn.3 _) c.parts.invariant c.in_ok-part.ensures
    (c.in_ok-extend_from_slice.ensures.items ∙ ap (λ xs. c.parts.text.items ++ xs) c.as_slice.ensures.value))

pub returns : goal.returns
returns c =
    let ps = c.args.properties.now in
    let vs = c.args.verdicts.now in
    let n : ℕ = length c.parts.yielded in
    let end : n ≡ min (length ps) (length vs) =
    zip_end ps vs c.parts.yielded c.into_iter-property-iterator.result c.parts.property-iterator c.next.new.self c.next.result (search rules) (search rules)
    c.parts.yielded_by c.in-None.is c.next.ensures.steps in
    completes-all c.args.budget ps vs n c.parts.text.items c.requires.verdicts end c.parts.invariant
