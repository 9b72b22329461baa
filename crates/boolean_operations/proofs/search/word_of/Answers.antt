use Rattle.std.proofs.Common.{◌≡◌, ◌-◌, ◌<◌, ◌++◌, ◌∷◌, suc, [], Some, get_or, length, reverse, slice_get, sym, ap, subst, ◌∙◌, arith}
use Rattle.std.proofs.lemmas.List.{append_assoc, append-nil, reverse-reverse}
use Rattle.std.proofs.lemmas.Option.{slice_get-get_or}
use Rattle.boolean_operations.specs.private.Search.{Spells}
use Rattle.boolean_operations.proofs.search.word_of.Goals as goal

pub back-smaller : goal.back-smaller
back-smaller c =
    let steps = c.args.steps.now in
    let k = c.back.at - 1 in
    let back = c.requires.are_steps.back k (get_or steps k (0, 0)) (slice_get-get_or steps k (0, 0) (omega (arith, c.back.invariant.within, c.back-test.true))) in
    omega (arith, back, c.back-test.true)

pub back-preserved : goal.back-preserved
back-preserved c =
    let steps = c.args.steps.now in
    let k = c.back.at - 1 in
    let within : k < length steps = omega (arith, c.back.invariant.within, c.back-test.true) in
    let e = get_or steps k (0, 0) in
    let there : slice_get steps k ≡ Some e = slice_get-get_or steps k (0, 0) within in
    let back = c.requires.are_steps.back k e there in
    let is : suc k ≡ c.back.at = omega (arith, c.back-test.true) in
    record {
      within = omega (arith, back, within);
      rest = λ u spells.
          subst (λ w. Spells steps w c.args.group) (sym (append_assoc c.back.word.items (e.1 ∷ []) u) ∙ ap (λ w. w ++ u) (sym c.in_ok-push.ensures.items))
          (c.back.invariant.rest (e.1 ∷ u) (subst (Spells steps (e.1 ∷ u)) is (e.0, there, spells)));
    }

pub returns : goal.returns
returns c =
    let steps = c.args.steps.now in
    let zero_is : c.back.at ≡ 0 = omega (arith, c.back-test.false) in
    subst (λ w. Spells steps w c.args.group) (append-nil c.back.word.items ∙ sym (reverse-reverse c.back.word.items) ∙ ap reverse (sym c.reverse.ensures.items)) (c.back.invariant.rest [] zero_is)
