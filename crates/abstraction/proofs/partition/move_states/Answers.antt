use Rattle.std.proofs.Common.{◌≡◌, ◌<◌, ◌⊎◌, ℕ, length, get_or, refl, sym, subst, ◌∙◌, arith}
use Rattle.std.proofs.lemmas.List.{get_or_default, take_all}
use Rattle.abstraction.specs.Partitions.{IsKnownMove, IsNewMove}
use Rattle.abstraction.proofs.Blocks.{HasMoved, moved_before, moved_more, moved_all}
use Rattle.abstraction.proofs.partition.move_states.Goals as goal
use Rattle.abstraction.proofs.partition.move_states.Goals.{then-block-first_new+in_ok-blocks, else-block-first_new}

pub states-preserved : goal.states-preserved
states-preserved c =
    let first_new = c.len-first_new.result in
    let old = c.args.blocks.now.items in
    let states = c.args.set.now in
    let blocks = c.states.blocks.items in
    let moved = c.states.moved.items in
    let i = c.states.state-index in
    let state = get_or states i 0 in
    let before = c.states.invariant in
    let within : i < length states = omega arith in
    let there : state < length old = c.requires.set i 0 within in
    let small : (p : ℕ) → p < length old → get_or old p 0 < first_new = λ p less. let s = c.requires.before.of_states p less in let e = c.len-first_new.ensures in omega arith in
    let block : get_or blocks state 0 ≡ c.index-block.result.now =
    get_or_default blocks state 0 c.index-block.result.now (let n = before.count in omega arith) ∙ sym c.index-block.ensures in
    elim c.if-block-first_new.branch [
      | then-block-first_new+in_ok-blocks w ↦
          let stays = w.if-block-first_new.true in
          let more = w.block_after.new.moved.items in
          let to = w.in_ok-blocks.field-0 in
          rw (w.blocks-is, w.moved-is)
          (moved_more first_new old blocks moved states i state within refl there small before more to (omega arith)
          (subst (λ b. IsKnownMove moved more b first_new to ⊎ IsNewMove moved more b first_new to) (sym block) w.in_ok-blocks.ensures.ok))
      | else-block-first_new w ↦
          let goes = w.if-block-first_new.false in
          rw (w.blocks-is, w.moved-is) (moved_before first_new old blocks moved states i state within refl there small before (omega arith))
    ]

pub returns-clause-refined : goal.returns-clause-refined
returns-clause-refined c =
    let first_new = c.len-first_new.result in
    let old = c.args.blocks.now.items in
    let blocks = c.states.blocks.items in
    let moved = c.states.moved.items in
    moved_all first_new old blocks moved c.args.set.now
    (λ p less. let s = c.requires.before.of_states p less in let e = c.len-first_new.ensures in omega arith)
    (subst (HasMoved first_new old blocks moved) (take_all c.states.state-index c.args.set.now (omega arith)) c.states.invariant)
