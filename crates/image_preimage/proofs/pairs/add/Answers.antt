use Rattle.std.proofs.Common.{◌≡◌, ◌&&◌, sym, ◌∙◌}
use Rattle.word_automata.specs.Path.{is_accepting}
use Rattle.image_preimage.proofs.PairLemmas.{and-true, and-false, Numbers-new}
use Rattle.image_preimage.proofs.pairs.add.Goals as goal
use Rattle.image_preimage.proofs.pairs.add.Goals.{then-is_accepting, else-is_accepting}

pub returns : goal.returns
returns c =
    let left = is_accepting c.args.t.now.states c.args.pair.left in
    let right = is_accepting c.args.a.now.states c.args.pair.right in
    let flag = c.if-is_accepting.accepting in
    let flag_is : flag ≡ (left && right) = elim c.if-is_accepting.branch [
      | then-is_accepting w ↦ and-true left right flag (sym c.is_accepting.ensures ∙ w.if-is_accepting.true)
          (w.accepting-is ∙ w.accepting-accepting.ensures)
      | else-is_accepting w ↦ and-false left right flag (sym c.is_accepting.ensures ∙ w.if-is_accepting.false)
          (w.accepting-is ∙ w.if-is_accepting.false)
    ] in
    Numbers-new c.args.t.now c.args.a.now c.args.found.now.states.items c.args.builder.now c.requires.reached c.args.pair flag
    c.push.new.self.states.items c.state.new.self c.in_ok-state.field-0 flag_is c.requires.in_range c.in_ok-push.ensures c.in_ok-state.ensures.ok
    c.in_ok-state.ensures.number
