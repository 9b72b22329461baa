use Rattle.std.proofs.Common.{◌+◌, ◌++◌, ◌∷◌, [], map, take, get_or, sym, ap, ◌∙◌}
use Rattle.std.proofs.lemmas.List.{append-nil, append_assoc, map_push, take_all, take_more}
use Rattle.memory_moves.specs.private.Machine.{pop_prefix, stack_prefix, writing}
use Rattle.memory_moves.proofs.stack_prefix.Goals as goal

pub pushed-init : goal.pushed-init
pushed-init c = c.in_ok-labels.ensures ∙ sym (append-nil (pop_prefix c.args.alphabet.offset c.args.pop))

pub pushed-preserved : goal.pushed-preserved
pushed-preserved c =
    let offset = c.args.alphabet.offset in
    let push = c.args.push.now in
    let i = c.pushed.letter-index in
    let front = pop_prefix offset c.args.pop in
    let labels = map (λ a. writing (a + offset)) (take i push) in
    c.in_ok-push.ensures.items
    ∙ (λ j. c.pushed.invariant j ++ c.writing.ensures j ∷ [])
    ∙ append_assoc front labels (writing (get_or push i 0 + offset) ∷ [])
    ∙ ap (λ xs. front ++ xs) (sym (map_push (λ a. writing (a + offset)) (take i push) (get_or push i 0)))
    ∙ ap (stack_prefix offset c.args.pop) (sym (take_more push i 0 c.pushed-test.true))

pub returns : goal.returns
returns c =
    c.pushed.invariant ∙ ap (stack_prefix c.args.alphabet.offset c.args.pop) (take_all c.pushed.letter-index c.args.push.now c.pushed-test.false)
