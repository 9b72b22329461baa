use Rattle.std.proofs.Common.{◌≡◌, ◌+◌, ◌<◌, ◌++◌, ◌∷◌, [], false, None, length, take, get_or, sym, ap, ◌∙◌, arith}
use Rattle.std.proofs.lemmas.List.{take_all, take_more, length-take-le}
use Rattle.word_automata.specs.Path.{Node}
use Rattle.transducers.specs.declared.Label.{Label}
use Rattle.memory_moves.specs.private.Machine.{chain}
use Rattle.memory_moves.proofs.MachineLemmas.{chain-push}
use Rattle.memory_moves.proofs.machine.chain.Goals as goal

pub labels-preserved : goal.labels-preserved
labels-preserved c =
    let labels = c.args.labels.now in
    let i = c.labels.i in
    let lt : i < length labels = omega arith in
    let unread : Label = record { read = None; write = None } in
    let front = length-take-le i labels (omega arith) in
    let next : i + 1 ≡ 0 + length (take i labels) + 1 = omega (arith, front) in
    let node = c.new.ensures ∙ ap (λ edges. let node : Node Label = record { accepting = false; edges = edges } in node) c.in_ok-edges.ensures.items in
    rw (take_more labels i unread lt)
    (c.in_ok-push.ensures.items ∙ (λ j. c.labels.invariant j ++ node j ∷ [])
    ∙ sym (chain-push 0 (take i labels) (get_or labels i unread) (i + 1) next))

pub returns : goal.returns
returns c = c.labels.invariant ∙ ap (chain 0) (take_all c.labels.i c.args.labels.now (omega arith))
