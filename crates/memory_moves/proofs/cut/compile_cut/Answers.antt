use Rattle.std.proofs.Common.{◌≡◌, ◌↔◌, ◌∷◌, [], ◌∙◌, sym, subst}
use Rattle.transducers.specs.Transducer.{IsValid, Relates}
use Rattle.protocol_model.specs.Moves.{IsLoss}
use Rattle.protocol_model.specs.Raised.{IsRaisedMove}
use Rattle.memory_moves.proofs.CutLemmas.{cutting, IsValid-cutting, Relates-cutting}
use Rattle.memory_moves.proofs.cut.compile_cut.Goals as goal
use Rattle.memory_moves.proofs.cut.compile_cut.Goals.{After-from_states}

is_cutting : (c : After-from_states) → c.from_states.result
    ≡ cutting c.args.alphabet.letters c.args.set.now c.args.alphabet.offset c.args.alphabet.count
is_cutting c = c.from_states.ensures ∙ (λ i. record {
  letters = c.args.alphabet.letters;
  starts = c.in_ok-starts.ensures.items i;
  states = c.in_ok-states.ensures i;
})

pub from_states-requires : goal.from_states-requires
from_states-requires c =
    subst (λ starts. IsValid (record { letters = c.args.alphabet.letters; starts = starts; states = c.in_ok-states.states.items }))
    (sym c.in_ok-starts.ensures.items)
    (subst (λ states. IsValid (record { letters = c.args.alphabet.letters; starts = 0 ∷ []; states = states })) (sym c.in_ok-states.ensures)
    (IsValid-cutting c.args.alphabet.letters c.args.set.now c.args.alphabet.offset c.args.alphabet.count c.requires.fits c.requires.valid))

pub returns-clause-relates : goal.returns-clause-relates
returns-clause-relates c u w =
    subst (λ t. Relates t u w ↔ IsRaisedMove (IsLoss c.args.set.now) c.args.alphabet.offset c.args.alphabet.count u w) (sym (is_cutting c))
    (Relates-cutting c.args.alphabet.letters c.args.set.now c.args.alphabet.offset c.args.alphabet.count c.requires.valid u w)
