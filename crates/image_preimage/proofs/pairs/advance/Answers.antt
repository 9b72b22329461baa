use Rattle.std.proofs.Common.{ap, ◌∙◌}
use Rattle.word_automata.specs.Automaton.{find_target}
use Rattle.image_preimage.proofs.GraphLemmas.{leads_within}
use Rattle.image_preimage.proofs.pairs.advance.Goals as goal

pub returns-in-Some-clause-in_range : goal.returns-in-Some-clause-in_range
returns-in-Some-clause-in_range c =
    leads_within c.args.a.now c.requires.automaton c.args.state c.in-Some.letter c.target.result
    (c.target.ensures.value ∙ ap (λ es. find_target es c.in-Some.letter) c.requires.edges)
