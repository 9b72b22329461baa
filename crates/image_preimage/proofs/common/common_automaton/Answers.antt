use Rattle.std.proofs.Common.{◌↔◌, ℕ, List}
use Rattle.std.proofs.lemmas.Result.{IfOk-weaker}
use Rattle.word_automata.specs.Nondeterministic.{Accepts}
use Rattle.boolean_operations.specs.CommonWords.{IsCommonWord}
use Rattle.sequence.proofs.ForCallers.{joined}
use Rattle.image_preimage.specs.Images.{IsImage}
use Rattle.image_preimage.proofs.ImageLemmas.{image_of_identity}
use Rattle.image_preimage.proofs.common.common_automaton.Goals as goal

pub returns-clause-language : goal.returns-clause-language
returns-clause-language c =
    let copying = c.in_ok-copying.copying in
    let a = c.args.a.now in
    let b = c.args.b.now in
    IfOk-weaker c.image_automaton.result (λ n. (w : List ℕ) → Accepts n w ↔ IsImage copying b w) (λ n. (w : List ℕ) → Accepts n w ↔ IsCommonWord a b w)
    (λ n same w. joined (same w) (image_of_identity copying a b c.in_ok-copying.ensures.identity w)) c.image_automaton.ensures.language
