use Rattle.std.proofs.Common.{◌∙◌}
use Rattle.std.proofs.lemmas.Result.{IfOk-weaker}
use Rattle.boolean_operations.proofs.Complements.{complement_language}
use Rattle.boolean_operations.proofs.complementation.complement.Goals as goal

pub returns-clause-language : goal.returns-clause-language
returns-clause-language c =
    IfOk-weaker c.explore.result _ _ (λ built told w. told w ∙ complement_language c.args.a.now w) c.explore.ensures.language
