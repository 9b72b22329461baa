use Rattle.std.proofs.Common.{◌∙◌}
use Rattle.std.proofs.lemmas.Result.{IfOk-weaker}
use Rattle.boolean_operations.specs.declared.products.Operation.TheVariants.{Union}
use Rattle.boolean_operations.proofs.ProductLanguages.{product_language}
use Rattle.boolean_operations.proofs.products.union.Goals as goal

pub returns-clause-language : goal.returns-clause-language
returns-clause-language c =
    IfOk-weaker c.explore.result _ _ (λ built told w. told w ∙ product_language Union c.args.a.now c.args.b.now w) c.explore.ensures.language
