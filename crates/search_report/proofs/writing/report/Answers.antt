use Rattle.std.proofs.Common.{◌++◌, ◌∷◌, ◌∙◌, ℕ, List, [], ap}
use Rattle.std.specs.Prelude.{Vec}
use Rattle.std.specs.declared.alloc.Global.{Global}
use Rattle.serde_json.specs.Written.{compact_text, has_float}
use Rattle.search_report.proofs.NoFloats.{report_exact}
use Rattle.search_report.proofs.writing.report.Goals as goal

pub returns : goal.returns
returns c =
    let exact = ap has_float c.in_ok-report.ensures ∙ report_exact c.args.method c.args.log.now in
    c.in_ok-push.ensures.items
    ∙ ap (λ (items : List ℕ). items ++ 10 ∷ [])
    (ap (λ (v : Vec ℕ Global). v.items) c.into_bytes-text.ensures.value ∙ c.in_ok-to_string.ensures.text exact ∙ ap compact_text c.in_ok-report.ensures)
