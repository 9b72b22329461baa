use Rattle.std.proofs.Common.{◌≡◌, map, take}
use Rattle.serde_json.specs.Data.{number, unsigned}
use Rattle.serde_json.specs.View.{view}
use Rattle.search_report.proofs.writing.sizes_value.Given as goal

abbrev pub invariant-sizes : goal.invariant-sizes
invariant-sizes l = map view l.values.items ≡ map (λ size. number (unsigned size)) (take l.size-index l.sizes)
