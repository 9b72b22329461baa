use Rattle.std.proofs.Common.{◌≡◌, map, take}
use Rattle.serde_json.specs.View.{view}
use Rattle.search_report.specs.Report.{round_object}
use Rattle.search_report.proofs.writing.rounds_value.Given as goal

abbrev pub invariant-rounds : goal.invariant-rounds
invariant-rounds l = map view l.values.items ≡ map round_object (take l.round-index l.rounds)
