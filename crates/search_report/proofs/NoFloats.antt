-- A report has no float: its numbers are sizes.
use Rattle.std.proofs.Common.{◌≡◌, ℕ, List, [], ◌∷◌, false, refl}
use Rattle.serde_json.specs.Written.{has_float}
use Rattle.search_history.specs.declared.log.Log.{Log}
use Rattle.search_history.specs.declared.log.RoundLog.{RoundLog}
use Rattle.command_words.specs.declared.Method.{Method}
use Rattle.search_report.specs.Report.{sizes_array, round_object, rounds_array, report_object}

sizes_exact : (sizes : List ℕ) → has_float (sizes_array sizes) ≡ false
sizes_exact [] = refl
sizes_exact (size ∷ sizes) = sizes_exact sizes

round_exact : (round : RoundLog) → has_float (round_object round) ≡ false
round_exact round = rw (sizes_exact round.m, sizes_exact round.n, sizes_exact round.x) refl

rounds_exact : (rounds : List RoundLog) → has_float (rounds_array rounds) ≡ false
rounds_exact [] = refl
rounds_exact (round ∷ rounds) = rw (round_exact round, rounds_exact rounds) refl

pub report_exact : (method : Method) (log : Log) → has_float (report_object method log) ≡ false
report_exact method log = rw (rounds_exact log.rounds) refl
