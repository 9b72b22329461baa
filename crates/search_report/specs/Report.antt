-- The text of the report of a search: an object of JSON in its compact form, in one line.
use Rattle.std.specs.Prelude.{ℕ, List, [], ◌∷◌, ◌++◌, ◌-◌, Option, None, Some, codes, length, map, slice_get}
use Rattle.serde_json.specs.Data.{Data, unsigned, number, string, array, object, no_members, member}
use Rattle.serde_json.specs.View.{items_of}
use Rattle.serde_json.specs.Written.{compact_text}
use Rattle.search_history.specs.declared.log.LogEnd.{LogEnd}
use Rattle.search_history.specs.declared.log.LogEnd.TheVariants.{Closed, Refuted, Real, Spent}
use Rattle.search_history.specs.declared.log.RoundLog.{RoundLog}
use Rattle.search_history.specs.declared.log.Log.{Log}
use Rattle.command_words.specs.declared.Method.{Method}
use Rattle.command_words.specs.declared.Method.TheVariants.{Predicates, Length}

abbrev pub method_name : Method → List ℕ
method_name Predicates = codes "predicates"
method_name Length = codes "length"

abbrev pub end_name : LogEnd → List ℕ
end_name Closed = codes "closed"
end_name Refuted = codes "refuted"
end_name Real = codes "real"
end_name Spent = codes "spent"

-- the verdict of a search whose last round ends so; a search does not end with a refuted round, and one that did would have decided nothing
abbrev pub end_verdict : LogEnd → List ℕ
end_verdict Closed = codes "safe"
end_verdict Refuted = codes "unknown"
end_verdict Real = codes "unsafe"
end_verdict Spent = codes "unknown"

-- the verdict of a search with this last round, if it has one
abbrev pub verdict_of : Option RoundLog → List ℕ
verdict_of None = codes "unknown"
verdict_of (Some round) = end_verdict round.end

-- an array of numbers
abbrev pub sizes_array : List ℕ → Data
sizes_array sizes = array (items_of (map (λ size. number (unsigned size)) sizes))

-- a round: how it ended, the index of its last counted automaton, and the sizes of its merged automata, of those before merging, and
-- of the sets of its replay, each in counting order
abbrev pub round_object : RoundLog → Data
round_object round =
    object (member (codes "end") (string (end_name round.end))
    (member (codes "level") (number (unsigned round.level))
    (member (codes "m") (sizes_array round.m)
    (member (codes "n") (sizes_array round.n)
    (member (codes "x") (sizes_array round.x) no_members)))))

abbrev pub rounds_array : List RoundLog → Data
rounds_array rounds = array (items_of (map round_object rounds))

-- a search: the budget, the sum of all sizes, the method, the rounds in their order, and the verdict
abbrev pub report_object : Method → Log → Data
report_object method log =
    object (member (codes "budget") (number (unsigned log.budget))
    (member (codes "counted") (number (unsigned log.counted))
    (member (codes "method") (string (method_name method))
    (member (codes "rounds") (rounds_array log.rounds)
    (member (codes "verdict") (string (verdict_of (slice_get log.rounds (length log.rounds - 1)))) no_members)))))

-- the report, with a line feed at its end
abbrev pub report_text : Method → Log → List ℕ
report_text method log = compact_text (report_object method log) ++ 10 ∷ []
