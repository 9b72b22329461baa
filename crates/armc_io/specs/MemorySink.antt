-- What a sink in memory holds, and what its next call does.
use Rattle.std.specs.Prelude.{ℕ, ◌-◌, nat_le, min, List, ◌++◌, length, take, find, Bool, ◌&&◌, ◌==◌, if◌then◌else◌}
use Rattle.std.specs.Prelude.{Option, Some, None, is_none}
use Rattle.std.specs.Option.{option_map, option_map_or}
use Rattle.armc_io.specs.Faults.{next_count}
use Rattle.armc_io.specs.Sink.{SinkState}

-- the capacity, the calls that fail with the number of bytes that each takes, the calls and faults so far, and the bytes written
pub record SinkContents : Type 0 where
  pub capacity : ℕ
  pub failing : List (ℕ × ℕ)
  pub calls : ℕ
  pub faults : ℕ
  pub written : List ℕ

-- the room that is left
abbrev pub room : SinkContents → ℕ
room now = now.capacity - length now.written

-- how many bytes the next call takes at most, where it is one that fails: of two pairs for a call the first counts
abbrev pub failing_next : SinkContents → Option ℕ
failing_next now = option_map (λ pair. pair.1) (find (λ pair. pair.0 == now.calls) now.failing)

-- how many bytes the next call takes at most
abbrev pub most_next : SinkContents → ℕ
most_next now = option_map_or (λ n. min n (room now)) (failing_next now) (room now)

-- the next call takes the whole piece
abbrev pub takes_whole : SinkContents → List ℕ → Bool
takes_whole now bytes = is_none (failing_next now) && nat_le (length bytes) (room now)

-- after the next call
abbrev pub after_put : SinkContents → List ℕ → SinkContents
after_put now bytes = record now {
  calls = next_count now.calls;
  faults = (if takes_whole now bytes then now.faults else next_count now.faults);
  written = now.written ++ take (most_next now) bytes;
}

-- the bytes are told, and where no call is to fail, the room is guaranteed
abbrev pub sink_state : SinkContents → SinkState
sink_state now = record {
  written = Some now.written;
  guaranteed_room = (if length now.failing == 0 then Some (room now) else None);
  faults = now.faults;
}
