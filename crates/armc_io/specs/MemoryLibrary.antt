-- What a library in memory holds, and what its next read answers.
use Rattle.std.specs.Prelude.{◌≡◌, ℕ, ◌+◌, nat_lt, List, length, map, find, Bool, true, false, ◌==◌, if◌then◌else◌}
use Rattle.std.specs.Prelude.{Option, Some, None, option_map, Result, Ok, Err, Vec, String, bytes_eq, string_bytes}
use Rattle.std.specs.List.{list_any}
use Rattle.std.specs.declared.alloc.Global.{Global}
use Rattle.armc_io.specs.Faults.{next_count}
use Rattle.armc_io.specs.Library.{ReadCall, LibraryState}
use Rattle.armc_io.specs.declared.traits.ReadFail.{ReadFail}
use Rattle.armc_io.specs.declared.traits.ReadFail.TheVariants.{Failed, TooLong, Memory}

-- the texts with their names, the numbers of the calls that fail, the calls and the faults so far, and the last call
pub record LibraryContents : Type 0 where
  pub texts : List (List ℕ × List ℕ)
  pub failing : List ℕ
  pub calls : ℕ
  pub faults : ℕ
  pub last : Option ReadCall

-- the bytes of each name and text
abbrev pub named_bytes : List (String Global × Vec ℕ Global) → List (List ℕ × List ℕ)
named_bytes texts = map (λ t. (string_bytes t.0, t.1.items)) texts

-- the text of a name: of a name given twice the first
abbrev pub text_of : List (List ℕ × List ℕ) → List ℕ → Option (List ℕ)
text_of texts name = option_map (λ t. t.1) (find (λ t. bytes_eq t.0 name) texts)

-- the next call is one of those that fail
abbrev pub fails_next : LibraryContents → Bool
fails_next now = list_any (λ k. k == now.calls) now.failing

-- what a text answers to a read with a limit
abbrev pub limited : Option (List ℕ) → ℕ → Result (List ℕ) ReadFail
limited None limit = Err Failed
limited (Some text) limit = if nat_lt limit (length text) then Err TooLong else Ok text

-- what the next read answers, where there is memory
abbrev pub answer_of : LibraryContents → List ℕ → ℕ → Result (List ℕ) ReadFail
answer_of now name limit = if fails_next now then Err Failed else limited (text_of now.texts name) limit

-- after a read that took so many bytes and was no failure
abbrev pub after_read : LibraryContents → List ℕ → ℕ → LibraryContents
after_read now name taken =
    record now { calls = next_count now.calls; last = Some (record { name = name; has_failed = false; taken = taken }) }

-- after a read that failed
abbrev pub after_failure : LibraryContents → List ℕ → LibraryContents
after_failure now name =
    record now {
      calls = next_count now.calls;
      faults = next_count now.faults;
      last = Some (record { name = name; has_failed = true; taken = 0 });
    }

-- the read answers what the contents say, and is counted; where memory runs out nothing changes
abbrev pub ReadsContents : LibraryContents → LibraryContents → List ℕ → ℕ → Result (Vec ℕ Global) ReadFail → Type 0
ReadsContents old new name limit (Ok bytes) =
    (answer_of old name limit ≡ Ok bytes.items) × (new ≡ after_read old name (length bytes.items))
ReadsContents old new name limit (Err Failed) = (answer_of old name limit ≡ Err Failed) × (new ≡ after_failure old name)
ReadsContents old new name limit (Err TooLong) =
    (answer_of old name limit ≡ Err TooLong) × (new ≡ after_read old name (limit + 1))
ReadsContents old new name limit (Err Memory) = new ≡ old

-- the texts are told, and where no call is to fail, no read of a told name does
abbrev pub library_state : LibraryContents → LibraryState
library_state now = record {
  told = text_of now.texts;
  is_reliable = length now.failing == 0;
  faults = now.faults;
  last = now.last;
}
