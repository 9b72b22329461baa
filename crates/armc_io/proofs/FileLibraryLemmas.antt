-- What a library of files answers meets what every library promises.
use Rattle.std.proofs.Common.{ℕ, ◌+◌, ◌≤◌, List, Result, Ok, Err, Vec, Global, ap, inl, arith}
use Rattle.armc_io.specs.Library.{ReadAnswers}
use Rattle.armc_io.specs.FileLibrary.{FileReads, file_state, ReadsFile}
use Rattle.armc_io.specs.declared.traits.ReadFail.{ReadFail}
use Rattle.armc_io.specs.declared.traits.ReadFail.TheVariants.{Failed, TooLong, Memory}
use Rattle.armc_io.proofs.FaultsLemmas.{le-next_count, Rose-next_count}

-- the count of faults never falls
pub ReadsFile-faults : (old new : FileReads) (name : List ℕ) (limit : ℕ) (r : Result (Vec ℕ Global) ReadFail)
    → ReadsFile old new name limit r → old.faults ≤ new.faults
ReadsFile-faults old new name limit (Ok bytes) h = rw h.1 (omega arith)
ReadsFile-faults old new name limit (Err Failed) h = rw h.2 (le-next_count old.faults)
ReadsFile-faults old new name limit (Err TooLong) h = rw h (omega arith)
ReadsFile-faults old new name limit (Err Memory) h = rw h (omega arith)

-- the answer says what every library's answer says
pub ReadsFile-answer : (old new : FileReads) (name : List ℕ) (limit : ℕ) (r : Result (Vec ℕ Global) ReadFail)
    → ReadsFile old new name limit r → ReadAnswers (file_state old) (file_state new) name limit r
ReadsFile-answer old new name limit (Ok bytes) h = record { whole = tt; within = h.0; last = ap (λ c. c.last) h.1 }
ReadsFile-answer old new name limit (Err Failed) h =
    record { rose = rw h.2 (Rose-next_count old.faults); last = (h.0, ap (λ c. c.last) h.2) }
ReadsFile-answer old new name limit (Err TooLong) h =
    record { longer = tt; last = (limit + 1, omega arith, ap (λ c. c.last) h) }
ReadsFile-answer old new name limit (Err Memory) h = inl (ap (λ c. c.last) h)
