-- What a sink in memory does meets what every sink promises.
use Rattle.std.proofs.Common.{◌≡◌, ◌-◌, ◌≤◌, ◌==◌, ℕ, Bool, true, false, List, [], ◌∷◌, ◌++◌, length, length-append, take, take_all, find}
use Rattle.std.proofs.Common.{Some, None, Result, Ok, Err, IsTrue, IfSome, is_ok, cond, refl, sym, ap, subst, arith}
use Rattle.std.proofs.lemmas.Grind.{common_steps}
use Rattle.armc_io.specs.Faults.{Rose, next_count}
use Rattle.armc_io.specs.Sink.{PutAnswers, FitsWithoutFault}
use Rattle.armc_io.specs.MemorySink.{SinkContents, room, most_next, takes_whole, after_put, sink_state}
use Rattle.armc_io.proofs.FaultsLemmas.{le-next_count, Rose-next_count}

-- where the next call takes the whole piece, all of it is appended
pub written-takes_whole : (now : SinkContents) (bytes : List ℕ) → takes_whole now bytes ≡ true
    → take (most_next now) bytes ≡ bytes
written-takes_whole now bytes h = grind (arith, common_steps, take_all)

-- the count of faults never falls
pub after_put-faults : (now : SinkContents) (bytes : List ℕ) → now.faults ≤ (after_put now bytes).faults
after_put-faults now bytes =
    elim (takes_whole now bytes) as (λ b. now.faults ≤ cond b now.faults (next_count now.faults))
    [ true ↦ omega arith | false ↦ le-next_count now.faults ]

-- the answer says what every sink's answer says
pub after_put-answer : {T E : Type 0} (now : SinkContents) (bytes : List ℕ) (r : Result T E) → is_ok r ≡ takes_whole now bytes
    → PutAnswers (sink_state now) (sink_state (after_put now bytes)) bytes r
after_put-answer now bytes (Ok _) e = ap (λ t. now.written ++ t) (written-takes_whole now bytes (sym e))
after_put-answer now bytes (Err _) e = record {
  rose = subst (λ b. Rose now.faults (cond b now.faults (next_count now.faults))) e (Rose-next_count now.faults);
  prefix = (most_next now, refl);
}

-- a list of no length has no element that passes a test
pub find-empty : {X : Type 0} (test : X → Bool) (xs : List X) → IsTrue (length xs == 0) → find test xs ≡ None
find-empty test [] h = refl
find-empty test (x ∷ xs) h = grind arith

-- with no call that is to fail, a piece for which there is room is taken whole
pub takes_whole-fits : (now : SinkContents) (bytes : List ℕ) → IsTrue (length now.failing == 0) → length bytes ≤ room now
    → takes_whole now bytes ≡ true
takes_whole-fits now bytes empty fits =
    let none = find-empty (λ pair. pair.0 == now.calls) now.failing empty in grind (arith, none)

-- and it uses up its length of the room
pub room-after_put : (now : SinkContents) (bytes : List ℕ) → takes_whole now bytes ≡ true
    → room (after_put now bytes) ≡ room now - length bytes
room-after_put now bytes h =
    let all = written-takes_whole now bytes h in
    rw (all, length-append) (omega arith)

-- with no call that is to fail, the room is guaranteed
pub after_put-no_fault : (now : SinkContents) (bytes : List ℕ)
    → FitsWithoutFault (sink_state now) (sink_state (after_put now bytes)) bytes
after_put-no_fault now bytes =
    let new = after_put now bytes in
    let to : ℕ → Bool → Type 0 = λ n b. (new.faults ≡ now.faults) × (cond b (Some (room new)) None ≡ Some (n - length bytes)) in
    let P : Bool → Type 0 = λ b. IfSome (cond b (Some (room now)) None) (λ n. length bytes ≤ n → to n b) in
    elim (length now.failing == 0) as (λ b. (length now.failing == 0) ≡ b → P b) [
      | true ↦ λ h fits.
          let whole = takes_whole-fits now bytes h fits in
          (ap (λ b. cond b now.faults (next_count now.faults)) whole, ap (λ n. Some n) (room-after_put now bytes whole))
      | false ↦ λ h. tt
    ] refl
