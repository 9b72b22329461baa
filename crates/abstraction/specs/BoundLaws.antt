-- Laws of keys that are bounds.
use Rattle.std.specs.Prelude.{◌≡◌, ◌≤◌, ◌+◌, ℕ, Bool, true, false, nat_lt, if◌then◌else◌}
use Rattle.std.proofs.Common.{arith}
use Rattle.word_automata.specs.Automaton.{Automaton}
use Rattle.abstraction.specs.Merging.{Key, IsOver}
use Rattle.abstraction.specs.Bounds.{last_bound, next_bound, next_key}

grows : (bound : ℕ) (below : Bool) → bound ≤ (if below then bound + 1 else bound)
grows bound true = omega arith
grows bound false = omega arith

-- a bound does not become less
pub bound_grows : (bound : ℕ) → bound ≤ next_bound bound
bound_grows bound = grows bound (nat_lt bound last_bound)

pub next_key-over : (k : Key) (x : Automaton) (letters : ℕ) → IsOver letters k → x.letters ≡ letters → IsOver letters (next_key k x)
next_key-over k x letters over same = over
