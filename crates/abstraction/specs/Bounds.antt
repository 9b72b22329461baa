-- Keys that are bounds on the lengths of words.
use Rattle.std.specs.Prelude.{◌+◌, ℕ, [], nat_lt, if◌then◌else◌}
use Rattle.word_automata.specs.Automaton.{Automaton}
use Rattle.abstraction.specs.Merging.{Key}

-- the key of this bound
abbrev pub up_to : ℕ → Key
up_to bound = record { automata = []; bound = bound }

-- the greatest bound
abbrev pub last_bound : ℕ
last_bound = 18446744073709551615

-- one more; the greatest stays
abbrev pub next_bound : ℕ → ℕ
next_bound bound = if nat_lt bound last_bound then bound + 1 else bound

-- the next bound, whatever set was refuted
abbrev pub next_key : Key → Automaton → Key
next_key key x = record { automata = key.automata; bound = next_bound key.bound }
