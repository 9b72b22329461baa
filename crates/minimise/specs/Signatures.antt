-- What a round of refinement compares states by.
use Rattle.std.specs.Prelude.{◌&&◌, ◌+◌, ◌*◌, ◌%◌, ◌^◌, ℕ, Bool, List, nat_eq, if◌then◌else◌}
use Rattle.std.specs.List.{fold}
use Rattle.std.specs.Bool.{beq}
use Rattle.std.specs.Cmp.Lexicographic.{pointwise}

-- a class, whether the state accepts, and for each letter that leads to a class other than 0 that class
pub record Signature : Type 0 where
  pub class : ℕ
  pub accepting : Bool
  pub edges : List (ℕ × ℕ)

-- whether two signatures are equal
abbrev pub same_edge : ℕ × ℕ → ℕ × ℕ → Bool
same_edge e f = nat_eq e.0 f.0 && nat_eq e.1 f.1

abbrev pub same_signature : Signature → Signature → Bool
same_signature s t = nat_eq s.class t.class && (beq s.accepting t.accepting && pointwise same_edge s.edges t.edges)

-- a number of 64 bits that few other signatures have, as a table of hashes needs it: a polynomial whose coefficients are the parts
abbrev pub mixed : ℕ → ℕ → ℕ
mixed value part = ((value * 11400714819323198485) % 2 ^ 64 + part) % 2 ^ 64

abbrev pub mixed_edge : ℕ → ℕ × ℕ → ℕ
mixed_edge value edge = mixed (mixed value edge.0) edge.1

abbrev pub digest : Signature → ℕ
digest s = fold mixed_edge (mixed s.class (if s.accepting then 1 else 0)) s.edges
