-- Sets of states beside their signatures.
use Rattle.std.specs.Prelude.{◌≡◌, ℕ, List, [], ◌∷◌}
use Rattle.atoms.specs.Covers.{IsSignature}

-- place by place the lists have the same letters, with a set in the first and its signature in the second
abbrev pub AreSigned : List (List ℕ) → List (ℕ × List ℕ) → List (ℕ × List ℕ) → Type 0
AreSigned rows [] [] = Unit {0}
AreSigned rows [] (other ∷ others) = ⊥
AreSigned rows (pair ∷ pairs) [] = ⊥
AreSigned rows (pair ∷ pairs) (other ∷ others) = (pair.0 ≡ other.0) × IsSignature rows pair.1 other.1 × AreSigned rows pairs others
