-- Lines of output.
use Rattle.std.specs.Prelude.{ℕ, List, [], ◌∷◌, ◌++◌}

-- the text with a line feed at its end
abbrev pub line : List ℕ → List ℕ
line text = text ++ 10 ∷ []
