-- What was written behind what was written before.
use Rattle.std.specs.Prelude.{◌≡◌, ℕ, List, ◌++◌}
use Rattle.std.specs.List.{flat_map}
use Rattle.protocol_syntax.specs.Spacing.{Word, spaced}
use Rattle.protocol_layout.specs.Layout.{line}

-- the words were written behind what was written before
abbrev pub Adds : List ℕ → List ℕ → List Word → Type 0
Adds old new words = new ≡ old ++ flat_map spaced words

-- a line of these words was written
abbrev pub AddsLine : List ℕ → List ℕ → List Word → Type 0
AddsLine old new words = new ≡ old ++ line words

-- lines of these words were written
abbrev pub AddsLines : List ℕ → List ℕ → List (List Word) → Type 0
AddsLines old new lines = new ≡ old ++ flat_map line lines
