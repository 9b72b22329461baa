-- Places in a text.
use Rattle.std.specs.Prelude.{ℕ, ◌+◌, ◌==◌, List, [], ◌∷◌, if◌then◌else◌}
use Rattle.protocol_lexer.specs.declared.Place.{Place}

-- the place of the first byte of a text
abbrev pub start_place : Place
start_place = record { line = 1; column = 1 }

-- the place after one byte: the start of the next line after a line feed, else one column on
abbrev pub place_after_byte : Place → ℕ → Place
place_after_byte place b =
    if b == 10 then record { line = place.line + 1; column = 1 } else record { line = place.line; column = place.column + 1 }

-- the place after some bytes
abbrev pub place_after : Place → List ℕ → Place
place_after place [] = place
place_after place (b ∷ bytes) = place_after (place_after_byte place b) bytes
