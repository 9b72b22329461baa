-- What a hasher of numbers computes.
use Rattle.std.specs.Prelude.{ℕ, zero, suc, ◌+◌, ◌*◌, ◌/◌, ◌%◌, ◌^◌, List, [], ◌∷◌, length, slice_index}
use Rattle.std.specs.Int.{w64, from_le_bytes, rotate_left}
use Rattle.std.specs.List.{fold}
use Rattle.exploration.specs.declared.number_hasher.NumberHasher.{NumberHasher}

-- the eight bytes from the place on, the lowest first, as one number
abbrev pub word_at : List ℕ → ℕ → ℕ
word_at bytes at =
    from_le_bytes w64 (slice_index bytes at ∷ slice_index bytes (at + 1) ∷ slice_index bytes (at + 2) ∷ slice_index bytes (at + 3)
    ∷ slice_index bytes (at + 4) ∷ slice_index bytes (at + 5) ∷ slice_index bytes (at + 6) ∷ slice_index bytes (at + 7) ∷ [])

-- the number with one more word
abbrev pub mixed : ℕ → ℕ → ℕ
mixed number word = ((number + word) % 2 ^ 64 * 0xF135_7AEA_2E62_A9C5) % 2 ^ 64

-- the number with the first n words of the bytes
abbrev pub mixed_words : List ℕ → ℕ → ℕ → ℕ
mixed_words bytes number zero = number
mixed_words bytes number (suc n) = mixed (mixed_words bytes number n) (word_at bytes (8 * n))

-- the state after the bytes are written
abbrev pub write : NumberHasher → List ℕ → NumberHasher
write h bytes = record { number = mixed_words bytes h.number ((length bytes + 7) / 8) }

abbrev pub finish : NumberHasher → ℕ
finish h = rotate_left w64 h.number 26

-- the hash of a value, from the writes that it makes
abbrev pub hash_by : {S : Type 0} → (S → List (List ℕ)) → S → ℕ
hash_by F s = finish (fold write (record { number = 0 }) (F s))
