-- The tokens of words that stand on lines.
use Rattle.std.proofs.Common.{ℕ, List, [], ◌∷◌, ◌++◌, refl, append_assoc}
use Rattle.std.specs.List.{flat_map, AllByRecursion}
use Rattle.protocol_lexer.specs.declared.Token.{Token}
use Rattle.protocol_lexer.specs.Place.{start_place}
use Rattle.protocol_lexer.specs.Tokens.{AreTokens}
use Rattle.protocol_syntax.specs.Spacing.{spaced}
use Rattle.protocol_syntax.proofs.ForCallers.{EndsWord, IsToken, AreWords, Lexed, Lexed-nothing, Lexed-gap, Lexed-token, Ends-words}
use Rattle.protocol_syntax.proofs.ForCallers.{Lexed-words}
use Rattle.protocol_layout.specs.Layout.{line}

Lexed-line : (ws : List (List ℕ)) (after : List ℕ) (more : List (List ℕ)) → AllByRecursion IsToken ws → Lexed after more
    → Lexed (line ws ++ after) (ws ++ more)
Lexed-line [] after more all l = l
Lexed-line (w ∷ ws) after more all l =
    let rest = flat_map spaced ws ++ (10 ∷ after) in
    let ends : EndsWord (10 ∷ after) = refl in
    rw (append_assoc w (flat_map spaced ws ++ 10 ∷ []) after, append_assoc (flat_map spaced ws) (10 ∷ []) after)
    (Lexed-token w rest (ws ++ more) all.0 (Ends-words ws (10 ∷ after) ends)
    (Lexed-words ws (10 ∷ after) more all.1 ends (Lexed-gap 10 after more refl l)))

Lexed-lines : (lines : List (List (List ℕ))) → AllByRecursion (AllByRecursion IsToken) lines
    → Lexed (flat_map line lines) (flat_map (λ ws. ws) lines)
Lexed-lines [] all = Lexed-nothing
Lexed-lines (ws ∷ lines) all = Lexed-line ws (flat_map line lines) (flat_map (λ ws. ws) lines) all.0 (Lexed-lines lines all.1)

-- the tokens of lines of words are the words
pub tokens_of_lines : (lines : List (List (List ℕ))) → AllByRecursion (AllByRecursion IsToken) lines
    → (tokens : List Token) × AreTokens (flat_map line lines) tokens × AreWords (flat_map line lines) tokens (flat_map (λ ws. ws) lines)
tokens_of_lines lines all =
    let found = (Lexed-lines lines all).lexed [] start_place in
    (found.0, (found.1, found.2), found.3)
