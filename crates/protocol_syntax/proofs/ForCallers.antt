-- What proofs of other crates take from here: words that are written are tokens and are said again, and what texts within the limits tell
-- and have.
pub use Rattle.protocol_syntax.proofs.Lexing.{AreWords, Ends-words, EndsWord, IsToken, IsToken-arrow, IsToken-brace_left}
pub use Rattle.protocol_syntax.proofs.Lexing.{IsToken-brace_right, IsToken-colon, IsToken-plus, IsToken-semicolon, IsToken-star, Lexed}
pub use Rattle.protocol_syntax.proofs.Lexing.{Lexed-gap, Lexed-nothing, Lexed-token, Lexed-words, is_word, tokens_of_words}
pub use Rattle.protocol_syntax.proofs.Printed.{HasWords, Prints, Writes, prints_absent, prints_after, prints_all, prints_assoc, prints_bind}
pub use Rattle.protocol_syntax.proofs.Printed.{prints_fixed, prints_gives, prints_item, prints_keyword, prints_last, prints_left}
pub use Rattle.protocol_syntax.proofs.Printed.{prints_means, prints_name, prints_one_of, prints_only, prints_present, prints_right}
pub use Rattle.protocol_syntax.proofs.Printed.{prints_same, prints_sign, same_length, spelling, words_stand, writes_many, writes_up_to}
pub use Rattle.protocol_syntax.proofs.Told.{protocol_is_told, protocol_is_uniform}
pub use Rattle.protocol_syntax.proofs.Within.{each_item, properties_within, row_within, up_to_within}
