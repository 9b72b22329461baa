-- What proofs of other crates take from here: letters by their names, words of configurations, and that a text says its configuration.
pub use Rattle.configuration_words.proofs.LetterLemmas.{letter_is_name, same_letter}
pub use Rattle.configuration_words.proofs.TokenLemmas.{text_means}
pub use Rattle.configuration_words.proofs.WordFacts.{word_of-in_range, word_of-injective}
pub use Rattle.configuration_words.proofs.WordLemmas.{fitting_letters}
