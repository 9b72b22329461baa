mod IndexedMeaningLemmas
mod IndexedTextLemmas
mod LetterIndexLemmas
mod Ranges
mod WrittenLemmas
mod TextLemmas
