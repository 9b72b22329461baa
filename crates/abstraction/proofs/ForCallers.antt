-- What proofs of other crates take from here: words of bounded length, facts as numbers, first states of classes, members of lists, and
-- merged words.
pub use Rattle.abstraction.proofs.BoundedWordLemmas.{contains_accepted, leads_by_letter, word_is_short}
pub use Rattle.abstraction.proofs.FactCodes.{code, code-below, same_facts}
pub use Rattle.abstraction.proofs.FactLemmas.{facts_determine_words}
pub use Rattle.abstraction.proofs.Firsts.{first_same, first_within}
pub use Rattle.abstraction.proofs.ListMembers.{distinct_more, same_at, some_passes, take_cases, take_keeps, take_last}
pub use Rattle.abstraction.proofs.MergedWords.{merged_weaker}
