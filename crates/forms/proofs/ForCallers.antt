-- What proofs of other crates take from here: one meaning or one fault of a text, what holds of each meaning within the limits, and the
-- laws of lists of grammars.
pub use Rattle.forms.proofs.EachLaws.{each_apart, each_told, each_uniform}
pub use Rattle.forms.proofs.MayMean.{AllAfter, IsName, MayMean, within_may_mean}
pub use Rattle.forms.proofs.SaidWithin.{SaysWithin, within_from_said}
pub use Rattle.forms.proofs.Texts.{fault_once, fault_or_meaning, meaning_once, meaning_or_fault}
pub use Rattle.forms.proofs.InRow.{IsReadAs, read_as, says_made, fails_too, given_alike, goes_on, fails_with}
