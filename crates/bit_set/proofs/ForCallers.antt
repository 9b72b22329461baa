-- What proofs of other crates take from here: what sets have room for, and what comes to the elements of lists.
pub use Rattle.bit_set.proofs.Additions.{AddsFirst, adds_all, adds_both, adds_first, adds_more, adds_none, adds_same, get_or-set_cases}
pub use Rattle.bit_set.proofs.Sets.{Has-within}
pub use Rattle.bit_set.proofs.SetsAtPlaces.{HasAt-within, same_lengths}
