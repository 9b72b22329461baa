-- What proofs of other crates take from here: lists of letters with a value each, and the order of words.
pub use Rattle.boolean_operations.proofs.Letters.{valued, look_up-valued, look_up-valued_above}
pub use Rattle.boolean_operations.proofs.Order.{is_before-trans}
