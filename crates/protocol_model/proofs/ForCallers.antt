-- What proofs of other crates take from here: lists of letters below a number, known and distinct names, walks over faults, what fits, and
-- valid systems.
pub use Rattle.protocol_model.proofs.AllowedTexts.{IsAllowed-read, named}
pub use Rattle.protocol_model.proofs.Below.{AllBelow-append, AllBelow-from_test, AllBelow-left, AllBelow-right, test_from_AllBelow}
pub use Rattle.protocol_model.proofs.Cuts.{cut_is_loss, raised_cut}
pub use Rattle.protocol_model.proofs.Distinct.{IsClean, all_of_map, each_clean, none_first, none_second}
pub use Rattle.protocol_model.proofs.Fitting.{bad_fits, fits_length, initial_fits}
pub use Rattle.protocol_model.proofs.InRange.{each_at_most, false_of_none, known, true_of_none}
pub use Rattle.protocol_model.proofs.KindLemmas.{any_length}
pub use Rattle.protocol_model.proofs.Known.{or_none}
pub use Rattle.protocol_model.proofs.Lists.{length_map, list_any_map, position_is, range_with_len_push}
pub use Rattle.protocol_model.proofs.Validity.{row_valid}
pub use Rattle.protocol_model.proofs.Walk.{IsWalked, goes_on, stops, walked_all}
