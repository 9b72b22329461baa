-- What proofs of other crates take from here: transducers that copy, exchanges of letters, elements of lists by their places, and edges of
-- graphs.
pub use Rattle.transducers.proofs.CopyLemmas.{Contains-single, IsEdge-copies, copy_edge_from_letter, copy_from_edge, exchange_from_copy}
pub use Rattle.transducers.proofs.CopyLemmas.{nothing_in_nil}
pub use Rattle.transducers.proofs.ExchangeLemmas.{Exchanges, HasExchanges, RelatesFrom-exchanges, exchanges_from_RelatesFrom}
pub use Rattle.transducers.proofs.ListLemmas.{Contains-from_place, Contains-map_cases, Contains-range_cases, slice_get-append_right}
pub use Rattle.transducers.proofs.ListLemmas.{slice_get-cases, slice_get-map_cases, slice_get-map_image, slice_get-within}
pub use Rattle.transducers.proofs.PathLemmas.{edges_of-at, is_accepting-at, node_from_edge, target_in_range}
