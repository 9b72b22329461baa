-- What proofs of other crates take from here: where letters lead in canonical automata, live edges by classes, signatures, and that
-- canonical automata are unique and least.
pub use Rattle.minimise.proofs.Edges.{accepts_from-next, next_state, edges_differ, live_class-same, live_edges-increasing, look_up-live_edges}
pub use Rattle.minimise.proofs.Refining.{index-zeros}
pub use Rattle.minimise.proofs.Splitting.{signature_of-past, live_edge_more, dead_edge_more}
pub use Rattle.minimise.proofs.Unique.{is_unique, is_least}
