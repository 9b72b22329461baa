-- What proofs of other crates take from here: lists of letters with states, places in lists, successors told by edges, runs, the order
-- of words, states that a set takes in, and the steps of the breadth-first construction.
pub use Rattle.exploration.proofs.Chains.{index-zeros}
pub use Rattle.exploration.proofs.Finished.{finished_breadth_first, finished_language, finished_states}
pub use Rattle.exploration.proofs.Lists.{look_up-here, look_up-there, look_up-above, look_up-below, look_up-beneath, look_up-push_same, look_up-push_other}
pub use Rattle.exploration.proofs.Lists.{slice_get-some, slice_get-append, slice_get-append_below, slice_get-push, slice_get-push_cases}
pub use Rattle.exploration.proofs.Runs.{accepts_from-append, run_from-accepted}
pub use Rattle.exploration.proofs.Steps.{begun_numbered, begun_without, edge_in_range, expanded, expanded_all, none_after, none_later}
pub use Rattle.exploration.proofs.Steps.{inserted_kept, inserted_new}
pub use Rattle.exploration.proofs.Successors.{HasIncreasingLetters-edges, IsSuccessors-moved, look_up-edges}
pub use Rattle.exploration.proofs.Words.{Below, Below-cases, Below-trans, before_at_reverses, before_from_Below}
pub use Rattle.exploration.proofs.Words.{IsLeastWord-unique, is_before-asymmetric, is_before-irreflexive, is_before-total}
