use Rattle.std.proofs.Common.{◌≡◌, ◌++◌, filter, flat_map}
use Rattle.std.specs.List.{range_with_len}
use Rattle.word_automata.specs.Path.{is_accepting}
use Rattle.certificate_writing.specs.private.WritingParts.{final_text}
use Rattle.certificate_writing.proofs.writing.push_final_states.Given as goal

abbrev pub invariant-states : goal.invariant-states
invariant-states l =
    l.text.items ≡ l.fn.text.items ++ flat_map final_text (filter (is_accepting l.proof.states) (range_with_len 0 l.state))
