use Rattle.std.proofs.Common.{[], ◌∷◌, ◌++◌, flat_map, length, codes, ap, ◌∙◌}
use Rattle.std.specs.List.{range_with_len}
use Rattle.certificate_writing.specs.private.WritingParts.{named_text_from, opening_text}
use Rattle.certificate_writing.proofs.TextLemmas.{automaton_text-is}
use Rattle.certificate_writing.proofs.writing.write_automaton.Goals as goal

pub returns : goal.returns
returns c =
    let m = c.args.proof.now in
    let first = c.args.first.now in
    c.in_ok-extend_from_slice.ensures.items
    ∙ ap (λ text. text ++ (codes "end" ++ 10 ∷ []))
    (c.in_ok-push_edges.ensures
    ∙ ap (λ text. text ++ flat_map (named_text_from c.in_ok-alphabet.alphabet m) (range_with_len 0 (length m.states))) c.in_ok-text.ensures
    ∙ ap (λ s. opening_text first [] s m ++ flat_map (named_text_from s m) (range_with_len 0 (length m.states))) c.in_ok-alphabet.ensures.same)
    ∙ automaton_text-is first c.args.system.now m
