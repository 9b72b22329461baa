use Rattle.std.proofs.Common.{◌<◌, [], ◌∷◌, ◌++◌, All, length, codes, flat_map, subst, sym, ap, ◌∙◌}
use Rattle.std.specs.List.{range_with_len}
use Rattle.certificate_writing.specs.private.WritingParts.{opening_text}
use Rattle.certificate_writing.specs.private.IndexedWritingParts.{AreIndicesOf, text_from}
use Rattle.certificate_writing.proofs.IndexedTextLemmas.{indexed_text-is}
use Rattle.certificate_writing.proofs.IndexedMeaningLemmas.{used_in_range}
use Rattle.certificate_writing.proofs.indexed_writing.text_by_table.Goals as goal

pub opening-requires : goal.opening-requires
opening-requires c =
    let m = c.args.proof.now in
    subst (λ count. All (λ a. a < count) c.args.letters.now) c.requires.alphabet
    (subst (All (λ a. a < m.letters)) (sym c.requires.letters) (used_in_range m c.states-states.ensures.valid))

pub returns : goal.returns
returns c =
    let s = c.args.alphabet.now in
    let m = c.args.proof.now in
    let indices = c.args.indices.now in
    c.in_ok-extend_from_slice.ensures.items
    ∙ ap (λ text. text ++ (codes "end" ++ 10 ∷ []))
    (c.in_ok-push_edges.ensures
    ∙ ap (λ text. text ++ flat_map (text_from indices m) (range_with_len 0 (length m.states)))
    (c.in_ok-text.ensures ∙ ap (λ letters. opening_text (codes "armc 2 safe") letters s m) c.requires.letters))
    ∙ indexed_text-is s m c.states-states.ensures.valid indices
    (subst (λ letters. AreIndicesOf letters m.letters indices) c.requires.letters c.requires.indices)
