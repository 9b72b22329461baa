use Rattle.std.proofs.Common.{◌≡◌, ◌≢◌, ◌<◌, All, AllPairs, IfOk, subst, sym, ap, ◌∙◌}
use Rattle.protocol_model.specs.System.{SystemData}
use Rattle.protocol_model.specs.Words.{automata_letters}
use Rattle.certificate_writing.specs.IndexedWriting.{indexed_text, used_letters}
use Rattle.certificate_writing.specs.private.IndexedWritingParts.{AreIndicesOf}
use Rattle.certificate_writing.proofs.IndexedMeaningLemmas.{used_in_range, used_distinct}
use Rattle.certificate_writing.proofs.indexed_writing.indexed_text.Goals as goal

pub indices_of-requires-clause-in_range : goal.indices_of-requires-clause-in_range
indices_of-requires-clause-in_range c =
    let m = c.args.proof.now in
    subst (λ count. All (λ a. a < count) c.as_slice.result.now) (sym c.letters.ensures)
    (subst (All (λ a. a < m.letters)) (sym (c.as_slice.ensures.value ∙ c.in_ok-letters.ensures)) (used_in_range m c.states-states.ensures.valid))

pub indices_of-requires-clause-distinct : goal.indices_of-requires-clause-distinct
indices_of-requires-clause-distinct c =
    subst (AllPairs ◌≢◌) (sym (c.as_slice.ensures.value ∙ c.in_ok-letters.ensures)) (used_distinct c.args.proof.now c.states-states.ensures.valid)

pub text_by_table-requires-clause-alphabet : goal.text_by_table-requires-clause-alphabet
text_by_table-requires-clause-alphabet c = c.requires ∙ ap automata_letters (sym c.in_ok-alphabet.ensures.same)

pub text_by_table-requires-clause-letters : goal.text_by_table-requires-clause-letters
text_by_table-requires-clause-letters c = c.as_slice-2.ensures.value ∙ c.in_ok-letters.ensures

pub text_by_table-requires-clause-indices : goal.text_by_table-requires-clause-indices
text_by_table-requires-clause-indices c =
    let used = used_letters c.args.proof.now in
    let letters = c.as_slice-2.result.now in
    let indices = c.in_ok-indices.indices.items in
    let known : AreIndicesOf used c.letters.result indices =
    subst (λ found. AreIndicesOf found c.letters.result indices) (c.as_slice.ensures.value ∙ c.in_ok-letters.ensures) c.in_ok-indices.ensures in
    subst (λ shown. AreIndicesOf letters c.args.proof.now.letters shown) (sym c.as_slice-3.ensures.value)
    (subst (λ found. AreIndicesOf found c.args.proof.now.letters indices) (sym (c.as_slice-2.ensures.value ∙ c.in_ok-letters.ensures))
    (subst (λ count. AreIndicesOf used count indices) c.letters.ensures known))

pub returns : goal.returns
returns c =
    subst (λ (s : SystemData). IfOk c.text_by_table.result (λ text. text.items ≡ indexed_text s c.args.proof.now))
    c.in_ok-alphabet.ensures.same c.text_by_table.ensures
