use Rattle.std.proofs.Common.{◌≡◌, ◌+◌, ◌<◌, ◌++◌, ◌∷◌, [], Bool, true, false, cond, filter, get_or, length, sym, ap, refl, ◌∙◌, arith}
use Rattle.std.specs.List.{range_with_len}
use Rattle.std.proofs.lemmas.List.{append-nil, get_or_read_under}
use Rattle.std.proofs.lemmas.List.FromFn.{length-map-range_with_len, get_or-map-range_with_len}
use Rattle.certificate_writing.specs.IndexedWriting.{labels_edge}
use Rattle.certificate_writing.proofs.Ranges.{filter_range_more}
use Rattle.certificate_writing.proofs.letter_table.used_letters.Goals as goal
use Rattle.certificate_writing.proofs.letter_table.used_letters.Goals.{then-index+in_ok-push, else-index}

pub index-requires : goal.index-requires
index-requires c =
    let m = c.args.proof.now in
    let size = ap length c.in_ok-flags.ensures ∙ length-map-range_with_len (labels_edge m) 0 m.letters in
    omega (arith, size, c.letters-test.true, c.letters-letter-end.ensures)

pub letters-preserved : goal.letters-preserved
letters-preserved c =
    let m = c.args.proof.now in
    let flags = c.in_ok-flags.flags.items in
    let letter = c.letters.letter in
    let within : letter < m.letters = omega (arith, c.letters-test.true, c.letters-letter-end.ensures) in
    let size = ap length c.in_ok-flags.ensures ∙ length-map-range_with_len (labels_edge m) 0 m.letters in
    let flag : c.index.result.now ≡ labels_edge m letter =
    get_or_read_under flags letter (length flags) c.index.result.now false c.index.ensures (omega (arith, size, within)) refl
    ∙ ap (λ items. get_or items letter false) c.in_ok-flags.ensures
    ∙ get_or-map-range_with_len (labels_edge m) 0 m.letters letter letter false within (let same : 0 + letter ≡ letter = omega arith in same) in
    let before = filter (labels_edge m) (range_with_len 0 letter) in
    let more : (b : Bool) → labels_edge m letter ≡ b
    → before ++ cond b (letter ∷ []) [] ≡ filter (labels_edge m) (range_with_len 0 (letter + 1)) =
    λ b is. ap (λ b. before ++ cond b (letter ∷ []) []) (sym is) ∙ sym (filter_range_more (labels_edge m) letter) in
    elim c.if-index.branch [
      | then-index+in_ok-push w ↦
          ap (λ letters. letters.items) w.letters-is
          ∙ w.in_ok-push.ensures.items
          ∙ ap (λ letters. letters ++ letter ∷ []) c.letters.invariant
          ∙ more true (sym flag ∙ w.if-index.true)
      | else-index w ↦
          ap (λ letters. letters.items) w.letters-is
          ∙ c.letters.invariant
          ∙ sym (append-nil before)
          ∙ more false (sym flag ∙ w.if-index.false)
    ]
