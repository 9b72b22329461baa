use Rattle.std.proofs.Common.{◌≡◌, ◌<◌, ◌∷◌, [], ◌++◌, length, arith, ◌+◌, refl, sym, ap, subst, ◌∙◌}
use Rattle.std.proofs.lemmas.Option.{slice_get_read, get_or_from_slice_get}
use Rattle.array_moves.specs.private.ControlStates.{LetterEdges}
use Rattle.array_moves.proofs.ControlLemmas.{LetterEdges-allowed, LetterEdges-forbidden}
use Rattle.array_moves.proofs.guarded.letter_edges.Goals as goal
use Rattle.array_moves.proofs.guarded.letter_edges.Goals.{in-Some+in_ok-target+in_ok-push, in_default}

pub letters-preserved : goal.letters-preserved
letters-preserved c =
    elim c.match-after_letter.branch [
      | in-Some+in_ok-target+in_ok-push w ↦
          let images = c.args.guard_table.now.images.items in
          let lt : c.letters.letter < length images = omega (arith, c.requires.each_image, c.letters-test.true) in
          let read = slice_get_read images (length images) c.letters.letter w.index-image.result.now refl lt w.index-image.ensures in
          let image = sym (get_or_from_slice_get images c.letters.letter w.index-image.result.now 0 read) in
          rw (w.controls-is, w.edges-is)
          (subst (LetterEdges c.args.guard_table.now c.args.alphabet.offset (c.letters.letter + 1) c.args.control c.args.controls.now.keys
          w.number.new.controls.keys)
          (sym (w.in_ok-push.ensures.items ∙ ap (λ l. c.letters.edges.items ++ (l, w.in_ok-target.target) ∷ []) w.exchange-label.ensures))
          (LetterEdges-allowed c.args.guard_table.now c.args.alphabet.offset c.args.control c.letters.letter _ _ _ c.letters.invariant _ _ _
          w.index-image.result.now (sym w.in-Some.ensures) w.in_ok-target.ensures image))
      | in_default w ↦ rw (w.controls-is, w.edges-is)
          (LetterEdges-forbidden c.args.guard_table.now c.args.alphabet.offset c.args.control c.letters.letter _ _ _ c.letters.invariant
          (sym w.in_default.ensures))
    ]

pub returns : goal.returns
returns c =
    let is : c.letters.letter ≡ c.args.alphabet.count = omega arith in
    subst (λ n. LetterEdges c.args.guard_table.now c.args.alphabet.offset n c.args.control c.args.controls.now.keys c.letters.controls.keys
    c.letters.edges.items) is c.letters.invariant
