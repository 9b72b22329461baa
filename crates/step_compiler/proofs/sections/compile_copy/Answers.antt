use Rattle.std.proofs.Common.{◌↔◌, ℕ, List, IfOk, IsTrue, inl, inr, ap, sym, subst}
use Rattle.std.proofs.lemmas.Result.{IfOk-weaker}
use Rattle.protocol_syntax.specs.declared.Kind.TheVariants.{Cell}
use Rattle.protocol_model.specs.Patterns.{has_any_length}
use Rattle.protocol_model.specs.Raised.{IsRaisedMove}
use Rattle.transducers.specs.Transducer.{Relates}
use Rattle.step_compiler.specs.Sections.{Stays}
use Rattle.sequence.proofs.ForCallers.{joined}
use Rattle.step_compiler.proofs.SectionLemmas.{copies_one, copies_any}
use Rattle.step_compiler.proofs.sections.compile_copy.Goals as goal

pub returns-in-Cell-clause-relates : goal.returns-in-Cell-clause-relates
returns-in-Cell-clause-relates c =
    subst (λ k. IfOk c.copy_one.result (λ t. (u w : List ℕ) → Relates t u w
    ↔ IsRaisedMove (Stays k) c.args.alphabet.offset c.args.alphabet.count u w)) (sym c.in-Cell.is)
    (IfOk-weaker c.copy_one.result _
    (λ t. (u w : List ℕ) → Relates t u w ↔ IsRaisedMove (Stays Cell) c.args.alphabet.offset c.args.alphabet.count u w)
    (λ t h u w. joined (h u w) (copies_one c.args.alphabet.offset c.args.alphabet.count u w)) c.copy_one.ensures.copies)

pub returns-in-Array : goal.returns-in-Array
returns-in-Array c =
    let any : IsTrue (has_any_length c.args.kind) =
    elim c.in-Array.is [
      | inl e ↦ ap has_any_length e
      | inr others ↦ elim others [
        | inl e ↦ ap has_any_length e
        | inr last ↦ elim last [ inl e ↦ ap has_any_length e | inr e ↦ ap has_any_length e ]
      ]
    ] in
    record {
      letters = c.copy_any.ensures.letters;
      relates = IfOk-weaker c.copy_any.result _
          (λ t. (u w : List ℕ) → Relates t u w ↔ IsRaisedMove (Stays c.args.kind) c.args.alphabet.offset c.args.alphabet.count u w)
          (λ t h u w. joined (h u w) (copies_any c.args.kind c.args.alphabet.offset c.args.alphabet.count any u w)) c.copy_any.ensures.copies;
    }
