use Rattle.protocol_model.specs.Numbering.{texts_of}
use Rattle.protocol_model.specs.Faults.{duplicate}
use Rattle.protocol_model.proofs.Walk.{IsWalked}
use Rattle.protocol_model.proofs.sections.letter_names.Given as goal

abbrev pub invariant-letters : goal.invariant-letters
invariant-letters l =
    IsWalked (λ before. duplicate (texts_of before)) (λ name. name.text) l.letters l.letter-index l.names
