use Rattle.std.proofs.Common.{◌≡◌, map, take}
use Rattle.protocol_model.proofs.resolution.copy_letters.Given as goal

abbrev pub invariant-letters : goal.invariant-letters
invariant-letters l = l.copies.items ≡ map (λ name. name.text) (take l.letter-index l.letters)
