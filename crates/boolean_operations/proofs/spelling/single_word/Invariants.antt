use Rattle.boolean_operations.proofs.SpelledWords.{Spells}
use Rattle.boolean_operations.proofs.spelling.single_word.Given as goal

abbrev pub invariant-letters : goal.invariant-letters
invariant-letters l = Spells l.fn.letters l.word l.read l.builder
