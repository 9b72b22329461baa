use Rattle.std.proofs.Common.{◌≡◌, ◌++◌, take, map}
use Rattle.std.specs.List.{flat_map}
use Rattle.protocol_syntax.specs.Spacing.{spaced}
use Rattle.protocol_layout.proofs.write_words.Given as goal

abbrev pub invariant-words : goal.invariant-words
invariant-words l = l.out.items ≡ l.fn.out.items ++ flat_map spaced (map (λ w. w.now) (take l.word-index l.words))
