use Rattle.std.proofs.Common.{◌≡◌, true, take, nat_lt}
use Rattle.std.specs.List.{list_all}
use Rattle.protocol_model.specs.Words.{raised}
use Rattle.configuration_words.proofs.decoding.lowered_letters.Given as goal

abbrev pub invariant-letters : goal.invariant-letters
invariant-letters l =
    (list_all (λ a. nat_lt a l.count) l.list.items ≡ true) × (take l.letter-index l.letters ≡ raised l.offset l.list.items)
