-- A move in which each letter and each set stays is the move itself.
use Rattle.std.proofs.Common.{◌≡◌, List, [], ◌∷◌, map, refl}
use Rattle.std.proofs.lemmas.List.{map-id}
use Rattle.std.proofs.lemmas.Iterator.Adapters.{option_map_id}
use Rattle.protocol_syntax.specs.declared.protocol.Guard.{Guard}
use Rattle.protocol_syntax.specs.declared.protocol.Move.{Move}
use Rattle.protocol_syntax.specs.declared.protocol.Move.TheVariants.{At, Pair, Ring, Two, Set, Send, Recv, Stack, Spawn, Exit, Lose}
use Rattle.protocol_syntax.specs.MoveLetters.{renamed, renamed_guard}

guards_same : {L : Type 0} (guards : List (Guard L)) → map (renamed_guard (λ a. a)) guards ≡ guards
guards_same [] = refl
guards_same (g ∷ guards) = rw (map-id g.letters, guards_same guards) refl

pub renamed_same : {L S : Type 0} (move : Move L S) → renamed (λ a. a) (λ set. set) move ≡ move
renamed_same (At f t guards table) = rw (guards_same guards, map-id table) refl
renamed_same (Pair a b c d) = refl
renamed_same (Ring a b c d) = refl
renamed_same (Two a b c d) = refl
renamed_same (Set a b) = refl
renamed_same (Send a) = refl
renamed_same (Recv a) = refl
renamed_same (Stack pop push) = rw (option_map_id pop, map-id push) refl
renamed_same (Spawn a) = refl
renamed_same (Exit a) = refl
renamed_same (Lose letters) = refl
