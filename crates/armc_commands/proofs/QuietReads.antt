-- Where the library tells every text that the words read, it tells those of the command.
use Rattle.std.proofs.Common.{◌≡◌, ℕ, List, Some, inl, inr, refl}
use Rattle.std.specs.Prelude.{IsSome}
use Rattle.protocol_syntax.specs.declared.protocol.Protocol.{Protocol}
use Rattle.command_words.specs.Words.{Command, command_of}
use Rattle.armc_commands.specs.Origin.{Told, Origin, named, given, generated}
use Rattle.armc_commands.specs.private.LibraryReads.{IsToldOrigin}
use Rattle.armc_commands.specs.Commands.{protocol_origin, second_origin}
use Rattle.armc_commands.specs.Outcome.{HasProtocol, TellsTexts}

told_origin : (told : Told) (origin : Origin) → ((name : List ℕ) (limit : ℕ) → origin ≡ named name limit → IsSome (told name)) → IsToldOrigin told origin
told_origin told (named name limit) tells = tells name limit refl
told_origin told (given text) tells = tt
told_origin told (generated number) tells = tt

module _ (words : List (List ℕ)) (told : Told) (tells : TellsTexts words told) (command : Command) (asked : command_of words ≡ Some command) where
  pub first_told : IsToldOrigin told (protocol_origin command)
  first_told =
      told_origin told (protocol_origin command)
      (λ name limit e. tells name limit (record { command = command; asked = asked; is_read = inl e }))

  pub second_told : (p : Protocol) → HasProtocol told command p → IsToldOrigin told (second_origin command)
  second_told p has =
      told_origin told (second_origin command)
      (λ name limit e. tells name limit (record { command = command; asked = asked; is_read = inr (e, (p, has)) }))
