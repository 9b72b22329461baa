-- What the text of a protocol says.
use Rattle.std.specs.Prelude.{◌≡◌, ℕ, List, None}
use Rattle.protocol_syntax.specs.declared.protocol.Protocol.{Protocol}
use Rattle.protocol_syntax.specs.Grammar.{IsProtocol}
use Rattle.protocol_model.specs.Numbering.{system_of}
use Rattle.protocol_model.specs.Faults.{first_fault}
use Rattle.command_replies.specs.declared.reading.Reading.{Reading}
use Rattle.command_replies.specs.declared.reading.Reading.TheVariants.{Protocol as Says, Refused}
use Rattle.command_replies.specs.Refusal.{IsRefusalOf}

-- the text says this protocol, which has no fault
pub record IsFaultless (text : List ℕ) (p : Protocol) : Type 0 where
  pub is_protocol : IsProtocol text p
  pub no_fault : first_fault p ≡ None

-- the text says a protocol without a fault, and this is its system; or this is its first fault
abbrev pub IsReadingOf : List ℕ → Reading → Type 0
IsReadingOf text (Says p s) = IsFaultless text p × (s ≡ system_of p)
IsReadingOf text (Refused refusal) = IsRefusalOf text refusal
