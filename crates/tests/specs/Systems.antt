-- The system of a text.
use Rattle.std.specs.Prelude.{◌≡◌, ℕ, List, None}
use Rattle.protocol_syntax.specs.declared.protocol.Protocol.{Protocol}
use Rattle.protocol_syntax.specs.Grammar.{IsProtocol}
use Rattle.protocol_model.specs.declared.system.System.{System}
use Rattle.protocol_model.specs.Numbering.{system_of}
use Rattle.protocol_model.specs.Faults.{first_fault}

-- the text says a protocol without a fault, and this is its system
pub record IsSystemOfText (text : List ℕ) (system : System) : Type 0 where
  pub protocol : Protocol
  pub is_protocol : IsProtocol text protocol
  pub no_fault : first_fault protocol ≡ None
  pub is_system : system ≡ system_of protocol
