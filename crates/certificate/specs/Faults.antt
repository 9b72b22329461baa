-- The first line with a fault, where a text is no certificate.
use Rattle.std.specs.Prelude.{ℕ, List}
use Rattle.protocol_model.specs.System.{SystemData}
use Rattle.lines.specs.Document.{HasAnswer, fails}
use Rattle.lines.specs.declared.fault.Fault.{Fault}
use Rattle.lines.specs.declared.fault.Fault.TheVariants as Of
use Rattle.certificate.specs.declared.fault.CertFault.{CertFault}
use Rattle.certificate.specs.declared.fault.CertFault.TheVariants.{Version, BadLine, UnknownName, OutOfRange, TwoEdges, Truncated, NothingToVerify, TooMany, Memory, TwoLetters}
use Rattle.certificate.specs.declared.said.What.{What}
use Rattle.certificate.specs.declared.said.What.TheVariants as W
use Rattle.certificate.specs.Stages.{certificate}

-- the same fault of a text of lines
abbrev pub text_fault : CertFault → Fault What
text_fault (Version n) = Of.Wrong W.Version n
text_fault (BadLine n) = Of.BadLine n
text_fault (UnknownName n) = Of.Wrong W.UnknownName n
text_fault (OutOfRange n) = Of.Wrong W.OutOfRange n
text_fault (TwoEdges n) = Of.Wrong W.TwoEdges n
text_fault (Truncated n) = Of.Truncated n
text_fault (NothingToVerify n) = Of.Wrong W.NothingToVerify n
text_fault (TooMany n) = Of.Wrong W.TooMany n
text_fault Memory = Of.Memory
text_fault (TwoLetters n) = Of.Wrong W.TwoLetters n

-- the first fault of a text
abbrev pub HasFault : SystemData → List ℕ → CertFault → Type 0
HasFault s text fault = HasAnswer (certificate s) text (fails (text_fault fault))
