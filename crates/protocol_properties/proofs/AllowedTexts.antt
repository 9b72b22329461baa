-- The blocks that a text of properties says are within the limits.
use Rattle.std.proofs.Common.{ℕ, List}
use Rattle.forms.specs.declared.name.Name.{Name}
use Rattle.protocol_syntax.specs.declared.protocol.RowText.{RowText}
use Rattle.protocol_syntax.specs.Properties.{AreProperties}
use Rattle.protocol_syntax.proofs.ForCallers.{properties_within}
use Rattle.protocol_model.proofs.ForCallers.{named}
use Rattle.protocol_properties.specs.Properties.{IsAllowedBlock, AreAllowedBlocks}

pub AreAllowedBlocks-read : (text : List ℕ) (blocks : List (Name × RowText)) → AreProperties text blocks → AreAllowedBlocks blocks
AreAllowedBlocks-read text blocks said =
    let all = properties_within IsAllowedBlock (λ block is. record { named = named block.0 is.0; row = is.1 }) text blocks said in
    record { limit = all.2; each = all.0 }
