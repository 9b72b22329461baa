use Rattle.std.proofs.Common.{map, take}
use Rattle.protocol_model.specs.Numbering.{row_of}
use Rattle.protocol_model.specs.Faults.{row_fault}
use Rattle.protocol_model.proofs.ForCallers.{IsWalked}
use Rattle.protocol_properties.proofs.properties.test_rows.Given as goal

-- the rows of the blocks so far have no fault
abbrev pub invariant-each_block : goal.invariant-each_block
invariant-each_block l =
    IsWalked (λ _ block. row_fault l.sections block.1) (λ block. row_of l.sections block.1) l.blocks l.block-index
    (map (λ block. row_of l.sections block.1) (take l.block-index l.blocks))
