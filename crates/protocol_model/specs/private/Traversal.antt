-- The first fault of a move, whatever stands for a letter: of its letters in the order of the text, where its table comes last.
use Rattle.std.specs.Prelude.{List, [], Option}
use Rattle.std.specs.Option.{option_or}
use Rattle.protocol_syntax.specs.declared.protocol.Move.{Move}
use Rattle.protocol_syntax.specs.MoveLetters.{letters_before_table, table_of}
use Rattle.protocol_model.specs.declared.fault.ModelFault.{ModelFault}
use Rattle.protocol_model.specs.Faults.{first_fault_of}

-- an entry of a table, where the left letter also has a fault that rests on the entries before it
abbrev pub pair_fault : {L : Type 0} → (L → Option ModelFault) → (List (L × L) → L → Option ModelFault) → List (L × L) → L × L → Option ModelFault
pair_fault fault left_fault earlier pair = option_or (fault pair.0) (option_or (left_fault earlier pair.0) (fault pair.1))

abbrev pub move_fault : {L S : Type 0} → (L → Option ModelFault) → (List (L × L) → L → Option ModelFault) → (S → List L) → Move L S → Option ModelFault
move_fault fault left_fault of_set move =
    option_or (first_fault_of (λ _. fault) [] (letters_before_table of_set move)) (first_fault_of (pair_fault fault left_fault) [] (table_of move))
