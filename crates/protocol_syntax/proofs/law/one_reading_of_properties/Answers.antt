use Rattle.forms.proofs.ForCallers.{meaning_once, fault_once, fault_or_meaning, meaning_or_fault}
use Rattle.protocol_syntax.specs.Properties.{properties}
use Rattle.protocol_syntax.proofs.Told.{properties_are_uniform, properties_are_told}
use Rattle.protocol_syntax.proofs.law.one_reading_of_properties.Goals as goal

pub returns : goal.returns
returns c = record {
  properties = meaning_once properties properties_are_uniform properties_are_told c.one_reading.ensures.tokens c.one_reading.ensures.either;
  fault =
      fault_once properties properties_are_uniform properties_are_told c.one_reading.ensures.tokens c.one_reading.ensures.either
      c.one_reading.ensures.bad_byte;
  either = fault_or_meaning properties properties_are_uniform properties_are_told c.one_reading.ensures.tokens c.one_reading.ensures.either;
  every =
      meaning_or_fault properties properties_are_uniform properties_are_told c.one_reading.ensures.tokens c.one_reading.ensures.either
      c.one_reading.ensures.every;
}
