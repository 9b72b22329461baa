use Rattle.protocol_syntax.proofs.Told.{properties_are_uniform, properties_are_told}
use Rattle.protocol_syntax.proofs.properties.parse_properties.Goals as goal

pub parse-requires : goal.parse-requires
parse-requires c = record { uniform = properties_are_uniform; told = properties_are_told }
