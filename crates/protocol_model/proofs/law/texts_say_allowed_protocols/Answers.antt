use Rattle.protocol_model.proofs.AllowedTexts.{IsAllowed-read}
use Rattle.protocol_model.proofs.Validity.{system_valid}
use Rattle.protocol_model.proofs.law.texts_say_allowed_protocols.Goals as goal

pub returns : goal.returns
returns c = record { allowed = IsAllowed-read; valid = system_valid }
