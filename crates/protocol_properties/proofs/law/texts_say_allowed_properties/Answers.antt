use Rattle.protocol_properties.proofs.AllowedTexts.{AreAllowedBlocks-read}
use Rattle.protocol_properties.proofs.law.texts_say_allowed_properties.Goals as goal

pub returns : goal.returns
returns c = AreAllowedBlocks-read
