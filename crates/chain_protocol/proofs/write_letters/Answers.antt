use Rattle.std.proofs.Common.{string_bytes}
use Rattle.chain_protocol.specs.Chain.{next_letter}
use Rattle.chain_protocol.proofs.Joined.{joined_more, joined_none}
use Rattle.chain_protocol.proofs.write_letters.Goals as goal

pub letters-init : goal.letters-init
letters-init c = joined_none next_letter (string_bytes c.args.text.now)

pub letters-preserved : goal.letters-preserved
letters-preserved c = joined_more next_letter (string_bytes c.args.text.now) (string_bytes c.letters.text) _ c.letters.i-counter c.letters.invariant c.in_ok-write.ensures.bytes
