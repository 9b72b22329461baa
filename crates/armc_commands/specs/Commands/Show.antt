-- The reply of `show`.
use Rattle.std.specs.Prelude.{◌≡◌}
use Rattle.protocol_syntax.specs.declared.protocol.Protocol.{Protocol}
use Rattle.protocol_layout.specs.Layout.{layout}
use Rattle.command_replies.specs.declared.status.Status.TheVariants.{Done}
use Rattle.command_replies.specs.declared.reply.Reply.{Reply}
use Rattle.command_replies.specs.Reply.{on_out}

-- the canonical layout of the protocol
abbrev pub IsShowReply : Protocol → Reply → Type 0
IsShowReply p reply = reply ≡ on_out Done (layout p)
