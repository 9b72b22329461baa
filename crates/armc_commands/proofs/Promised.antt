-- A reply to a command tells the first fault of its protocol, or keeps what the command promises.
use Rattle.std.proofs.Common.{ℕ, List, inl, inr}
use Rattle.protocol_syntax.specs.declared.protocol.Protocol.{Protocol}
use Rattle.command_words.specs.Words.{Command}
use Rattle.command_replies.specs.declared.reply.Reply.{Reply}
use Rattle.command_replies.specs.Reading.{IsFaultless}
use Rattle.armc_commands.specs.Commands.{CommandReply, Promise}
use Rattle.armc_commands.specs.ReplyLaws.{RepliesKeepPromises}
use Rattle.armc_commands.proofs.ByCommand.{by_command}

pub promised : ((command : Command) (source : List ℕ) (p : Protocol) (text : List ℕ) (reply : Reply) → IsFaultless source p → CommandReply command p text reply
    → Promise command p text reply) → RepliesKeepPromises
promised keep words told command reply asked is = elim (by_command words told command asked reply is) [
  | inl refuses ↦ inl refuses
  | inr out ↦ inr (record {
    protocol = out.protocol;
    text = out.text;
    has_protocol = out.has_protocol;
    is_text = out.is_text;
    promised = keep command out.has_protocol.text out.protocol out.text reply out.has_protocol.says out.replies;
  })
]
