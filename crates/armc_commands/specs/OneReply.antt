-- Law: the words and the told texts decide one reply.
use Rattle.std.specs.Prelude.{◌≡◌, ◌≢◌, ℕ, List, Result, Err}
use Rattle.command_replies.specs.declared.reply.Reply.{Reply}
use Rattle.command_replies.specs.declared.failure.Failure.{Failure}
use Rattle.command_replies.specs.declared.failure.Failure.TheVariants.{Memory}
use Rattle.armc_commands.specs.Origin.{Told}
use Rattle.armc_commands.specs.Outcome.{TellsTexts, IsDecidedBy}

-- where every text that the words read is told, what they decide other than running out of memory is one
abbrev pub HasOneReply : List (List ℕ) → Told → Type 0
HasOneReply words told =
    (outcome other : Result Reply Failure) → TellsTexts words told → IsDecidedBy words told outcome → IsDecidedBy words told other
    → outcome ≢ Err Memory → other ≢ Err Memory → outcome ≡ other
