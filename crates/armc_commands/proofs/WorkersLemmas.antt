-- Words whose commands differ in the number of workers alone decide the same. So the words of a command decide one reply, as those of none do.
use Rattle.std.proofs.Common.{◌≡◌, ◌≢◌, ◌∙◌, ℕ, List, Option, None, Some, Result, Ok, Err, inl, inr, refl, sym, ap, subst}
use Rattle.protocol_syntax.specs.declared.protocol.Protocol.{Protocol}
use Rattle.protocol_syntax.specs.OneReading.{ProtocolIsDetermined, FaultIsDetermined, FaultExcludesProtocol}
use Rattle.command_words.specs.Words.{Command, command_of, verify}
use Rattle.command_replies.specs.declared.reply.Reply.{Reply}
use Rattle.command_replies.specs.declared.failure.Failure.{Failure}
use Rattle.command_replies.specs.declared.failure.Failure.TheVariants.{ReadFault, TooLong, Memory}
use Rattle.command_replies.specs.Reading.{IsFaultless}
use Rattle.command_replies.specs.Reply.{usage}
use Rattle.armc_commands.specs.Origin.{Told}
use Rattle.armc_commands.specs.Commands.{protocol_origin, second_origin, CommandReply}
use Rattle.armc_commands.specs.Outcome.{IsDecidedBy}
use Rattle.armc_commands.specs.OneReply.{HasOneReply}
use Rattle.armc_commands.specs.ReplyLaws.{with_one_worker, WorkersKeepReply}
use Rattle.armc_commands.proofs.OneReplyLemmas.{outcomes_alike}

-- the number of workers matters neither to the texts of a command nor to its reply
same_first : (c : Command) → protocol_origin (with_one_worker c) ≡ protocol_origin c
same_first (verify file certificate) = refl
same_first _ = refl

same_second : (c : Command) → second_origin (with_one_worker c) ≡ second_origin c
same_second (verify file certificate) = refl
same_second _ = refl

with_one : (c : Command) (p : Protocol) (text : List ℕ) (reply : Reply) → CommandReply c p text reply → CommandReply (with_one_worker c) p text reply
with_one (verify file certificate) p text reply h = h
with_one _ p text reply h = h

of_any : (c : Command) (p : Protocol) (text : List ℕ) (reply : Reply) → CommandReply (with_one_worker c) p text reply → CommandReply c p text reply
of_any (verify file certificate) p text reply h = h
of_any _ p text reply h = h

pub workers_keep : ProtocolIsDetermined → FaultIsDetermined → FaultExcludesProtocol
    → ((command : Command) (source : List ℕ) (p : Protocol) (text : List ℕ) (r q : Reply) → IsFaultless source p → CommandReply command p text r
    → CommandReply command p text q → r ≡ q)
    → (words : List (List ℕ)) (told : Told) → WorkersKeepReply words told
workers_keep protocol_once fault_once either command_once words told others outcome other d tells h k m n =
    outcomes_alike protocol_once fault_once either words told tells d.command d.asked d.other
    (sym (same_first d.other) ∙ ap protocol_origin d.same ∙ same_first d.command)
    (sym (same_second d.other) ∙ ap second_origin d.same ∙ same_second d.command) (λ one two. one ≡ two) (λ _. refl)
    (λ source p text r q says by_command by_other.
    let one = subst (λ (c : Command). CommandReply c p text q) d.same (with_one d.other p text q by_other) in
    ap Ok (command_once d.command source p text r q says by_command (of_any d.command p text q one))) others d.asked_too outcome other h k m n

-- words that mean no command are answered by the usage
usage_alone : (words : List (List ℕ)) (told : Told) (outcome : Result Reply Failure) → command_of words ≡ None → IsDecidedBy words told outcome
    → outcome ≢ Err Memory → outcome ≡ Ok usage
usage_alone words told (Ok reply) none h m = elim h [
  | inl is ↦ ap Ok is.1
  | inr to_command ↦ absurd (let e = sym none ∙ to_command.asked in cc e)
]
usage_alone words told (Err (ReadFault name)) none h m = absurd h
usage_alone words told (Err (TooLong name)) none h m = absurd (let e = sym none ∙ h.1.reads.asked in cc e)
usage_alone words told (Err Memory) none h m = absurd (m refl)

pub one_reply : ((words : List (List ℕ)) (told : Told) → WorkersKeepReply words told) → (words : List (List ℕ)) (told : Told) → HasOneReply words told
one_reply keep words told one other tells h k m n = go (command_of words) refl
  where
    go : (asked : Option Command) → command_of words ≡ asked → one ≡ other
    go None none = usage_alone words told one none h m ∙ sym (usage_alone words told other none k n)
    go (Some command) is =
        keep words told words one other (record { command = command; other = command; asked = is; asked_too = is; same = refl }) tells h k m n
