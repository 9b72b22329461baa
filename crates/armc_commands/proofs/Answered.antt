-- From what a call comes to and its delivery to what the whole call answers.
use Rattle.std.proofs.Common.{◌≡◌, ◌<◌, ◌≤◌, ◌⊎◌, arith, inl, inr, ℕ, List, false, Some, Result, Ok, Err, IsTrue, refl, sym, ap, ◌∙◌, true≢false}
use Rattle.armc_io.specs.Faults.{Rose, last_count}
use Rattle.armc_io.specs.Library.{LibraryState}
use Rattle.armc_io.specs.Sink.{SinkState}
use Rattle.command_words.specs.Words.{Command, command_of}
use Rattle.command_replies.specs.declared.status.Status.{Status}
use Rattle.command_replies.specs.declared.status.Status.TheVariants as status
use Rattle.command_replies.specs.declared.reply.Reply.{Reply}
use Rattle.command_replies.specs.declared.failure.Failure.{Failure}
use Rattle.command_replies.specs.declared.failure.Failure.TheVariants.{ReadFault, TooLong, Memory}
use Rattle.command_replies.specs.Reply.{reply_of}
use Rattle.armc_commands.specs.ReplyLaws.{RepliesKeepPromises}
use Rattle.armc_commands.specs.Outcome.{IsReliableFor, IsOutcome, IsDecidedBy, IsReply}
use Rattle.armc_commands.specs.Answer.{Answers, DeliversCounted, AreQuietEnds, KeepsCounts, IsWholeReply, KeepsPromise, IsSound, IsQuiet, IsDecided, is_own}

pub Answers-made : (words : List (List ℕ)) (l l' : LibraryState) (o o' e e' : SinkState) (result : Status) (outcome : Result Reply Failure)
    → IsOutcome words l l' outcome
    → DeliversCounted (reply_of outcome) o o' e e' result ⊎ DeliversCounted (reply_of (Err Memory)) o o' e e' result
    → Answers words l l' o o' e e' result
Answers-made words l l' o o' e e' result outcome is which = elim which [
  | inl d ↦ record { outcome = outcome; is_outcome = is; delivered = d.delivered }
  | inr d ↦ record { outcome = Err Memory; is_outcome = tt; delivered = d.delivered }
]

-- a reply with a status of the command's own keeps what the command promises
module _ (keep : RepliesKeepPromises) (words : List (List ℕ)) (l l' : LibraryState) (o o' e e' : SinkState) (result : Status) (command : Command)
    (asked : command_of words ≡ Some command) (own : IsTrue (is_own result)) where
  not_own : (other : Status) → is_own other ≡ false → result ≡ other → ⊥
  not_own other none same = true≢false (sym own ∙ ap is_own same ∙ none)

  replied : (reply : Reply) → IsReply words l.told reply → IsWholeReply reply o o' e e' result → KeepsPromise l.told command o o' e e' result
  replied reply is whole = elim (keep words l.told command reply asked is) [
    | inl refused ↦ absurd (not_own status.ProtocolRefused refl (whole.status_is ∙ ap (λ (r : Reply). r.status) refused.reply_is))
    | inr kept ↦ record {
      protocol = kept.protocol;
      text = kept.text;
      reply = reply;
      has_protocol = kept.has_protocol;
      is_text = kept.is_text;
      promised = kept.promised;
      whole = whole;
    }
  ]

  whole_outcome : (outcome : Result Reply Failure) → IsOutcome words l l' outcome → IsWholeReply (reply_of outcome) o o' e e' result
      → KeepsPromise l.told command o o' e e' result
  whole_outcome (Ok reply) is whole = replied reply is whole
  whole_outcome (Err (ReadFault name)) is whole = absurd (not_own status.ReadFault refl whole.status_is)
  whole_outcome (Err (TooLong name)) is whole = absurd (not_own status.ReadFault refl whole.status_is)
  whole_outcome (Err Memory) is whole = absurd (not_own status.Memory refl whole.status_is)

  kept : Answers words l l' o o' e e' result → KeepsPromise l.told command o o' e e' result
  kept answer = elim answer.delivered [
    | inl whole ↦ whole_outcome answer.outcome answer.is_outcome whole
    | inr failed ↦ elim failed [
      | inl at_out ↦ absurd (not_own status.WriteFault refl at_out.status_is)
      | inr at_err ↦ absurd (not_own status.WriteFault refl at_err.status_is)
    ]
  ]

pub IsSound-answer : RepliesKeepPromises → (words : List (List ℕ)) (l l' : LibraryState) (o o' e e' : SinkState) (result : Status)
    → Answers words l l' o o' e e' result → IsSound words l.told o o' e e' result
IsSound-answer keep words l l' o o' e e' result answer = λ command asked own. kept keep words l l' o o' e e' result command asked own answer

-- where no fault was counted, the words and the told texts decide what the call comes to
decided : (words : List (List ℕ)) (l l' : LibraryState) (outcome : Result Reply Failure)
    → (Rose l.faults l'.faults → ⊥) → IsOutcome words l l' outcome → IsDecidedBy words l.told outcome
decided words l l' (Ok reply) quiet is = is
decided words l l' (Err (ReadFault name)) quiet is = quiet is.rose
decided words l l' (Err (TooLong name)) quiet is = (is.limit, is.told_so)
decided words l l' (Err Memory) quiet is = tt

pub IsDecided-answer : (words : List (List ℕ)) (l l' : LibraryState) (o o' e e' : SinkState) (result : Status)
    → Answers words l l' o o' e e' result → IsQuiet l l' o o' e e' → IsDecided words l.told o o' e e' result
IsDecided-answer words l l' o o' e e' result answer quiet = elim answer.delivered [
  | inl whole ↦ record {
    outcome = answer.outcome;
    is_decided = decided words l l' answer.outcome quiet.library_quiet answer.is_outcome;
    whole = whole;
  }
  | inr failed ↦ elim failed [
    | inl at_out ↦ absurd (quiet.out_quiet at_out.out_rose)
    | inr at_err ↦ absurd (quiet.err_quiet at_err.err_rose)
  ]
]

-- a count that stays below its last value did not rise
stays : (old new : ℕ) → new ≡ old → old < last_count → Rose old new → ⊥
stays old new same below rose = elim rose [ inl less ↦ omega (arith, same, less) | inr last ↦ omega (arith, same, below, last) ]

-- over ends that do not fail no count rises
pub IsQuiet-ends : (words : List (List ℕ)) (l l' : LibraryState) (o o' e e' : SinkState) (result : Status) (outcome : Result Reply Failure)
    → IsOutcome words l l' outcome → (IsReliableFor words l → l'.faults ≡ l.faults)
    → DeliversCounted (reply_of outcome) o o' e e' result ⊎ DeliversCounted (reply_of (Err Memory)) o o' e e' result
    → AreQuietEnds words l o e → IsQuiet l l' o o' e e'
IsQuiet-ends words l l' o o' e e' result outcome is quiet which ends =
    let library_quiet = stays l.faults l'.faults (quiet ends.library_reliable) ends.library_below in
    let told = decided words l l' outcome library_quiet is in
    elim which [
      | inl d ↦ record {
        library_quiet = library_quiet;
        out_quiet = stays o.faults o'.faults (d.out_faults.kept (ends.out_room outcome told)) ends.out_below;
        err_quiet = stays e.faults e'.faults (d.err_faults.kept (ends.err_room outcome told)) ends.err_below;
      }
      | inr d ↦ record {
        library_quiet = library_quiet;
        out_quiet = stays o.faults o'.faults (d.out_faults.kept (ends.out_room (Err Memory) tt)) ends.out_below;
        err_quiet = stays e.faults e'.faults (d.err_faults.kept (ends.err_room (Err Memory) tt)) ends.err_below;
      }
    ]

pub KeepsCounts-made : (l l' : LibraryState) (o o' e e' : SinkState) (result : Status) (outcome : Result Reply Failure) → l.faults ≤ l'.faults
    → DeliversCounted (reply_of outcome) o o' e e' result ⊎ DeliversCounted (reply_of (Err Memory)) o o' e e' result
    → KeepsCounts l l' o o' e e'
KeepsCounts-made l l' o o' e e' result outcome no_fall which = elim which [
  | inl d ↦ record { library_count = no_fall; out_count = d.out_faults.no_fall; err_count = d.err_faults.no_fall }
  | inr d ↦ record { library_count = no_fall; out_count = d.out_faults.no_fall; err_count = d.err_faults.no_fall }
]
