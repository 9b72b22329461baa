-- What words decide that are a command: they are no other one.
use Rattle.std.proofs.Common.{◌≡◌, ◌⊎◌, ◌∙◌, inl, inr, ℕ, List, None, Some, sym, subst}
use Rattle.command_words.specs.Words.{Command, command_of}
use Rattle.command_replies.specs.declared.reply.Reply.{Reply}
use Rattle.armc_commands.specs.Origin.{Told}
use Rattle.armc_commands.specs.Outcome.{RefusesProtocol, CarriesOut, IsReply, IsRead, IsToldTooLong}

module _ (words : List (List ℕ)) (told : Told) (command : Command) (asked : command_of words ≡ Some command) where
  same_asked : (other : Command) → command_of words ≡ Some other → other ≡ command
  same_asked other h = let same : Some other ≡ Some command = sym h ∙ asked in cc same

  pub by_command : (reply : Reply) → IsReply words told reply → RefusesProtocol told command reply ⊎ CarriesOut told command reply
  by_command reply h = elim h [
    | inl none ↦ absurd (let e : None ≡ Some command = sym none.0 ∙ asked in cc e)
    | inr to_command ↦
        let P : Command → Type 0 = λ c. RefusesProtocol told c reply ⊎ CarriesOut told c reply in
        subst P (same_asked to_command.command to_command.asked) to_command.replies
  ]

  pub read_by : (name : List ℕ) (limit : ℕ) → IsToldTooLong words told name limit → IsRead told command name limit
  read_by name limit h = subst (λ c. IsRead told c name limit) (same_asked h.reads.command h.reads.asked) h.reads.is_read
