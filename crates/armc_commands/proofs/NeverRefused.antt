-- No reply to `gen` refuses its protocol: its words ask for a chain, whose text says a protocol without a fault.
use Rattle.std.proofs.Common.{ℕ, List, Option, arith, subst, inl, inr}
use Rattle.std.specs.Prelude.{IfSome}
use Rattle.chain_protocol.specs.Chain.{chain_text}
use Rattle.chain_protocol.proofs.ForCallers.{text_says_chain}
use Rattle.command_words.specs.Words.{Command, IsGenerate, IsInRange, generate}
use Rattle.command_words.proofs.ForCallers.{commands_in_range}
use Rattle.protocol_syntax.specs.Grammar.{protocol}
use Rattle.protocol_syntax.specs.OneReading.{ProtocolIsDetermined, FaultIsDetermined, FaultExcludesProtocol}
use Rattle.protocol_model.specs.Faults.{first_fault}
use Rattle.protocol_model.specs.Numbering.{system_of}
use Rattle.command_replies.specs.declared.status.Status.TheVariants as status
use Rattle.command_replies.specs.declared.reply.Reply.{Reply}
use Rattle.armc_commands.specs.declared.search_reply.Telling.TheVariants.{Summary}
use Rattle.armc_commands.specs.SearchReply.{only_part}
use Rattle.armc_commands.specs.Commands.Generate.{default_search}
use Rattle.armc_commands.specs.Origin.{Told}
use Rattle.command_replies.specs.Refusal.{IsRefusalOf}
use Rattle.armc_commands.specs.Outcome.{RefusesProtocol}
use Rattle.armc_commands.specs.ReplyLaws.{GenerateIsNeverRefused}
use Rattle.armc_commands.proofs.ByCommand.{by_command}
use Rattle.armc_commands.proofs.SearchLemmas.{not-of-search}
use Rattle.command_replies.proofs.ForCallers.{refused_or_faultless}

module _ (protocol_once : ProtocolIsDetermined) (fault_once : FaultIsDetermined) (either : FaultExcludesProtocol) (told : Told)
    (number workers : ℕ) (reply : Reply) (within : IsGenerate number workers) where
  not_refused : RefusesProtocol told (generate number workers) reply → ⊥
  not_refused refuses =
      let text = chain_text number in
      let chain = text_says_chain number (omega (arith, within.number_low)) within.number_high in
      refused_or_faultless protocol first_fault text (protocol_once text) (fault_once text) (either text) refuses.refusal chain.protocol
      (subst (λ (source : List ℕ). IsRefusalOf source refuses.refusal) refuses.is_text refuses.refused) chain.says chain.no_fault

pub never_refused : ProtocolIsDetermined → FaultIsDetermined → FaultExcludesProtocol → GenerateIsNeverRefused
never_refused protocol_once fault_once either words told number workers reply asked is refused =
    elim (by_command words told (generate number workers) asked reply is) [
      | inl refuses ↦
          let within : IsGenerate number workers = subst (λ (o : Option Command). IfSome o IsInRange) asked (commands_in_range words) in
          not_refused protocol_once fault_once either told number workers reply within refuses
      | inr out ↦
          not-of-search status.ProtocolRefused (λ e. cc e) (λ e. cc e) (λ e. cc e) (Summary number) (only_part (system_of out.protocol) default_search) reply
          out.replies refused
    ]
