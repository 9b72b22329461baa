-- What words decide, and what other words decide whose command reads the same texts: each text that is told has one reading, so that both commands are
-- carried out for the same protocol and the same second text.
use Rattle.std.proofs.Common.{◌≡◌, ◌≢◌, ◌≤◌, ◌<◌, ◌⊎◌, inl, inr, ℕ, List, length, Option, None, Some, IfSome, Result, Ok, Err, refl, sym, ap, subst, ◌∙◌, arith, codes}
use Rattle.std.specs.Prelude.{IsSome}
use Rattle.protocol_syntax.specs.declared.protocol.Protocol.{Protocol}
use Rattle.protocol_syntax.specs.Grammar.{protocol}
use Rattle.protocol_syntax.specs.OneReading.{ProtocolIsDetermined, FaultIsDetermined, FaultExcludesProtocol}
use Rattle.protocol_model.specs.Faults.{first_fault}
use Rattle.command_words.specs.Words.{Command, command_of}
use Rattle.command_replies.specs.declared.status.Status.TheVariants.{ProtocolRefused}
use Rattle.command_replies.specs.declared.reply.Reply.{Reply}
use Rattle.command_replies.specs.declared.failure.Failure.{Failure}
use Rattle.command_replies.specs.declared.failure.Failure.TheVariants.{ReadFault, TooLong, Memory}
use Rattle.armc_commands.specs.Origin.{Told, Origin, named, given, generated, IsTextFrom}
use Rattle.armc_commands.specs.private.LibraryReads.{IsToldOrigin}
use Rattle.command_replies.specs.Reading.{IsFaultless}
use Rattle.armc_commands.proofs.ByCommand.{by_command, read_by}
use Rattle.armc_commands.proofs.QuietReads.{first_told, second_told}
use Rattle.command_replies.proofs.ForCallers.{refusal_once, refused_or_faultless}
use Rattle.command_replies.specs.Refusal.{IsRefusalOf}
use Rattle.command_replies.specs.Reply.{refusal_reply}
use Rattle.armc_commands.specs.Commands.{protocol_origin, second_origin, CommandReply}
use Rattle.armc_commands.specs.Outcome.{HasProtocol, RefusesProtocol, CarriesOut, IsRead, TellsTexts, IsToldTooLong, IsDecidedBy}

one_text : (o : Option (List ℕ)) (a b : List ℕ) → IsSome o → IfSome o (λ x. a ≡ x) → IfSome o (λ x. b ≡ x) → a ≡ b
one_text None a b some h k = absurd (cc some)
one_text (Some x) a b some h k = h ∙ sym k

not_longer : (o : Option (List ℕ)) (a : List ℕ) (limit : ℕ) → IsSome o → IfSome o (λ x. a ≡ x) → length a ≤ limit → IfSome o (λ x. limit < length x) → ⊥
not_longer None a limit some h within longer = absurd (cc some)
not_longer (Some x) a limit some h within longer = let same = ap length h in omega (arith, same, within, longer)

-- a text that is told has one meaning
module _ (told : Told) where
  origin_once : (origin : Origin) (a b : List ℕ) → IsToldOrigin told origin → IsTextFrom told origin a → IsTextFrom told origin b → a ≡ b
  origin_once (named name limit) a b some h k = one_text (told name) a b some h.whole k.whole
  origin_once (given text) a b some h k = h ∙ sym k
  origin_once (generated number) a b some h k = h ∙ sym k

  origin_within : (origin : Origin) (a : List ℕ) (name : List ℕ) (limit : ℕ) → IsSome (told name) → IsTextFrom told origin a
      → origin ≡ named name limit → IfSome (told name) (λ x. limit < length x) → ⊥
  origin_within origin a name limit some h e longer =
      let of_name = subst (λ o. IsTextFrom told o a) e h in
      not_longer (told name) a limit some of_name.whole of_name.within longer

-- the command was carried out for its texts, with a reply of this kind
record Carries (told : Told) (command : Command) (Replies : Protocol → List ℕ → Reply → Type 0) (reply : Reply) : Type 0 where
  pub protocol : Protocol
  pub text : List ℕ
  pub has_protocol : HasProtocol told command protocol
  pub is_text : IsTextFrom told (second_origin command) text
  pub replies : Replies protocol text reply

abbrev Replied : Told → Command → (Protocol → List ℕ → Reply → Type 0) → Reply → Type 0
Replied told command Replies reply = RefusesProtocol told command reply ⊎ Carries told command Replies reply

-- what is said of a command, where another has its origins
module _ (told : Told) (command other : Command) (first : protocol_origin other ≡ protocol_origin command)
    (second : second_origin other ≡ second_origin command) where
  protocol_moved : (p : Protocol) → HasProtocol told other p → HasProtocol told command p
  protocol_moved p h = record { text = h.text; is_text = subst (λ (o : Origin). IsTextFrom told o h.text) first h.is_text; says = h.says }

  read_moved : (name : List ℕ) (limit : ℕ) → IsRead told other name limit → IsRead told command name limit
  read_moved name limit h = elim h [
    | inl e ↦ inl (sym first ∙ e)
    | inr later ↦ inr (sym second ∙ later.0, (later.1.0, protocol_moved later.1.0 later.1.1))
  ]

  replied : (reply : Reply) → RefusesProtocol told other reply ⊎ CarriesOut told other reply → Replied told command (CommandReply other) reply
  replied reply h = elim h [
    | inl refuses ↦ inl (record {
      refusal = refuses.refusal;
      text = refuses.text;
      is_text = subst (λ (o : Origin). IsTextFrom told o refuses.text) first refuses.is_text;
      refused = refuses.refused;
      reply_is = refuses.reply_is;
    })
    | inr carries ↦ inr (record {
      protocol = carries.protocol;
      text = carries.text;
      has_protocol = protocol_moved carries.protocol carries.has_protocol;
      is_text = subst (λ (o : Origin). IsTextFrom told o carries.text) second carries.is_text;
      replies = carries.replies;
    })
  ]

module _ (protocol_once : ProtocolIsDetermined) (fault_once : FaultIsDetermined) (fault_or_protocol : FaultExcludesProtocol)
    (words : List (List ℕ)) (told : Told) (tells : TellsTexts words told) (command : Command) (asked : command_of words ≡ Some command) where
  name_told : (name : List ℕ) (limit : ℕ) → IsRead told command name limit → IsSome (told name)
  name_told name limit is_read = tells name limit (record { command = command; asked = asked; is_read = is_read })

  first_once : (a b : List ℕ) → IsTextFrom told (protocol_origin command) a → IsTextFrom told (protocol_origin command) b → a ≡ b
  first_once a b = origin_once told (protocol_origin command) a b (first_told words told tells command asked)

  not_both : (p : Protocol) (reply : Reply) → RefusesProtocol told command reply → HasProtocol told command p → ⊥
  not_both p reply refuses has =
      let same = first_once refuses.text has.text refuses.is_text has.is_text in
      refused_or_faultless protocol first_fault has.text (protocol_once has.text) (fault_once has.text) (fault_or_protocol has.text) refuses.refusal p
      (subst (λ text. IsRefusalOf text refuses.refusal) same refuses.refused) has.says.is_protocol has.says.no_fault

  refused_once : (r q : Reply) → RefusesProtocol told command r → RefusesProtocol told command q → r ≡ q
  refused_once r q h k =
      let same = first_once h.text k.text h.is_text k.is_text in
      let refusals = refusal_once protocol first_fault k.text (protocol_once k.text) (fault_once k.text) (fault_or_protocol k.text) h.refusal k.refusal
      (subst (λ text. IsRefusalOf text h.refusal) same h.refused) k.refused in
      h.reply_is ∙ ap (refusal_reply (codes "protocol") ProtocolRefused) refusals ∙ sym k.reply_is

  first_within : (text : List ℕ) (name : List ℕ) (limit : ℕ) → IsTextFrom told (protocol_origin command) text
      → protocol_origin command ≡ named name limit → IfSome (told name) (λ x. limit < length x) → ⊥
  first_within text name limit is e longer = origin_within told (protocol_origin command) text name limit (name_told name limit (inl e)) is e longer

  none_too_long : (Replies : Protocol → List ℕ → Reply → Type 0) (r : Reply) (name : List ℕ) (limit : ℕ) → Replied told command Replies r
      → IsRead told command name limit → IfSome (told name) (λ x. limit < length x) → ⊥
  none_too_long Replies r name limit h is_read longer = elim h [
    | inl refuses ↦ elim is_read [
      | inl e ↦ first_within refuses.text name limit refuses.is_text e longer
      | inr later ↦ not_both later.1.0 r refuses later.1.1
    ]
    | inr carries ↦ elim is_read [
      | inl e ↦ first_within carries.has_protocol.text name limit carries.has_protocol.is_text e longer
      | inr later ↦ origin_within told (second_origin command) carries.text name limit (name_told name limit (inr later)) carries.is_text later.0 longer
    ]
  ]

  too_long_once : (name other : List ℕ) (limit bound : ℕ) → IsRead told command name limit → IsRead told command other bound
      → IfSome (told name) (λ x. limit < length x) → IfSome (told other) (λ x. bound < length x) → name ≡ other
  too_long_once name other limit bound h k longer longer_too = elim h [
    | inl e ↦ elim k [
      | inl d ↦ let same : named name limit ≡ named other bound = sym e ∙ d in cc same
      | inr later ↦ absurd (first_within later.1.1.text name limit later.1.1.is_text e longer)
    ]
    | inr later ↦ elim k [
      | inl d ↦ absurd (first_within later.1.1.text other bound later.1.1.is_text d longer_too)
      | inr later_too ↦ let same : named name limit ≡ named other bound = sym later.0 ∙ later_too.0 in cc same
    ]
  ]

  -- replies to the command and to another with its origins are related, where those are that carry them out for the same texts
  module _ (other : Command) (first : protocol_origin other ≡ protocol_origin command) (second : second_origin other ≡ second_origin command)
      (R : Result Reply Failure → Result Reply Failure → Type 0) (same : (outcome : Result Reply Failure) → R outcome outcome)
      (each : (source : List ℕ) (p : Protocol) (text : List ℕ) (r q : Reply) → IsFaultless source p → CommandReply command p text r
      → CommandReply other p text q → R (Ok r) (Ok q)) where
    carried_alike : (r q : Reply) → Carries told command (CommandReply command) r → Carries told command (CommandReply other) q → R (Ok r) (Ok q)
    carried_alike r q h k =
        let source = k.has_protocol.text in
        let read = subst (λ text. IsFaultless text h.protocol) (first_once h.has_protocol.text source h.has_protocol.is_text k.has_protocol.is_text) h.has_protocol.says in
        let protocols = protocol_once source h.protocol k.protocol read.is_protocol k.has_protocol.says.is_protocol in
        let texts = origin_once told (second_origin command) h.text k.text (second_told words told tells command asked h.protocol h.has_protocol) h.is_text k.is_text in
        let moved = subst (λ p. CommandReply command p h.text r) protocols h.replies in
        each source k.protocol k.text r q k.has_protocol.says (subst (λ text. CommandReply command k.protocol text r) texts moved) k.replies

    replies_alike : (r q : Reply) → Replied told command (CommandReply command) r → Replied told command (CommandReply other) q → R (Ok r) (Ok q)
    replies_alike r q h k = elim h [
      | inl refuses ↦ elim k [
        | inl refuses_too ↦ subst (λ reply. R (Ok r) (Ok reply)) (refused_once r q refuses refuses_too) (same (Ok r))
        | inr carries ↦ absurd (not_both carries.protocol r refuses carries.has_protocol)
      ]
      | inr carries ↦ elim k [
        | inl refuses ↦ absurd (not_both carries.protocol q refuses carries.has_protocol)
        | inr carries_too ↦ carried_alike r q carries carries_too
      ]
    ]

    module _ (others : List (List ℕ)) (asked_too : command_of others ≡ Some other) where
      replied_first : (r : Reply) → IsDecidedBy words told (Ok r) → Replied told command (CommandReply command) r
      replied_first r h = replied told command command refl refl r (by_command words told command asked r h)

      replied_second : (q : Reply) → IsDecidedBy others told (Ok q) → Replied told command (CommandReply other) q
      replied_second q k = replied told command other first second q (by_command others told other asked_too q k)

      read_second : (name : List ℕ) (limit : ℕ) → IsToldTooLong others told name limit → IsRead told command name limit
      read_second name limit k = read_moved told command other first second name limit (read_by others told other asked_too name limit k)

      names_alike : (name name' : List ℕ) (limit limit' : ℕ) → IsToldTooLong words told name limit → IsToldTooLong others told name' limit' → name ≡ name'
      names_alike name name' limit limit' h k =
          too_long_once name name' limit limit' (read_by words told command asked name limit h) (read_second name' limit' k) h.longer k.longer

      pub outcomes_alike : (one two : Result Reply Failure) → IsDecidedBy words told one → IsDecidedBy others told two → one ≢ Err Memory → two ≢ Err Memory
          → R one two
      outcomes_alike (Ok r) (Ok q) h k m n = replies_alike r q (replied_first r h) (replied_second q k)
      outcomes_alike (Ok r) (Err (ReadFault name)) h k m n = absurd k
      outcomes_alike (Ok r) (Err (TooLong name)) h k m n =
          absurd (none_too_long (CommandReply command) r name k.0 (replied_first r h) (read_second name k.0 k.1) k.1.longer)
      outcomes_alike (Err (TooLong name)) (Ok q) h k m n =
          absurd (none_too_long (CommandReply other) q name h.0 (replied_second q k) (read_by words told command asked name h.0 h.1) h.1.longer)
      outcomes_alike (Err (TooLong name)) (Err (ReadFault name')) h k m n = absurd k
      outcomes_alike (Err (TooLong name)) (Err (TooLong name')) h k m n =
          subst (λ (x : List ℕ). R (Err (TooLong name)) (Err (TooLong x))) (names_alike name name' h.0 k.0 h.1 k.1) (same (Err (TooLong name)))
      outcomes_alike (Err (ReadFault name)) two h k m n = absurd h
      outcomes_alike (Err Memory) two h k m n = absurd (m refl)
      outcomes_alike one (Err Memory) h k m n = absurd (n refl)
