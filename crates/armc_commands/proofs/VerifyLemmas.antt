-- The status of `verify` is 0 exactly where the text shows a proof.
use Rattle.std.proofs.Common.{◌≡◌, ◌∙◌, ℕ, List, inl, inr, refl, sym, ap, subst}
use Rattle.word_automata.specs.Automaton.{Automaton}
use Rattle.protocol_model.specs.System.{SystemData, IsValid}
use Rattle.certificate.specs.OneReading.{MeaningIsDetermined, FaultExcludesMeaning}
use Rattle.certificate.specs.declared.safe.Certificate.{Certificate}
use Rattle.certificate.specs.declared.safe.Certificate.TheVariants as certificate
use Rattle.certificate_checker.specs.Answers.{IsAnswer}
use Rattle.certificate_checker.specs.OneAnswer.{AnswerIsDetermined}
use Rattle.certificate_checker.specs.Proof.{Proves, IsSafe}
use Rattle.certificate_checker.specs.declared.answer.Answer.{Answer}
use Rattle.certificate_checker.specs.declared.answer.Answer.TheVariants.{Valid}
use Rattle.command_replies.specs.declared.status.Status.TheVariants as status
use Rattle.command_replies.specs.declared.reply.Reply.{Reply}
use Rattle.armc_commands.specs.Commands.Verify.{IsProofOf, Judges, IsVerifyReply, ShowsProof, VerifyPromise, answer_status}

-- a certificate is a proof exactly where it is valid
valid-proves : ((s : SystemData) (m : Automaton) → Proves s m → IsSafe s) → (s : SystemData) (c : Certificate) → IsAnswer s c Valid → IsProofOf s c
valid-proves sound s (certificate.Automaton m) h = (h, sound s m h)
valid-proves sound s (certificate.BadRun run) h = h

proof_valid : (s : SystemData) (c : Certificate) → IsProofOf s c → IsAnswer s c Valid
proof_valid s (certificate.Automaton m) h = h.0
proof_valid s (certificate.BadRun run) h = h

done-valid : (a : Answer) → answer_status a ≡ status.Done → a ≡ Valid
done-valid Valid e = refl
done-valid _ e = absurd (cc e)

module _ (sound : (s : SystemData) (m : Automaton) → Proves s m → IsSafe s) (meaning : MeaningIsDetermined) (either : FaultExcludesMeaning)
    (answer-once : AnswerIsDetermined) (s : SystemData) (valid : IsValid s) (text : List ℕ) (reply : Reply) where
  judged-shows : Judges s text reply → reply.status ≡ status.Done → ShowsProof s text
  judged-shows h done =
      let is_valid = done-valid h.answer (sym (ap (λ (r : Reply). r.status) h.reply_is) ∙ done) in
      record {
        certificate = h.certificate;
        means = h.means;
        is_proof = valid-proves sound s h.certificate (subst (IsAnswer s h.certificate) is_valid h.is_answer);
      }

  shown-judged : ShowsProof s text → Judges s text reply → reply.status ≡ status.Done
  shown-judged shows h =
      let same = meaning s valid text shows.certificate h.certificate shows.means h.means in
      let proved = proof_valid s h.certificate (subst (IsProofOf s) same shows.is_proof) in
      ap (λ (r : Reply). r.status) h.reply_is ∙ ap answer_status (answer-once s h.certificate h.answer Valid h.is_answer proved)

  pub verify-promised : IsVerifyReply s text reply → VerifyPromise s text reply
  verify-promised h = elim h [
    | inl refuses ↦ (
      λ done. absurd (let e = sym (ap (λ (r : Reply). r.status) refuses.reply_is) ∙ done in cc e),
      λ shows. absurd (either s valid text refuses.fault shows.certificate refuses.is_first shows.means),
    )
    | inr judges ↦ (judged-shows judges, λ shows. shown-judged shows judges)
  ]
