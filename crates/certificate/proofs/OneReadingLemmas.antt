-- A text means one certificate or has one first fault, and never both.
use Rattle.std.proofs.Common.{◌≡◌, ◌≢◌, ◌↔◌, false, true≢false, IsTrue, ℕ, List, refl, sym, subst, ap, ◌∙◌}
use Rattle.std.specs.List.{AllByRecursion}
use Rattle.protocol_model.specs.declared.system.Run.{Run}
use Rattle.protocol_model.specs.System.{SystemData, IsValid}
use Rattle.protocol_model.specs.Patterns.{fits}
use Rattle.protocol_model.specs.Words.{automata_letters}
use Rattle.word_automata.specs.Automaton.{Automaton as AnyAutomaton, IsValid as IsValidAutomaton}
use Rattle.lines.specs.Document.{Answer, HasAnswer, means, fails}
use Rattle.lines.specs.declared.fault.Fault.{Fault}
use Rattle.lines.specs.declared.fault.Fault.TheVariants as Of
use Rattle.lines.proofs.ForCallers.{answer_one}
use Rattle.certificate.specs.declared.fault.CertFault.{CertFault}
use Rattle.certificate.specs.declared.fault.CertFault.TheVariants.{Version, BadLine, UnknownName, OutOfRange, TwoEdges, Truncated, NothingToVerify, TooMany, Memory, TwoLetters}
use Rattle.certificate.specs.declared.reading.Reading.{Reading}
use Rattle.certificate.specs.declared.safe.Certificate.{Certificate}
use Rattle.certificate.specs.declared.safe.Certificate.TheVariants.{Automaton, BadRun}
use Rattle.certificate.specs.declared.said.Place.{Place}
use Rattle.certificate.specs.declared.said.Place.TheVariants as At
use Rattle.certificate.specs.declared.said.What.{What}
use Rattle.certificate.specs.declared.said.What.TheVariants as W
use Rattle.certificate.specs.Faults.{HasFault, text_fault}
use Rattle.certificate.specs.Meaning.{IsCertificateOf}
use Rattle.certificate.specs.OneReading.{MeaningIsDetermined, FaultIsDetermined, FaultExcludesMeaning}
use Rattle.certificate.specs.RunText.{IsStepOf, MeansRun}
use Rattle.certificate.specs.SafeText.{IsAutomatonOf, MeansAutomaton}
use Rattle.certificate.specs.Stages.{Stage, certificate, is_run}
use Rattle.certificate.specs.private.Kept.{IsKept, IsBuiltFrom}
use Rattle.certificate.proofs.SameAutomatonLemmas.{automaton_unique}

same_stage : (t u : Stage) → (let a : Answer Stage What = means t in a) ≡ means u → t ≡ u
same_stage t u e = cc e

same_fault : (f g : Fault What) → (let a : Answer Stage What = fails f in a) ≡ fails g → f ≡ g
same_fault f g e = cc e

no_fault : (t : Stage) (f : Fault What) → (let a : Answer Stage What = means t in a) ≡ fails f → ⊥
no_fault t f e = cc e

-- what was read of a text that means a certificate
stage_of : (s : SystemData) (text : List ℕ) (c : Certificate) → IsCertificateOf s text c → (t : Stage) × HasAnswer (certificate s) text (means t)
stage_of s text (Automaton m) h = (h.read, h.is_read)
stage_of s text (BadRun run) h = (h.read, h.is_read)

same_read : (s : SystemData) (text : List ℕ) (t u : Stage) → HasAnswer (certificate s) text (means t) → HasAnswer (certificate s) text (means u) → t ≡ u
same_read s text t u h k = same_stage t u (answer_one (certificate s) text (means t) (means u) h k)

not_both : (s : SystemData) (text : List ℕ) (m : AnyAutomaton) (run : Run) → MeansAutomaton s text m → MeansRun s text run → ⊥
not_both s text m run h k =
    true≢false (sym k.of_run ∙ ap (λ (t : Stage). is_run t.place) (same_read s text k.read h.read k.is_read h.is_read) ∙ h.no_run)

pub meaning_once : MeaningIsDetermined
meaning_once s valid text (Automaton m) (Automaton n) h k =
    let same = same_read s text h.read k.read h.is_read k.is_read in
    ap Automaton (automaton_unique (automata_letters s) k.read.count k.read.lines m n
    (subst (λ (t : Stage). IsAutomatonOf (automata_letters s) t.count t.lines m) same h.automaton) k.automaton)
meaning_once s valid text (Automaton m) (BadRun run) h k = absurd (not_both s text m run h k)
meaning_once s valid text (BadRun run) (Automaton m) h k = absurd (not_both s text m run k h)
meaning_once s valid text (BadRun run) (BadRun other) h k =
    let same = same_read s text h.read k.read h.is_read k.is_read in
    let first = h.first_is ∙ ap (λ (t : Stage). t.first) same ∙ sym k.first_is in
    let steps = h.steps_are ∙ ap (λ (t : Stage). t.steps) same ∙ sym k.steps_are in
    λ i. BadRun (record { first = first i; steps = steps i })

-- the fault that it is the same of
abbrev fault_of : Fault What → CertFault
fault_of (Of.Truncated n) = Truncated n
fault_of (Of.BadLine n) = BadLine n
fault_of (Of.Wrong W.Version n) = Version n
fault_of (Of.Wrong W.NothingToVerify n) = NothingToVerify n
fault_of (Of.Wrong W.TooMany n) = TooMany n
fault_of (Of.Wrong W.UnknownName n) = UnknownName n
fault_of (Of.Wrong W.TwoLetters n) = TwoLetters n
fault_of (Of.Wrong W.OutOfRange n) = OutOfRange n
fault_of (Of.Wrong W.TwoEdges n) = TwoEdges n
fault_of Of.Memory = Memory

known_fault : (f : CertFault) → fault_of (text_fault f) ≡ f
known_fault (Version n) = refl
known_fault f = refl

pub fault_once : FaultIsDetermined
fault_once s valid text f g h k =
    sym (known_fault f)
    ∙ ap fault_of (same_fault (text_fault f) (text_fault g) (answer_one (certificate s) text (fails (text_fault f)) (fails (text_fault g)) h k))
    ∙ known_fault g

pub fault_excludes : FaultExcludesMeaning
fault_excludes s valid text f c h k =
    let stage = stage_of s text c k in
    no_fault stage.0 (text_fault f) (answer_one (certificate s) text (means stage.0) (fails (text_fault f)) stage.1 h)

module _ (s : SystemData) (valid : IsValid s) (text : List ℕ) where
  -- what was read is the certificate that the text means
  pub certificate_meant : (t : Stage) (read : Reading) (c : Certificate) → HasAnswer (certificate s) text (means t)
      → IsKept s t read → IsBuiltFrom read c → IsCertificateOf s text c
  certificate_meant t read (Automaton m) answer kept h =
      let built = kept.built in
      record {
        read = t;
        is_read = answer;
        no_run = sym (ap is_run kept.place_is) ∙ h.0;
        limit = kept.few;
        automaton = subst (λ n. IsAutomatonOf (automata_letters s) t.count t.lines n) (sym h.1) (record {
          valid = subst IsValidAutomaton h.1 h.2;
          letters_are = built.letters_are;
          states_are = built.states_are;
          final_lines = built.final_lines;
          edge_lines = built.edge_lines;
        });
      }
  certificate_meant t read (BadRun run) answer kept h =
      let of_run = sym (ap is_run kept.place_is) ∙ ap is_run h.0 in
      let first = h.1 ∙ kept.first_is in
      let steps = h.2 ∙ kept.steps_are in
      record {
        read = t;
        is_read = answer;
        of_run = of_run;
        first_is = first;
        steps_are = steps;
        is_run = record {
          first_fits = subst (λ c. IsTrue (fits s c)) (sym first) (kept.first_fits of_run);
          steps_fit = subst (AllByRecursion (IsStepOf s)) (sym steps) kept.steps_fit;
        };
      }

  -- memory ran out where a text with a meaning is refused
  pub only_memory : (f : CertFault) → (f ≢ Memory → HasFault s text f) → (c : Certificate) → IsCertificateOf s text c → f ≡ Memory
  only_memory Memory first c h = refl
  only_memory f first c h = absurd (fault_excludes s valid text f c (first (λ e. cc e)) h)

  -- a fault of the text of lines is one of the certificate
  pub fault_told : (f : CertFault) (g : Fault What) → text_fault f ≡ g → (g ≢ Of.Memory → HasAnswer (certificate s) text (fails g))
      → f ≢ Memory → HasFault s text f
  fault_told f g is first other =
      subst (λ x. HasAnswer (certificate s) text (fails x)) (sym is)
      (first (λ e. other (sym (known_fault f) ∙ ap fault_of (is ∙ e))))

-- what reading the lines gave, for the system of the alphabet
module _ (y s : SystemData) (same : y ≡ s) (valid : IsValid s) (text : List ℕ) where
  pub read_found : (read : Reading) (found : Certificate)
      → ((t : Stage) × HasAnswer (certificate y) text (means t) × IsKept y t read) → IsBuiltFrom read found
      → (c : Certificate) → IsCertificateOf s text c ↔ (found ≡ c)
  read_found read found h built c =
      let meant = certificate_meant s valid text h.0 read found (subst (λ (z : SystemData). HasAnswer (certificate z) text (means h.0)) same h.1)
      (subst (λ (z : SystemData). IsKept z h.0 read) same h.2) built in
      (λ k. meaning_once s valid text found c meant k, λ e. subst (λ (d : Certificate). IsCertificateOf s text d) e meant)

  pub read_fault : (f : CertFault) (g : Fault What) → text_fault f ≡ g → (g ≢ Of.Memory → HasAnswer (certificate y) text (fails g))
      → f ≢ Memory → HasFault s text f
  read_fault f g is first =
      fault_told s valid text f g is (subst (λ (z : SystemData). g ≢ Of.Memory → HasAnswer (certificate z) text (fails g)) same first)

  pub read_refused : (f : CertFault) (g : Fault What) → text_fault f ≡ g → (g ≢ Of.Memory → HasAnswer (certificate y) text (fails g))
      → (c : Certificate) → IsCertificateOf s text c → f ≡ Memory
  read_refused f g is first = only_memory s valid text f (read_fault f g is first)

pub other_than_run : (p : Place) → (p ≡ At.Steps → ⊥) → is_run p ≡ false
other_than_run At.Steps not = absurd (not refl)
other_than_run p not = refl
