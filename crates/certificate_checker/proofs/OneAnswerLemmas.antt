-- A certificate has one answer.
use Rattle.std.proofs.Common.{◌≡◌, ℕ, IsTrue, refl, sym, ap, subst, ◌∙◌, inl, inr}
use Rattle.std.proofs.lemmas.Bool.{both_ways, cases_order}
use Rattle.exploration.proofs.ForCallers.{is_before-total}
use Rattle.word_automata.specs.Automaton.{Automaton}
use Rattle.protocol_model.specs.declared.system.Configuration.{Configuration}
use Rattle.protocol_model.specs.declared.system.Run.{Run}
use Rattle.protocol_model.specs.System.{SystemData}
use Rattle.protocol_model.specs.Patterns.{fits}
use Rattle.protocol_model.specs.Words.{word_of}
use Rattle.protocol_model.proofs.ForCallers.{initial_fits, bad_fits}
use Rattle.protocol_steps.specs.OneAnswer.{RunAnswerIsDetermined}
use Rattle.protocol_steps.specs.declared.runs.RunAnswer.{RunAnswer}
use Rattle.protocol_steps.specs.declared.runs.RunAnswer.TheVariants as run_answer
use Rattle.protocol_steps.specs.Answers.{IsRunAnswer}
use Rattle.certificate.specs.declared.safe.Certificate.{Certificate}
use Rattle.certificate.specs.declared.safe.Certificate.TheVariants.{Automaton as AutomatonProof, BadRun}
use Rattle.certificate_checker.specs.Proof.{Proves}
use Rattle.certificate_checker.specs.Answers.{IsAnswer, IsAutomatonAnswer, IsAnswerToRun, IsLeastConfiguration, IsLeastExit, IsMissing, IsHeld, IsExit, IsAcceptedBefore, HasNone}
use Rattle.certificate_checker.specs.declared.answer.Answer.{Answer}
use Rattle.certificate_checker.specs.declared.answer.Answer.TheVariants.{Valid, InitialMissing, BadHeld, Leaves, NotInitial, NotStep, NotBad}
use Rattle.configuration_words.proofs.ForCallers.{word_of-injective}

-- a property of configurations that fit has one least configuration at most
least_once : (s : SystemData) (P : Configuration → Type 0) → ((c : Configuration) → P c → IsTrue (fits s c)) → (c d : Configuration)
    → IsLeastConfiguration s P c → IsLeastConfiguration s P d → c ≡ d
least_once s P fit c d one other = elim (is_before-total (word_of s c) (word_of s d)) [
  | inl before ↦ absurd (other.1 c one.0 before)
  | inr rest ↦ elim rest [
    | inl same ↦ word_of-injective s c d (fit c one.0) (fit d other.0) same
    | inr after ↦ absurd (one.1 d other.0 after)
  ]
]

module _ (s : SystemData) (m : Automaton) where
  proves_none_missing : Proves s m → HasNone (IsMissing s m)
  proves_none_missing proves c missing = both_ways _ missing.1 (proves.initial c missing.0)

  proves_none_held : Proves s m → HasNone (IsHeld s m)
  proves_none_held proves c held = proves.no_bad c held.0 held.1

  proves_none_left : Proves s m → (r : ℕ) (d : Configuration) → IsExit s m r d → ⊥
  proves_none_left proves r d left = both_ways _ left.0 (proves.closed r left.1.0 d left.1.1.0 left.1.1.1)

  missing_once : (c d : Configuration) → IsLeastConfiguration s (IsMissing s m) c → IsLeastConfiguration s (IsMissing s m) d → c ≡ d
  missing_once = least_once s (IsMissing s m) (λ c missing. initial_fits s c missing.0)

  held_once : (c d : Configuration) → IsLeastConfiguration s (IsHeld s m) c → IsLeastConfiguration s (IsHeld s m) d → c ≡ d
  held_once = least_once s (IsHeld s m) (λ c held. bad_fits s c held.0)

  rules_once : (q r : ℕ) (c d e f : Configuration) → IsLeastExit s m q c d → IsLeastExit s m r e f → q ≡ r
  rules_once q r c d e f one other = elim (cases_order q r) [
    | inl same ↦ same
    | inr o ↦ elim o [
      | inl less ↦ absurd (other.earlier_rules q d less one.after.0)
      | inr more ↦ absurd (one.earlier_rules r f more other.after.0)
    ]
  ]

  after_once : (r : ℕ) (c d e f : Configuration) → IsLeastExit s m r c d → IsLeastExit s m r e f → d ≡ f
  after_once r c d e f one other =
      least_once s (IsExit s m r) (λ x left. left.1.1.1.fits_after) d f one.after other.after

  before_once : (r : ℕ) (c d e : Configuration) → IsLeastExit s m r c d → IsLeastExit s m r e d → c ≡ e
  before_once r c d e one other =
      least_once s (IsAcceptedBefore s m r d) (λ x accepted. accepted.1.fits_before) c e one.before other.before

  exit_once : (q r : ℕ) (c d e f : Configuration) → IsLeastExit s m q c d → IsLeastExit s m r e f → Leaves q c d ≡ Leaves r e f
  exit_once q r c d e f one other =
      let rules : q ≡ r = rules_once q r c d e f one other in
      let one' : IsLeastExit s m r c d = subst (λ x. IsLeastExit s m x c d) rules one in
      let afters : d ≡ f = after_once r c d e f one' other in
      let befores : c ≡ e = before_once r c f e (subst (λ x. IsLeastExit s m r c x) afters one') other in
      cc (rules, afters, befores)

  from_valid : (b : Answer) → Proves s m → IsAutomatonAnswer s m b → Valid ≡ b
  from_valid Valid h k = refl
  from_valid (InitialMissing x) h k = absurd (proves_none_missing h x k.0)
  from_valid (BadHeld x) h k = absurd (proves_none_held h x k.1.0)
  from_valid (Leaves r x y) h k = absurd (proves_none_left h r y k.2.after.0)
  from_valid NotInitial h k = absurd k
  from_valid (NotStep n) h k = absurd k
  from_valid NotBad h k = absurd k

  from_missing : (c : Configuration) (b : Answer) → IsLeastConfiguration s (IsMissing s m) c → IsAutomatonAnswer s m b → InitialMissing c ≡ b
  from_missing c Valid h k = absurd (proves_none_missing k c h.0)
  from_missing c (InitialMissing x) h k = ap InitialMissing (missing_once c x h k)
  from_missing c (BadHeld x) h k = absurd (k.0 c h.0)
  from_missing c (Leaves r x y) h k = absurd (k.0 c h.0)
  from_missing c NotInitial h k = absurd k
  from_missing c (NotStep n) h k = absurd k
  from_missing c NotBad h k = absurd k

  from_held : (c : Configuration) (b : Answer) → HasNone (IsMissing s m) × IsLeastConfiguration s (IsHeld s m) c → IsAutomatonAnswer s m b → BadHeld c ≡ b
  from_held c Valid h k = absurd (proves_none_held k c h.1.0)
  from_held c (InitialMissing x) h k = absurd (h.0 x k.0)
  from_held c (BadHeld x) h k = ap BadHeld (held_once c x h.1 k.1)
  from_held c (Leaves r x y) h k = absurd (k.1 c h.1.0)
  from_held c NotInitial h k = absurd k
  from_held c (NotStep n) h k = absurd k
  from_held c NotBad h k = absurd k

  from_left : (q : ℕ) (c d : Configuration) (b : Answer) → HasNone (IsMissing s m) × HasNone (IsHeld s m) × IsLeastExit s m q c d → IsAutomatonAnswer s m b → Leaves q c d ≡ b
  from_left q c d Valid h k = absurd (proves_none_left k q d h.2.after.0)
  from_left q c d (InitialMissing x) h k = absurd (h.0 x k.0)
  from_left q c d (BadHeld x) h k = absurd (h.1 x k.1.0)
  from_left q c d (Leaves r x y) h k = exit_once q r c d x y h.2 k.2
  from_left q c d NotInitial h k = absurd k
  from_left q c d (NotStep n) h k = absurd k
  from_left q c d NotBad h k = absurd k

  automaton_once : (a b : Answer) → IsAutomatonAnswer s m a → IsAutomatonAnswer s m b → a ≡ b
  automaton_once Valid b h k = from_valid b h k
  automaton_once (InitialMissing c) b h k = from_missing c b h k
  automaton_once (BadHeld c) b h k = from_held c b h k
  automaton_once (Leaves q c d) b h k = from_left q c d b h k
  automaton_once NotInitial b h k = absurd h
  automaton_once (NotStep n) b h k = absurd h
  automaton_once NotBad b h k = absurd h

-- the answer of the check of a run, as one of the judgement
told : RunAnswer → Answer
told run_answer.BadRun = Valid
told run_answer.NotInitial = NotInitial
told (run_answer.NotStep k) = NotStep k
told run_answer.NotBad = NotBad

-- an answer to a run is that of its check
checked : (s : SystemData) (run : Run) (a : Answer) → IsAnswerToRun s run a → (found : RunAnswer) × IsRunAnswer s run found × (a ≡ told found)
unfolding told
checked s run Valid h = (run_answer.BadRun, h, refl)
checked s run (InitialMissing c) h = absurd h
checked s run (BadHeld c) h = absurd h
checked s run (Leaves r c d) h = absurd h
checked s run NotInitial h = (run_answer.NotInitial, h, refl)
checked s run (NotStep k) h = (run_answer.NotStep k, h, refl)
checked s run NotBad h = (run_answer.NotBad, h, refl)

pub answer_once : RunAnswerIsDetermined → (s : SystemData) (c : Certificate) (answer other : Answer) → IsAnswer s c answer → IsAnswer s c other
    → answer ≡ other
answer_once runs s (AutomatonProof m) answer other h k = automaton_once s m answer other h k
answer_once runs s (BadRun run) answer other h k =
    let one = checked s run answer h in
    let two = checked s run other k in
    one.2 ∙ ap told (runs s run one.0 two.0 one.1 two.1) ∙ sym two.2
