-- The text that is written of a run is read so.
use Rattle.std.proofs.Common.{◌≡◌, ◌≢◌, ◌<◌, ℕ, zero, suc, false, List, [], ◌∷◌, ◌++◌, length, get_or, slice_get, map, codes, refl, sym, subst, ap, inl, inr, arith}
use Rattle.std.specs.List.{AllByRecursion}
use Rattle.std.specs.Option.{option_map_or}
use Rattle.std.proofs.lemmas.Bool.{and_from, cond-true, lt-ltb}
use Rattle.std.proofs.lemmas.List.{append_assoc, append-nil, length-map}
use Rattle.std.proofs.lemmas.Fmt.{decimal_digit}
use Rattle.protocol_lexer.specs.Piece.{is_word_byte}
use Rattle.protocol_model.specs.declared.system.Configuration.{Configuration}
use Rattle.protocol_model.specs.declared.system.Rule.{Rule}
use Rattle.protocol_model.specs.declared.system.Run.{Run}
use Rattle.protocol_model.specs.declared.system.Section.{Section}
use Rattle.protocol_model.specs.System.{SystemData, IsValid, IsValidRule}
use Rattle.protocol_model.specs.Names.{IsName}
use Rattle.configuration_words.specs.Texts.{configuration_text}
use Rattle.sequence.proofs.ForCallers.{Lacks-append}
use Rattle.lines.specs.Bytes.{Lacks}
use Rattle.lines.specs.Grammar.{Says, numbered}
use Rattle.lines.specs.Document.{HasAnswer, Leads, means}
use Rattle.lines.proofs.ForCallers.{cut_says, Lacks-from_test, ended_text_is, means_read}
use Rattle.certificate.specs.declared.said.Kind.TheVariants.{Unsafe}
use Rattle.certificate.specs.declared.said.Place.TheVariants as At
use Rattle.certificate.specs.declared.said.Said.TheVariants as S
use Rattle.certificate.specs.Lines.{first_line, line_at}
use Rattle.certificate.specs.RunText.{rule_name, start_line, step_line, unsafe_text, IsStepOf, IsRunOf, MeansRun}
use Rattle.certificate.specs.Stages.{Stage, beginning, certificate}
use Rattle.certificate.specs.Configurations.{configuration}
use Rattle.certificate.specs.Words.{a_name}
use Rattle.certificate.proofs.ConfigurationReading.{configuration_says, configuration_lacks}
use Rattle.certificate.proofs.ListFacts.{AllPairs-mapped}
use Rattle.certificate.proofs.SafeReading.{title_says}
use Rattle.certificate.proofs.Places.{name_lacks, numbered_says}

-- rules by their names
abbrev rule_names : List Rule → List (List ℕ)
rule_names rules = map (λ rule. rule.name) rules

rule_name-is : (rules : List Rule) (r : ℕ) → option_map_or (λ rule. rule.name) (slice_get rules r) [] ≡ get_or (rule_names rules) r []
rule_name-is [] r = refl
rule_name-is (rule ∷ rules) zero = refl
rule_name-is (rule ∷ rules) (suc r) = rule_name-is rules r

rule_named : (sections : List Section) (rules : List Rule) (r : ℕ) → AllByRecursion (IsValidRule sections) rules → r < length rules
    → IsName (option_map_or (λ rule. rule.name) (slice_get rules r) [])
rule_named sections [] r h within = absurd (omega arith)
rule_named sections (rule ∷ rules) zero h within = h.0.named
rule_named sections (rule ∷ rules) (suc r) h within = rule_named sections rules r h.1 (omega (arith, within))

unsafe_title : Says first_line (codes "armc 1 unsafe") (S.Title 1 Unsafe)
unsafe_title =
    title_says 1 Unsafe (codes "1") (codes "unsafe") (omega arith) (decimal_digit 1 (omega arith)) (Lacks-from_test 32 (codes "1") refl)
    (inr (λ e. absurd (let n = ap length e in omega (arith, n)), inl (refl, refl)))

module _ (s : SystemData) (valid : IsValid s) where
  step_line-is : (r : ℕ) (c : Configuration) → step_line s (r, c) ≡ codes "step " ++ (rule_name s r ++ 32 ∷ configuration_text s c)
  step_line-is r c = ap (λ rest. codes "step " ++ rest) (append_assoc (rule_name s r) (codes " ") (configuration_text s c))

  rule_says : (r : ℕ) → r < length s.rules → Says (numbered (rule_names s.rules) a_name) (rule_name s r) r
  rule_says r within =
      subst (λ name. Says (numbered (rule_names s.rules) a_name) name r) (sym (rule_name-is s.rules r))
      (numbered_says (rule_names s.rules) a_name (AllPairs-mapped ◌≢◌ (λ rule. rule.name) s.rules valid.rule_names) r (omega (arith, within, length-map s.rules (λ rule. rule.name))))

  name_lack : (byte : ℕ) → is_word_byte byte ≡ false → (r : ℕ) → r < length s.rules → Lacks byte (rule_name s r)
  name_lack byte apart r within = name_lacks byte apart (rule_name s r) (rule_named s.sections s.rules r valid.each_rule within)

  step_says : (r : ℕ) (c : Configuration) → IsStepOf s (r, c) → Says (line_at s At.Steps) (step_line s (r, c)) (S.Step r c)
  step_says r c h =
      let fields = cut_says 32 (numbered (rule_names s.rules) a_name) (configuration s.sections) (rule_name s r) (configuration_text s c) r c
      (name_lack 32 refl r h.0) (rule_says r h.0) (configuration_says s valid c h.1) in
      inl (rule_name s r ++ 32 ∷ configuration_text s c, step_line-is r c, ((r, c), fields, refl))

  step_lacks : (r : ℕ) (c : Configuration) → IsStepOf s (r, c) → Lacks 10 (step_line s (r, c))
  step_lacks r c h =
      subst (Lacks 10) (sym (step_line-is r c))
      (Lacks-append 10 (codes "step ") (rule_name s r ++ 32 ∷ configuration_text s c) (Lacks-from_test 10 (codes "step ") refl)
      (Lacks-append 10 (rule_name s r) (32 ∷ configuration_text s c) (name_lack 10 refl r h.0)
      (omega arith, configuration_lacks s valid c h.1)))

  abbrev at_steps : Configuration → List (ℕ × Configuration) → Stage
  at_steps c steps = record { place = At.Steps; letters = []; count = 0; lines = []; first = c; steps = steps }

  steps_lead : (c : Configuration) (before steps : List (ℕ × Configuration)) → AllByRecursion (IsStepOf s) steps
      → Leads (certificate s) (at_steps c before) (map (step_line s) steps) (at_steps c (before ++ steps))
  steps_lead c before [] h = ap (at_steps c) (append-nil before)
  steps_lead c before (x ∷ steps) h = (
    S.Step x.0 x.1,
    at_steps c (before ++ x ∷ []),
    step_lacks x.0 x.1 h.0,
    step_says x.0 x.1 h.0,
    cond-true _ _ _ (and_from _ _ (lt-ltb x.0 (length s.rules) h.0.0) h.0.1),
    subst (λ all. Leads (certificate s) (at_steps c (before ++ x ∷ [])) (map (step_line s) steps) (at_steps c all))
        (append_assoc before (x ∷ []) steps) (steps_lead c (before ++ x ∷ []) steps h.1),
  )

  -- the text that is written of a run means it
  pub run_is_read : (run : Run) → IsRunOf s run → MeansRun s (unsafe_text s run) run
  run_is_read run h =
      let lines : List (List ℕ) = codes "armc 1 unsafe" ∷ (start_line s run.first ∷ map (step_line s) run.steps) in
      record {
        read = at_steps run.first run.steps;
        is_read = subst (λ bytes. HasAnswer (certificate s) bytes (means (at_steps run.first run.steps))) (sym (ended_text_is lines (codes "end")))
            (means_read (certificate s) lines (at_steps run.first run.steps) (codes "end") S.End (
              S.Title 1 Unsafe,
              record beginning { place = At.Start },
              Lacks-from_test 10 (codes "armc 1 unsafe") refl,
              unsafe_title,
              refl,
              (
                S.Start run.first,
                at_steps run.first [],
                Lacks-append 10 (codes "start ") (configuration_text s run.first) (Lacks-from_test 10 (codes "start ") refl)
                    (configuration_lacks s valid run.first h.first_fits),
                inl (configuration_text s run.first, refl, (run.first, configuration_says s valid run.first h.first_fits, refl)),
                cond-true _ _ _ h.first_fits,
                steps_lead run.first [] run.steps h.steps_fit,
              ),
            )
            (Lacks-from_test 10 (codes "end") refl)
            (inr (λ rest e. absurd (let n = ap length e in cc e), (tt, inl (refl, refl), refl))) refl);
        of_run = refl;
        first_is = refl;
        steps_are = refl;
        is_run = h;
      }
