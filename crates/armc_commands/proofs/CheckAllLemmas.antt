-- The replies to `checkall`: their texts, that there is one, and what they promise.
use Rattle.std.proofs.Common.{◌≡◌, ◌≢◌, ◌<◌, ◌≤◌, ◌⊎◌, ◌||◌, ◌+◌, ◌∙◌, ℕ, Bool, true, false, if◌then◌else◌, List, [], ◌∷◌, ◌++◌, length, drop, min, arith, get_or, map, None, Some, Result, Ok, Err, IfOk, append-nil, append_assoc, inl, inr, refl, sym, ap, ap₂, subst, codes}
use Rattle.std.proofs.lemmas.List.{drop_more, drop_all}
use Rattle.std.proofs.lemmas.Option.{slice_get-get_or}
use Rattle.property_batch.specs.PropertyVerdicts.{AreVerdicts, IsPropertyVerdict}
use Rattle.property_batch.proofs.ForCallers.{by-number}
use Rattle.std.specs.List.{list_any, flat_map}
use Rattle.refinement.specs.Verdicts.{log_in}
use Rattle.refinement.specs.declared.verdict.Verdict.{Verdict}
use Rattle.refinement.specs.declared.verdict.Verdict.TheVariants.{Safe, Unsafe, Unknown}
use Rattle.protocol_search.specs.SearchLaws.{LargerBudgetKeepsVerdict, LargerBudgetKeepsText}
use Rattle.protocol_syntax.specs.OneReading.{PropertiesAreDetermined, PropertiesFaultIsDetermined, FaultExcludesProperties}
use Rattle.protocol_syntax.specs.Properties.{properties}
use Rattle.protocol_model.specs.System.{SystemData}
use Rattle.protocol_properties.specs.Properties.{first_properties_fault, properties_of}
use Rattle.protocol_properties.specs.declared.properties.Property.{Property}
use Rattle.command_replies.specs.declared.refusal.Refusal.{Refusal}
use Rattle.command_replies.specs.declared.status.Status.{Status}
use Rattle.command_replies.specs.declared.status.Status.TheVariants as status
use Rattle.command_replies.specs.declared.reply.Reply.{Reply}
use Rattle.armc_commands.specs.declared.search_reply.Telling.{Telling}
use Rattle.armc_commands.specs.declared.search_reply.Telling.TheVariants.{Certificate}
use Rattle.command_replies.specs.Refusal.{IsRefusalIn}
use Rattle.command_replies.specs.Reply.{on_out, refusal_reply}
use Rattle.armc_commands.specs.SearchReply.{Part, PartAnswer, IsAnswerTo, HoldsOfParts, IsSearchReply, report_of, status_of, texts_of, titled}
use Rattle.armc_commands.specs.SearchReply.{is_unsafe, is_unknown}
use Rattle.armc_commands.specs.Commands.CheckAll.{SaysProperties, RefusesProperties, ChecksAll, IsCheckAllReply, CheckAllPromise, property_part, property_parts}
use Rattle.armc_commands.specs.ReplyLaws.{AreKept, KeepsParts}
use Rattle.armc_commands.specs.private.PartTexts.{IsToldPart, AreTold}
use Rattle.armc_commands.proofs.CommandsOnce.{either-once}
use Rattle.armc_commands.proofs.SearchLemmas.{SearchesKeep, part-stays}
use Rattle.command_replies.proofs.ForCallers.{refusal_once, refused_or_faultless}

-- ---- the texts of the parts

abbrev told : Telling
told = Certificate None

-- one part before the others
told-first : (budget : ℕ) (p : Property) (said : List Property) (v : Verdict) (vs : List Verdict) (part rest : List ℕ) → IsToldPart budget p v part
    → AreTold budget said vs rest → AreTold budget (p ∷ said) (v ∷ vs) (part ++ rest)
told-first budget p said v vs part rest is are = record {
  answers = is.answer ∷ are.answers;
  are_answers = (is.is_answer, are.are_answers);
  verdicts_are = ap₂ (λ x xs. x ∷ xs) is.verdict_is are.verdicts_are;
  text_is = ap₂ (λ x xs. x ++ xs) is.text_is are.text_is;
}

-- the text and what tells the properties from this number on tell them all
abbrev pub Completes : ℕ → List Property → List Verdict → ℕ → List ℕ → Type 0
Completes budget said vs n text = (rest : List ℕ) → AreTold budget (drop n said) (drop n vs) rest → AreTold budget said vs (text ++ rest)

pub completes-next : (budget : ℕ) (said : List Property) (vs : List Verdict) (n : ℕ) (text : List ℕ) (p : Property) (v : Verdict) (part new : List ℕ)
    → n < length said → n < length vs → p ≡ get_or said n p → v ≡ get_or vs n v → Completes budget said vs n text
    → IsToldPart budget p v part → new ≡ text ++ part → Completes budget said vs (n + 1) new
completes-next budget said vs n text p v part new within within_too p_is v_is so_far is new_is rest are =
    let ps = drop_more said n p within ∙ ap (λ x. x ∷ drop (n + 1) said) (sym p_is) in
    let ws = drop_more vs n v within_too ∙ ap (λ x. x ∷ drop (n + 1) vs) (sym v_is) in
    subst (AreTold budget said vs) (sym (append_assoc text part rest) ∙ ap (λ x. x ++ rest) (sym new_is)) (so_far (part ++ rest)
    (subst (λ xs. AreTold budget xs (drop n vs) (part ++ rest)) (sym ps)
    (subst (λ xs. AreTold budget (p ∷ drop (n + 1) said) xs (part ++ rest)) (sym ws)
    (told-first budget p (drop (n + 1) said) v (drop (n + 1) vs) part rest is are))))

pub completes-all : (budget : ℕ) (said : List Property) (vs : List Verdict) (n : ℕ) (text : List ℕ) → AreVerdicts budget said vs
    → n ≡ min (length said) (length vs) → Completes budget said vs n text → AreTold budget said vs text
completes-all budget said vs n text are end so_far =
    let same : length vs ≡ length said = (by-number budget said vs are).0 in
    let none : AreTold budget [] [] [] = record { answers = []; are_answers = tt; verdicts_are = refl; text_is = refl } in
    subst (AreTold budget said vs) (append-nil text) (so_far []
    (subst (λ xs. AreTold budget xs (drop n vs) []) (sym (drop_all n said (omega (arith, same, end))))
    (subst (λ xs. AreTold budget [] xs []) (sym (drop_all n vs (omega (arith, same, end)))) none)))

-- the verdict on the property of a number
pub verdict-at : (budget : ℕ) (said : List Property) (vs : List Verdict) (n : ℕ) (p : Property) (v : Verdict) → AreVerdicts budget said vs
    → n < length said → n < length vs → p ≡ get_or said n p → v ≡ get_or vs n v → IsPropertyVerdict budget p v
verdict-at budget said vs n p v are within within_too p_is v_is =
    (by-number budget said vs are).1 n p v (slice_get-get_or said n p within ∙ ap Some (sym p_is)) (slice_get-get_or vs n v within_too ∙ ap Some (sym v_is))

no-reports : (answers : List PartAnswer) → flat_map (λ (a : PartAnswer). report_of told (log_in a.verdict)) answers ≡ []
no-reports [] = refl
no-reports (a ∷ answers) = no-reports answers

-- the reply of the parts that are told
pub told-reply : (budget : ℕ) (said : List Property) (vs : List Verdict) (text : List ℕ) (reply : Reply) → AreTold budget said vs text
    → reply ≡ on_out (status_of vs) text → IsSearchReply told (property_parts budget said) reply
told-reply budget said vs text reply are is = record {
  answers = are.answers;
  are_answers = are.are_answers;
  reply_is = is ∙ (λ i. record {
    status = ap status_of (sym are.verdicts_are) i;
    out = are.text_is i;
    err = sym (no-reports are.answers) i;
  });
}

-- ---- what is said and refused

module _ (s : SystemData) (budget : ℕ) (text : List ℕ) where
  pub properties-refused : {E : Type 0} (refusal : Refusal) (r : Result Reply E)
      → IfOk r (λ reply. reply ≡ refusal_reply (codes "properties") status.CertificateRefused refusal)
      → IsRefusalIn properties (first_properties_fault s) text refusal → IfOk r (IsCheckAllReply s budget text)
  properties-refused refusal (Ok reply) is refused = inl (record { refusal = refusal; refused = refused; reply_is = is })
  properties-refused refusal (Err e) is refused = tt

  pub properties-checked : {E : Type 0} (said : List Property) (r : Result Reply E) → SaysProperties s text said
      → IfOk r (IsSearchReply told (property_parts budget said)) → IfOk r (IsCheckAllReply s budget text)
  properties-checked said (Ok reply) says is = inr (record { said = said; says = says; replies = is })
  properties-checked said (Err e) says is = tt

-- ---- one reply

says-once : PropertiesAreDetermined → (s : SystemData) (text : List ℕ) (a b : List Property) → SaysProperties s text a → SaysProperties s text b → a ≡ b
says-once once s text a b h k = h.said_is ∙ ap (properties_of s) (once text h.blocks k.blocks h.are_blocks k.are_blocks) ∙ sym k.said_is

module _ (once : PropertiesAreDetermined) (fault_once : PropertiesFaultIsDetermined) (either : FaultExcludesProperties) (s : SystemData) (text : List ℕ) where
  refuses-once : (r q : Reply) → RefusesProperties s text r → RefusesProperties s text q → r ≡ q
  refuses-once r q h k =
      h.reply_is
      ∙ ap (refusal_reply (codes "properties") status.CertificateRefused)
      (refusal_once properties (first_properties_fault s) text (once text) (fault_once text) (either text) h.refusal k.refusal h.refused k.refused)
      ∙ sym k.reply_is

  not-both : (budget : ℕ) (r q : Reply) → RefusesProperties s text r → ChecksAll s budget text q → ⊥
  not-both budget r q h k =
      refused_or_faultless properties (first_properties_fault s) text (once text) (fault_once text) (either text) h.refusal k.says.blocks h.refused
      k.says.are_blocks k.says.no_fault

module _ (once : PropertiesAreDetermined) (fault_once : PropertiesFaultIsDetermined) (either : FaultExcludesProperties)
    (search_once : (parts : List Part) (r q : Reply) → IsSearchReply told parts r → IsSearchReply told parts q → r ≡ q)
    (s : SystemData) (budget : ℕ) (text : List ℕ) where
  checks-once : (r q : Reply) → ChecksAll s budget text r → ChecksAll s budget text q → r ≡ q
  checks-once r q h k =
      search_once (property_parts budget k.said) r q
      (subst (λ said. IsSearchReply told (property_parts budget said) r) (says-once once s text h.said k.said h.says k.says) h.replies) k.replies

  pub check-all-once : (r q : Reply) → IsCheckAllReply s budget text r → IsCheckAllReply s budget text q → r ≡ q
  check-all-once r q =
      either-once (RefusesProperties s text) (ChecksAll s budget text) r q (refuses-once once fault_once either s text r q) (checks-once r q)
      (not-both once fault_once either s text budget)

-- ---- a larger budget

-- the status of such tests
abbrev status-by : Bool → Bool → Status
status-by unsafe unknown = if unsafe then status.Unsafe else (if unknown then status.Unknown else status.Done)

-- a verdict that keeps its status where it is not unknown, before verdicts whose status stays where it is not unknown
status-step : (v w : Verdict) (u k u' k' : Bool) → (status_of (v ∷ []) ≢ status.Unknown → status_of (w ∷ []) ≡ status_of (v ∷ []))
    → (status-by u k ≢ status.Unknown → status-by u' k' ≡ status-by u k) → status-by (is_unsafe v || u) (is_unknown v || k) ≢ status.Unknown
    → status-by (is_unsafe w || u') (is_unknown w || k') ≡ status-by (is_unsafe v || u) (is_unknown v || k)
status-step (Safe proof log) (Safe proof' log') u k u' k' kept later decided = later decided
status-step (Safe proof log) _ u k u' k' kept later decided = absurd (let e = kept (λ f. cc f) in cc e)
status-step (Unsafe words log) (Unsafe words' log') u k u' k' kept later decided = refl
status-step (Unsafe words log) _ u k u' k' kept later decided = absurd (let e = kept (λ f. cc f) in cc e)
status-step (Unknown log) w false k u' k' kept later decided = absurd (decided refl)
status-step (Unknown log) w true k true k' kept later decided = go (is_unsafe w)
  where
    go : (b : Bool) → status-by (b || true) (is_unknown w || k') ≡ status.Unsafe
    go true = refl
    go false = refl
status-step (Unknown log) w true k false true kept later decided = absurd (let e = later (λ f. cc f) in cc e)
status-step (Unknown log) w true k false false kept later decided = absurd (let e = later (λ f. cc f) in cc e)

abbrev verdicts_of : List PartAnswer → List Verdict
verdicts_of answers = map (λ (a : PartAnswer). a.verdict) answers

status-kept : (answers more : List PartAnswer) → AreKept answers more → status_of (verdicts_of answers) ≢ status.Unknown
    → status_of (verdicts_of more) ≡ status_of (verdicts_of answers)
status-kept [] [] kept decided = refl
status-kept [] (b ∷ ys) kept decided = absurd kept
status-kept (a ∷ xs) [] kept decided = absurd kept
status-kept (a ∷ xs) (b ∷ ys) kept decided =
    status-step a.verdict b.verdict (list_any is_unsafe (verdicts_of xs)) (list_any is_unknown (verdicts_of xs)) (list_any is_unsafe (verdicts_of ys))
    (list_any is_unknown (verdicts_of ys)) (λ known. (kept.0 known).status) (status-kept xs ys kept.1) decided

-- where all are safe, each text is kept
done-step : (v : Verdict) (u k : Bool) → status-by (is_unsafe v || u) (is_unknown v || k) ≡ status.Done
    → (status_of (v ∷ []) ≢ status.Unknown) × (status-by u k ≡ status.Done)
done-step (Safe proof log) u k e = ((λ f. cc f), e)
done-step (Unsafe words log) u k e = absurd (cc e)
done-step (Unknown log) true k e = absurd (cc e)
done-step (Unknown log) false k e = absurd (cc e)

texts-kept : (parts : List Part) (answers more : List PartAnswer) → AreKept answers more → status_of (verdicts_of answers) ≡ status.Done
    → texts_of parts more ≡ texts_of parts answers
texts-kept [] answers more kept h = refl
texts-kept (p ∷ parts) [] [] kept h = refl
texts-kept (p ∷ parts) [] (b ∷ ys) kept h = absurd kept
texts-kept (p ∷ parts) (a ∷ xs) [] kept h = absurd kept
texts-kept (p ∷ parts) (a ∷ xs) (b ∷ ys) kept h =
    let first = done-step a.verdict (list_any is_unsafe (verdicts_of xs)) (list_any is_unknown (verdicts_of xs)) h in
    ap₂ (λ x y. titled p.title x ++ y) (kept.0 first.0).text (texts-kept parts xs ys kept.1 first.1)

-- a budget is in no title
texts-within : (budget larger : ℕ) (said : List Property) (answers : List PartAnswer)
    → texts_of (property_parts larger said) answers ≡ texts_of (property_parts budget said) answers
texts-within budget larger [] answers = refl
texts-within budget larger (p ∷ said) [] = refl
texts-within budget larger (p ∷ said) (a ∷ answers) = ap (λ x. titled (Some p.name) a.text ++ x) (texts-within budget larger said answers)

module _ (keeps : LargerBudgetKeepsVerdict) (keeps-text : LargerBudgetKeepsText) (budget larger : ℕ) (bigger : budget ≤ larger) where
  answers-kept : (said : List Property) (answers more : List PartAnswer) → HoldsOfParts (IsAnswerTo told) (property_parts budget said) answers
      → HoldsOfParts (IsAnswerTo told) (property_parts larger said) more → AreKept answers more
  answers-kept [] [] [] h k = tt
  answers-kept [] [] (b ∷ ys) h k = absurd k
  answers-kept [] (a ∷ xs) more h k = absurd h
  answers-kept (p ∷ said) [] more h k = absurd h
  answers-kept (p ∷ said) (a ∷ xs) [] h k = absurd k
  answers-kept (p ∷ said) (a ∷ xs) (b ∷ ys) h k =
      (part-stays keeps keeps-text told (property_part budget p) larger a b bigger h.0 k.0, answers-kept said xs ys h.1 k.1)

  parts-kept : (said : List Property) (r q : Reply) → IsSearchReply told (property_parts budget said) r → IsSearchReply told (property_parts larger said) q
      → KeepsParts r q
  parts-kept said r q h k =
      let parts = property_parts budget said in
      let kept = answers-kept said h.answers k.answers h.are_answers k.are_answers in
      let one = ap (λ (x : Reply). x.status) h.reply_is in
      let other = ap (λ (x : Reply). x.status) k.reply_is in
      let within = texts-within budget larger said k.answers in
      record {
        parts = parts;
        answers = h.answers;
        more = k.answers;
        one_is = h.reply_is;
        other_is = k.reply_is ∙ (λ i. record {
          status = status_of (map (λ (a : PartAnswer). a.verdict) k.answers);
          out = within i;
          err = flat_map (λ (a : PartAnswer). report_of told (log_in a.verdict)) k.answers;
        });
        kept = kept;
        status = λ decided. other ∙ status-kept h.answers k.answers kept (λ e. decided (one ∙ e)) ∙ sym one;
        out = λ done.
            ap (λ (x : Reply). x.out) k.reply_is ∙ within ∙ texts-kept parts h.answers k.answers kept (sym one ∙ done)
            ∙ sym (ap (λ (x : Reply). x.out) h.reply_is);
      }

module _ (once : PropertiesAreDetermined) (fault_once : PropertiesFaultIsDetermined) (either : FaultExcludesProperties) (keeps : LargerBudgetKeepsVerdict)
    (keeps-text : LargerBudgetKeepsText) (s : SystemData) (budget larger : ℕ) (bigger : budget ≤ larger) (text : List ℕ) where
  checks-kept : (r q : Reply) → ChecksAll s budget text r → ChecksAll s larger text q → KeepsParts r q
  checks-kept r q h k =
      parts-kept keeps keeps-text budget larger bigger k.said r q
      (subst (λ said. IsSearchReply told (property_parts budget said) r) (says-once once s text h.said k.said h.says k.says) h.replies) k.replies

  pub check-all-kept : (r q : Reply) → IsCheckAllReply s budget text r → IsCheckAllReply s larger text q → (r ≡ q) ⊎ KeepsParts r q
  check-all-kept r q h k = elim h [
    | inl refuses ↦ elim k [
      | inl refuses_too ↦ inl (refuses-once once fault_once either s text r q refuses refuses_too)
      | inr checks ↦ absurd (not-both once fault_once either s text larger r q refuses checks)
    ]
    | inr checks ↦ elim k [
      | inl refuses ↦ absurd (not-both once fault_once either s text budget q r refuses checks)
      | inr checks_too ↦ inr (checks-kept r q checks checks_too)
    ]
  ]

-- ---- what it promises

pub check-all-promised : SearchesKeep → (s : SystemData) (budget : ℕ) (text : List ℕ) (reply : Reply) → IsCheckAllReply s budget text reply → CheckAllPromise s budget text reply
check-all-promised keep s budget text reply h = elim h [
  | inl refuses ↦ inl refuses
  | inr checks ↦ inr (record {
    said = checks.said;
    says = checks.says;
    searched = keep told (property_parts budget checks.said) reply checks.replies;
  })
]
