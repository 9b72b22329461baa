-- A text that is a protocol within the limits says one that the language allows.
use Rattle.std.proofs.Common.{◌≡◌, ◌<◌, ◌≤◌, ◌+◌, ◌-◌, ℕ, false, List, [], ◌∷◌, ◌++◌, length, refl, sym, subst, inl, inr, arith, nat_le, append_assoc, append-nil, length-append}
use Rattle.std.proofs.lemmas.Bool.{lt-ltb, le-leb, leb-false, and_from}
use Rattle.std.proofs.lemmas.List.Sums.{sum_by-cons, sum_by_push}
use Rattle.std.specs.Prelude.{⊤}
use Rattle.std.specs.List.{AllByRecursion}
use Rattle.forms.specs.declared.fault.What.TheVariants as Limits
use Rattle.forms.specs.declared.name.Name.{Name}
use Rattle.protocol_syntax.specs.declared.protocol.Protocol.{Protocol}
use Rattle.protocol_syntax.specs.declared.protocol.SectionText.{SectionText}
use Rattle.protocol_syntax.specs.declared.protocol.RuleText.{RuleText}
use Rattle.protocol_syntax.specs.declared.protocol.MoveText.{MoveText}
use Rattle.protocol_syntax.specs.MoveLetters.{MoveBody, IsAllowedMove}
use Rattle.forms.specs.declared.symbol.Keyword.TheVariants as Words
use Rattle.forms.specs.Grammar.{name}
use Rattle.protocol_syntax.specs.Grammar.{section, letters_of, more_sections, row, guard, at_move, pair_move, ring_move, two_move, set_move, send_move, recv_move, pushed, pop_move, push_move, channel_or_stack_move, common_move, spawn_move, exit_move, lose_move, later_move, any_move, step, rule, protocol, IsProtocol}
use Rattle.forms.proofs.ForCallers.{MayMean, AllAfter, IsName as IsGrammarName, within_may_mean}
use Rattle.protocol_syntax.proofs.ForCallers.{protocol_is_told, protocol_is_uniform, up_to_within, each_item, row_within}
use Rattle.protocol_model.specs.Names.{IsName}
use Rattle.protocol_model.specs.Allowed.{IsAllowed, IsAllowedSection, IsAllowedRule, IsAllowedRow}

pub named : (n : Name) → IsGrammarName n → IsName n.text
named n is =
    and_from _ _
    (and_from _ _ (and_from _ _ (lt-ltb 0 (length n.text) is.some) (le-leb (length n.text) 32 is.short)) is.bytes)
    (rw is.free refl)

-- a section is allowed, and has no more letters than were left
record IsSectionWithin (used : ℕ) (s : SectionText) : Type 0 where
  allowed : IsAllowedSection s
  few : used + length s.letters ≤ 256

section_within : (language used : ℕ) (s : SectionText) → MayMean (section language used) s → IsSectionWithin used s
unfolding section
section_within language used s (k, vk, (n, v, (u, tu, (letter, vl, (letters, vls, (w, tw, e)))))) =
    let room : used < 256 = leb-false 256 used vl.0 in
    let more = up_to_within (255 - used) Limits.Letters name (λ a. IsName a.text) named letters vls in
    subst (IsSectionWithin used) (sym e) (record {
      allowed = record { some_letter = omega arith; named = named n v; letters_named = (named letter vl.1, more.0) };
      few = omega (arith, room, more.1);
    })

sections_within : (language : ℕ) (first : SectionText) (values before : List SectionText)
    → AllAfter (λ b s. (nat_le 15 (length b) ≡ false) × MayMean (section language (letters_of (first ∷ b))) s) before values
    → length before ≤ 15 → letters_of (first ∷ before) ≤ 256
    → AllByRecursion IsAllowedSection values × (length before + length values ≤ 15) × (letters_of (first ∷ before ++ values) ≤ 256)
sections_within language first [] before all fit few =
    (tt, omega (arith, fit), subst (λ (l : List SectionText). letters_of (first ∷ l) ≤ 256) (sym (append-nil before)) few)
sections_within language first (s ∷ values) before (here, all) fit few =
    let room : length before < 15 = leb-false 15 (length before) here.0 in
    let one = section_within language (letters_of (first ∷ before)) s here.1 in
    let more = sections_within language first values (before ++ s ∷ []) all (omega (arith, room, length-append before (s ∷ [])))
    (omega (arith, one.few, sum_by_push (λ (t : SectionText). length t.letters) (first ∷ before) s)) in (
      (one.allowed, more.0),
      omega (arith, more.1, length-append before (s ∷ [])),
      subst (λ (l : List SectionText). letters_of (first ∷ l) ≤ 256) (append_assoc before (s ∷ []) values) more.2,
    )

pushed_within : (names : List Name) → MayMean pushed names → (0 < length names) × (length names ≤ 4)
unfolding pushed
pushed_within names (u, tu, (first, v, (rest, w, e))) =
    let more = up_to_within 3 Limits.Pushed name (λ _. ⊤) (λ _ _. tt) rest w in
    rw e (omega arith, omega (arith, more.1))

common_within : (b : MoveBody) → MayMean common_move b → IsAllowedMove b
unfolding common_move at_move pair_move ring_move two_move set_move channel_or_stack_move send_move recv_move pop_move push_move
common_within b (inl (u, tu, (from, vf, (x, tx, (to, vt, (guards, vg, (map, vm, e))))))) =
    subst IsAllowedMove (sym e) (up_to_within 4 Limits.Guards guard (λ _. ⊤) (λ _ _. tt) guards vg).1
common_within b (inr (inl (n, v, e))) = subst IsAllowedMove (sym e) tt
common_within b (inr (inr (inl (n, v, e)))) = subst IsAllowedMove (sym e) tt
common_within b (inr (inr (inr (inl (n, v, e))))) = subst IsAllowedMove (sym e) tt
common_within b (inr (inr (inr (inr (inl (u, tu, (f, vf, (x, tx, (t, vt, e))))))))) = subst IsAllowedMove (sym e) tt
common_within b (inr (inr (inr (inr (inr (inl (u, tu, (n, v, e)))))))) = subst IsAllowedMove (sym e) tt
common_within b (inr (inr (inr (inr (inr (inr (inl (u, tu, (n, v, e))))))))) = subst IsAllowedMove (sym e) tt
common_within b (inr (inr (inr (inr (inr (inr (inr (inl (u, tu, (n, v, (push, inl none, e))))))))))) =
    subst IsAllowedMove (sym e) (tt, rw none (omega arith))
common_within b (inr (inr (inr (inr (inr (inr (inr (inl (u, tu, (n, v, (push, inr w, e))))))))))) =
    subst IsAllowedMove (sym e) (tt, (pushed_within push w).1)
common_within b (inr (inr (inr (inr (inr (inr (inr (inr (push, v, e))))))))) = subst IsAllowedMove (sym e) (pushed_within push v)

later_within : (b : MoveBody) → MayMean later_move b → IsAllowedMove b
unfolding later_move spawn_move exit_move lose_move
later_within b (inl (u, tu, (n, v, e))) = subst IsAllowedMove (sym e) tt
later_within b (inr (inl (u, tu, (n, v, e)))) = subst IsAllowedMove (sym e) tt
later_within b (inr (inr (u, tu, (base, v, e)))) = subst IsAllowedMove (sym e) tt

body_within : (language : ℕ) (b : MoveBody) → MayMean (any_move language) b → IsAllowedMove b
unfolding any_move
body_within language b (inl v) = later_within b v.1
body_within language b (inr v) = common_within b v

step_within : (language : ℕ) (m : MoveText) → MayMean (step language) m → IsAllowedMove m.body
unfolding step
step_within language m (n, v, (u, tu, (body, w, (x, tx, e)))) =
    subst (λ (t : MoveText). IsAllowedMove t.body) (sym e) (body_within language body w)

rule_within : (language : ℕ) (r : RuleText) → MayMean (rule language) r → IsAllowedRule r
unfolding rule
rule_within language r (u, tu, (n, v, (w, tw, (moves, vm, (x, tx, e))))) =
    subst IsAllowedRule (sym e) (record { named = named n v; bodies = each_item (step language) (λ m. IsAllowedMove m.body) (step_within language) moves [] vm })

protocol_within : (p : Protocol) → MayMean protocol p → IsAllowed p
unfolding protocol more_sections
protocol_within p (u, tu, (n, v, (language, vg, (first, vf, (sections, vs, (init, vi, (rules, vr, (bad, vb, e)))))))) =
    let one = section_within language 0 first vf in
    let more = sections_within language first sections [] vs (omega arith)
    (omega (arith, one.few, sum_by-cons (λ (t : SectionText). length t.letters) first [])) in
    let start = up_to_within 32 Limits.InitRows (row Words.Init) IsAllowedRow (row_within Words.Init) init vi in
    let each = up_to_within 256 Limits.Rules (rule language) IsAllowedRule (rule_within language) rules vr in
    let wrong = up_to_within 32 Limits.BadRows (row Words.Bad) IsAllowedRow (row_within Words.Bad) bad vb in
    subst IsAllowed (sym e) (record {
      named = named n v;
      some_section = omega arith;
      sections_limit = omega (arith, more.1);
      each_section = (one.allowed, more.0);
      letters_limit = more.2;
      init_limit = start.1;
      rules_limit = each.1;
      bad_limit = wrong.1;
      each_init = start.0;
      each_rule = each.0;
      each_bad = wrong.0;
    })

pub IsAllowed-read : (text : List ℕ) (p : Protocol) → IsProtocol text p → IsAllowed p
IsAllowed-read text p (tokens, are, within) =
    protocol_within p (within_may_mean text tokens are protocol protocol_is_uniform protocol_is_told p within)
