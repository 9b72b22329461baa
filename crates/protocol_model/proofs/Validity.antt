-- The system of a protocol that is allowed and has no fault is valid.
use Rattle.std.proofs.Common.{◌≡◌, ◌≢◌, ℕ, ◌<◌, ◌≤◌, Bool, true, false, List, [], ◌∷◌, ◌++◌, Option, None, Some, map, length, refl, ap, sym, subst, ◌∙◌}
use Rattle.std.proofs.lemmas.List.{map-append}
use Rattle.std.specs.Prelude.{AllPairs}
use Rattle.std.specs.List.{list_any, flat_map, AllByRecursion}
use Rattle.std.specs.Option.{option_map, option_map_or}
use Rattle.std.specs.Str.{bytes_eq}
use Rattle.std.proofs.lemmas.Option.{slice_get-map}
use Rattle.protocol_syntax.specs.declared.protocol.Kind.{Kind}
use Rattle.forms.specs.declared.name.Name.{Name}
use Rattle.protocol_syntax.specs.declared.protocol.Protocol.{Protocol}
use Rattle.protocol_syntax.specs.declared.protocol.SectionText.{SectionText}
use Rattle.protocol_syntax.specs.declared.protocol.RowText.{RowText}
use Rattle.protocol_syntax.specs.declared.protocol.PartText.{PartText}
use Rattle.protocol_syntax.specs.declared.protocol.MoveText.{MoveText}
use Rattle.protocol_syntax.specs.declared.protocol.Move.TheVariants.{At, Stack, Lose}
use Rattle.protocol_syntax.specs.declared.protocol.RuleText.{RuleText}
use Rattle.protocol_syntax.specs.MoveLetters.{MoveBody, GuardText, base_names, letters_before_table, table_of, renamed_guard, renamed_pair, IsAllowedMove, belongs_to}
use Rattle.protocol_model.specs.declared.fault.ModelFault.TheVariants.{Duplicate, TouchedTwice, WrongKind}
use Rattle.protocol_model.specs.System.{AllBelow, IsValidSection, IsValidPattern, IsValidRow, IsValidMove, IsValidPart, IsValidRule, IsValid, letter_count_at}
use Rattle.protocol_model.specs.Numbering.{number_of, section_names, section_named, letters_named, section_of, texts_of, part_of, row_of, move_of_text, step_of, rule_of, system_of}
use Rattle.protocol_model.specs.Faults.{is_among, unknown, duplicate, touched_twice, letters_fault, first_fault_of, section_fault, part_fault, row_fault, entry_fault, body_fault, wrong_kind, step_fault, rule_fault, first_fault}
use Rattle.protocol_model.specs.Allowed.{IsAllowed, IsAllowedSection, IsAllowedRow, IsAllowedRule}
use Rattle.protocol_model.specs.Names.{IsName}
use Rattle.protocol_model.proofs.Lists.{length_map}
use Rattle.protocol_model.proofs.Distinct.{IsClean, each_clean, all_of_map, all_of_both, named_apart, none_first, none_second}
use Rattle.protocol_model.proofs.InRange.{true_of_none, false_of_none, known, number_in, number_injective, numbers_in, base_in, pattern_valid, count_at, total_is}

section_in : (texts : List SectionText) (name : Name) → unknown (section_names texts) name ≡ None →
    number_of (section_names texts) name < length (map section_of texts)
section_in texts name h =
    rw (length_map section_of texts, ← length_map (λ section. section.name.text) texts) (number_in (section_names texts) name h)

-- a part of a row names a known section, which no earlier part names, and its pattern is valid
part_known : (texts : List SectionText) (part : PartText) → IsClean (part_fault texts) part → unknown (section_names texts) part.section ≡ None
part_known texts part clean = none_first (unknown (section_names texts) part.section) _ clean.none

part_fresh : (texts : List SectionText) (earlier : List PartText) (part : PartText) → part_fault texts earlier part ≡ None →
    list_any (bytes_eq part.section.text) (map (λ before. before.section.text) earlier) ≡ false
part_fresh texts earlier part h =
    false_of_none (is_among (map (λ before. before.section.text) earlier) part.section) (Duplicate part.section)
    (none_first (duplicate (map (λ before. before.section.text) earlier) part.section) _
    (none_second (unknown (section_names texts) part.section) _ h))

part_pattern : (texts : List SectionText) (part : PartText) → IsClean (part_fault texts) part → length part.atoms ≤ 32 →
    IsValidPattern (letter_count_at (map section_of texts) (part_of texts part).0) (part_of texts part).1
part_pattern texts part clean limit =
    rw (count_at texts (number_of (section_names texts) part.section))
    (pattern_valid (letters_named texts part.section) part.atoms
    (none_second (duplicate (map (λ before. before.section.text) clean.before) part.section) _
    (none_second (unknown (section_names texts) part.section) _ clean.none))
    limit)

pub row_valid : (texts : List SectionText) (row : RowText) → row_fault texts row ≡ None → IsAllowedRow row →
    IsValidRow (map section_of texts) (row_of texts row)
row_valid texts row h allowed =
    let clean = each_clean (part_fault texts) [] row.parts h in
    record {
      in_range =
          all_of_map (IsClean (part_fault texts)) (λ part. part.0 < length (map section_of texts)) (part_of texts)
          (λ part ok. section_in texts part.section (part_known texts part ok)) row.parts clean;
      patterns =
          all_of_map (λ part. IsClean (part_fault texts) part × (length part.atoms ≤ 32))
          (λ part. IsValidPattern (letter_count_at (map section_of texts) part.0) part.1) (part_of texts)
          (λ part ok. part_pattern texts part ok.0 ok.1) row.parts
          (all_of_both (IsClean (part_fault texts)) (λ part. length part.atoms ≤ 32) row.parts clean allowed);
      distinct =
          named_apart (λ part. part.section.text) (part_of texts) (part_fault texts) (λ a b. a.0 ≢ b.0) (part_fresh texts)
          (λ a b before later none_a none_b differs e.
          differs (number_injective (section_names texts) a.section b.section
          (known (section_names texts) a.section (none_first (unknown (section_names texts) a.section) _ none_a))
          (known (section_names texts) b.section (none_first (unknown (section_names texts) b.section) _ none_b)) e))
          [] row.parts h;
    }

-- the moves

entry_fresh : (letters : List (List ℕ)) (earlier : List (Name × Name)) (entry : Name × Name) → entry_fault letters earlier entry ≡ None →
    list_any (bytes_eq entry.0.text) (map (λ before. before.0.text) earlier) ≡ false
entry_fresh letters earlier entry h =
    false_of_none (is_among (map (λ before. before.0.text) earlier) entry.0) (Duplicate entry.0)
    (none_first (duplicate (map (λ before. before.0.text) earlier) entry.0) _ (none_second (unknown letters entry.0) _ h))

entry_in : (letters : List (List ℕ)) (entry : Name × Name) → IsClean (entry_fault letters) entry →
    (number_of letters entry.0 < length letters) × (number_of letters entry.1 < length letters)
entry_in letters entry clean = (
  number_in letters entry.0 (none_first (unknown letters entry.0) _ clean.none),
  number_in letters entry.1
      (none_second (duplicate (map (λ before. before.0.text) clean.before) entry.0) _ (none_second (unknown letters entry.0) _ clean.none)),
)

-- what the letters of a move and its parts become
guards_renamed : (letters : List (List ℕ)) (guards : List GuardText) →
    flat_map (λ guard. guard.letters) (map (renamed_guard (number_of letters)) guards)
    ≡ map (number_of letters) (flat_map (λ guard. guard.letters) guards)
guards_renamed letters [] = refl
guards_renamed letters (g ∷ guards) =
    ap (λ xs. map (number_of letters) g.letters ++ xs) (guards_renamed letters guards)
    ∙ sym (map-append (number_of letters) g.letters (flat_map (λ guard. guard.letters) guards))

letters_in : (letters : List (List ℕ)) (body : MoveBody) → letters_fault letters (letters_before_table base_names body) ≡ None →
    AllBelow (length letters) (letters_before_table (λ numbers. numbers) (move_of_text letters body))
letters_in letters (At f t guards table) h =
    subst (λ xs. AllBelow (length letters) (number_of letters f ∷ number_of letters t ∷ xs)) (sym (guards_renamed letters guards))
    (numbers_in letters (f ∷ t ∷ flat_map (λ guard. guard.letters) guards) h)
letters_in letters (Stack None push) h = numbers_in letters push h
letters_in letters (Stack (Some a) push) h = numbers_in letters (a ∷ push) h
letters_in letters (Lose base) h = base_in letters base h
letters_in letters body h = numbers_in letters (letters_before_table base_names body) h

table_renamed : (letters : List (List ℕ)) (body : MoveBody) →
    table_of (move_of_text letters body) ≡ map (renamed_pair (number_of letters)) (table_of body)
table_renamed letters (At f t guards table) = refl
table_renamed letters _ = refl

limits_kept : (letters : List (List ℕ)) (body : MoveBody) → IsAllowedMove body → IsAllowedMove (move_of_text letters body)
limits_kept letters (At f t guards table) h = rw (length_map (renamed_guard (number_of letters)) guards) h
limits_kept letters (Stack None push) h = (rw (length_map (number_of letters) push) h.0, rw (length_map (number_of letters) push) h.1)
limits_kept letters (Stack (Some a) push) h = (tt, rw (length_map (number_of letters) push) h.1)
limits_kept letters _ h = tt

kind_kept : (letters : List (List ℕ)) (body : MoveBody) (kind : Kind) → belongs_to (move_of_text letters body) kind ≡ belongs_to body kind
kind_kept letters (At f t guards table) kind = refl
kind_kept letters _ kind = refl

move_valid : (letters : List (List ℕ)) (body : MoveBody) → body_fault letters body ≡ None → IsAllowedMove body →
    IsValidMove (length letters) (move_of_text letters body)
move_valid letters body h allowed =
    let names = none_first (letters_fault letters (letters_before_table base_names body)) _ h in
    let entries = none_second (letters_fault letters (letters_before_table base_names body)) _ h in
    record {
      in_range = letters_in letters body names;
      table_in_range =
          subst (λ (table : List (ℕ × ℕ)). AllByRecursion (λ entry. (entry.0 < length letters) × (entry.1 < length letters)) table)
          (sym (table_renamed letters body))
          (all_of_map (IsClean (entry_fault letters)) (λ entry. (entry.0 < length letters) × (entry.1 < length letters))
          (renamed_pair (number_of letters)) (entry_in letters) (table_of body) (each_clean (entry_fault letters) [] (table_of body) entries));
      table_distinct =
          subst (λ (table : List (ℕ × ℕ)). AllPairs (λ a b. a.0 ≢ b.0) table) (sym (table_renamed letters body))
          (named_apart (λ entry. entry.0.text) (renamed_pair (number_of letters)) (entry_fault letters) (λ a b. a.0 ≢ b.0) (entry_fresh letters)
          (λ a b before later none_a none_b differs e.
          differs (number_injective letters a.0 b.0
          (known letters a.0 (none_first (unknown letters a.0) _ none_a))
          (known letters b.0 (none_first (unknown letters b.0) _ none_b)) e))
          [] (table_of body) entries);
      limits = limits_kept letters body allowed;
    }

-- the section of a step, which passes a test of its kind
record IsFound (found : Option SectionText) (test : Kind → Bool) : Type 0 where
  section : SectionText
  is : found ≡ Some section
  passes : test section.kind ≡ true

found_of : (found : Option SectionText) (test : Kind → Bool) → option_map_or (λ section. test section.kind) found false ≡ true → IsFound found test
found_of None test h = cc
found_of (Some section) test h = record { section = section; is = refl; passes = h }

step_valid : (texts : List SectionText) (step : MoveText) → IsClean (step_fault texts) step → IsAllowedMove step.body →
    IsValidPart (map section_of texts) (step_of texts step)
step_valid texts step clean allowed =
    let names = section_names texts in
    let earlier = map (λ before. before.section.text) clean.before in
    let after_known = none_second (unknown names step.section) _ clean.none in
    let after_fresh = none_second (touched_twice earlier step.section) _ after_known in
    let right = none_first (wrong_kind texts step) _ after_fresh in
    let body = none_second (wrong_kind texts step) _ after_fresh in
    let found = found_of (section_named texts step.section) (belongs_to step.body)
    (true_of_none (option_map_or (λ section. belongs_to step.body section.kind) (section_named texts step.section) false)
    (WrongKind step.section) right) in
    let letters : letters_named texts step.section ≡ texts_of found.section.letters =
    ap (λ o. option_map_or (λ section. texts_of section.letters) o []) found.is in
    record {
      section = section_of found.section;
      is_there = slice_get-map section_of texts (number_of names step.section) ∙ ap (λ o. option_map section_of o) found.is;
      of_kind = kind_kept (letters_named texts step.section) step.body found.section.kind ∙ found.passes;
      valid_move =
          subst (λ ls. IsValidMove (length ls) (move_of_text (letters_named texts step.section) step.body)) letters
          (move_valid (letters_named texts step.section) step.body body allowed);
    }

step_fresh : (texts : List SectionText) (earlier : List MoveText) (step : MoveText) → step_fault texts earlier step ≡ None →
    list_any (bytes_eq step.section.text) (map (λ before. before.section.text) earlier) ≡ false
step_fresh texts earlier step h =
    false_of_none (is_among (map (λ before. before.section.text) earlier) step.section) (TouchedTwice step.section)
    (none_first (touched_twice (map (λ before. before.section.text) earlier) step.section) _
    (none_second (unknown (section_names texts) step.section) _ h))

rule_valid : (texts : List SectionText) (rule : RuleText) → first_fault_of (step_fault texts) [] rule.moves ≡ None → IsAllowedRule rule →
    IsValidRule (map section_of texts) (rule_of texts rule)
rule_valid texts rule h allowed =
    record {
      named = allowed.named;
      parts =
          all_of_map (λ step. IsClean (step_fault texts) step × IsAllowedMove step.body) (IsValidPart (map section_of texts)) (step_of texts)
          (λ step ok. step_valid texts step ok.0 ok.1) rule.moves
          (all_of_both (IsClean (step_fault texts)) (λ step. IsAllowedMove step.body) rule.moves
          (each_clean (step_fault texts) [] rule.moves h) allowed.bodies);
      distinct =
          named_apart (λ step. step.section.text) (step_of texts) (step_fault texts) (λ a b. a.0 ≢ b.0) (step_fresh texts)
          (λ a b before later none_a none_b differs e.
          differs (number_injective (section_names texts) a.section b.section
          (known (section_names texts) a.section (none_first (unknown (section_names texts) a.section) _ none_a))
          (known (section_names texts) b.section (none_first (unknown (section_names texts) b.section) _ none_b)) e))
          [] rule.moves h;
    }

-- the sections

section_valid : (section : SectionText) → IsClean section_fault section → IsAllowedSection section → IsValidSection (section_of section)
section_valid section clean allowed =
    record {
      named = allowed.named;
      letters_named =
          all_of_map (λ letter. IsName letter.text) IsName (λ letter. letter.text) (λ letter named. named) section.letters allowed.letters_named;
      has_letter = rw (length_map (λ name. name.text) section.letters) allowed.some_letter;
      distinct =
          named_apart (λ name. name.text) (λ name. name.text) (λ before. duplicate (texts_of before)) (λ a b. a ≢ b)
          (λ earlier name none. false_of_none (is_among (texts_of earlier) name) (Duplicate name) none)
          (λ a b before later none_a none_b differs. differs) [] section.letters
          (none_second (duplicate (section_names clean.before) section.name) _ clean.none);
    }

rows_valid : (texts : List SectionText) (rows : List RowText) → first_fault_of (λ _. row_fault texts) [] rows ≡ None →
    AllByRecursion IsAllowedRow rows → AllByRecursion (IsValidRow (map section_of texts)) (map (row_of texts) rows)
rows_valid texts rows h allowed =
    all_of_map (λ row. IsClean (λ _. row_fault texts) row × IsAllowedRow row) (IsValidRow (map section_of texts)) (row_of texts)
    (λ row ok. row_valid texts row ok.0.none ok.1) rows
    (all_of_both (IsClean (λ _. row_fault texts)) IsAllowedRow rows (each_clean (λ _. row_fault texts) [] rows h) allowed)

pub system_valid : (p : Protocol) → IsAllowed p → first_fault p ≡ None → IsValid (system_of p)
system_valid p allowed h =
    let texts = p.sections in
    let sections = none_first (first_fault_of section_fault [] texts) _ h in
    let after_sections = none_second (first_fault_of section_fault [] texts) _ h in
    let init = none_first (first_fault_of (λ _. row_fault texts) [] p.init) _ after_sections in
    let after_init = none_second (first_fault_of (λ _. row_fault texts) [] p.init) _ after_sections in
    let rules = none_first (first_fault_of (rule_fault texts) [] p.rules) _ after_init in
    let bad = none_second (first_fault_of (rule_fault texts) [] p.rules) _ after_init in
    record {
      named = allowed.named;
      limits = record {
        some_section = rw (length_map section_of texts) allowed.some_section;
        sections_limit = rw (length_map section_of texts) allowed.sections_limit;
        letters_limit = rw (total_is texts) allowed.letters_limit;
        rules_limit = rw (length_map (rule_of texts) p.rules) allowed.rules_limit;
        init_limit = rw (length_map (row_of texts) p.init) allowed.init_limit;
        bad_limit = rw (length_map (row_of texts) p.bad) allowed.bad_limit;
      };
      each_section =
          all_of_map (λ section. IsClean section_fault section × IsAllowedSection section) IsValidSection section_of
          (λ section ok. section_valid section ok.0 ok.1) texts
          (all_of_both (IsClean section_fault) IsAllowedSection texts (each_clean section_fault [] texts sections) allowed.each_section);
      section_names =
          named_apart (λ section. section.name.text) section_of section_fault (λ a b. a.name ≢ b.name)
          (λ earlier section none. false_of_none (is_among (section_names earlier) section.name) (Duplicate section.name)
          (none_first (duplicate (section_names earlier) section.name) _ none))
          (λ a b before later none_a none_b differs. differs) [] texts sections;
      each_init = rows_valid texts p.init init allowed.each_init;
      each_rule =
          all_of_map (λ rule. IsClean (rule_fault texts) rule × IsAllowedRule rule) (IsValidRule (map section_of texts)) (rule_of texts)
          (λ rule ok. rule_valid texts rule
          (none_second (duplicate (map (λ before. before.name.text) ok.0.before) rule.name) _ ok.0.none) ok.1) p.rules
          (all_of_both (IsClean (rule_fault texts)) IsAllowedRule p.rules (each_clean (rule_fault texts) [] p.rules rules) allowed.each_rule);
      rule_names =
          named_apart (λ rule. rule.name.text) (rule_of texts) (rule_fault texts) (λ a b. a.name ≢ b.name)
          (λ earlier rule none. false_of_none (is_among (map (λ before. before.name.text) earlier) rule.name) (Duplicate rule.name)
          (none_first (duplicate (map (λ before. before.name.text) earlier) rule.name) _ none))
          (λ a b before later none_a none_b differs. differs) [] p.rules rules;
      each_bad = rows_valid texts p.bad bad allowed.each_bad;
    }
