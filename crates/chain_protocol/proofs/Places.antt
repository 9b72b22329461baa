-- A protocol has no fault where it has none apart from the places of its names.
use Rattle.std.proofs.Common.{◌≡◌, ℕ, false, List, [], ◌∷◌, ◌++◌, Option, None, Some, map, refl, sym, ap, subst, ◌∙◌}
use Rattle.std.specs.List.{flat_map}
use Rattle.std.specs.Option.{option_or, option_map, option_map_or}
use Rattle.std.specs.Prelude.{slice_get}
use Rattle.std.proofs.lemmas.Bool.{cond-true, cond-false}
use Rattle.std.proofs.lemmas.List.{map-append}
use Rattle.std.proofs.lemmas.Option.{slice_get-map}
use Rattle.forms.specs.declared.name.Name.{Name}
use Rattle.protocol_syntax.specs.declared.protocol.Kind.{Kind}
use Rattle.protocol_syntax.specs.declared.protocol.Protocol.{Protocol}
use Rattle.protocol_syntax.specs.declared.protocol.SectionText.{SectionText}
use Rattle.protocol_syntax.specs.declared.protocol.RowText.{RowText}
use Rattle.protocol_syntax.specs.declared.protocol.PartText.{PartText}
use Rattle.protocol_syntax.specs.declared.protocol.AtomText.{AtomText}
use Rattle.protocol_syntax.specs.declared.protocol.BaseText.{BaseText}
use Rattle.protocol_syntax.specs.declared.protocol.BaseText.TheVariants.{Letter}
use Rattle.protocol_syntax.specs.declared.protocol.MoveText.{MoveText}
use Rattle.protocol_syntax.specs.declared.protocol.Move.TheVariants.{At, Stack, Lose}
use Rattle.protocol_syntax.specs.declared.protocol.RuleText.{RuleText}
use Rattle.protocol_syntax.specs.MoveLetters.{MoveBody, GuardText, base_names, popped, letters_before_table, table_of, renamed_guard, renamed_pair, belongs_to}
use Rattle.protocol_layout.specs.Places.{name_without_place, section_without_places, base_without_places, atom_without_places, part_without_places, row_without_places, move_without_places, step_without_places, rule_without_places, without_places}
use Rattle.protocol_model.specs.declared.fault.ModelFault.{ModelFault}
use Rattle.protocol_model.specs.declared.fault.ModelFault.TheVariants.{Duplicate, Unknown, TouchedTwice, WrongKind}
use Rattle.protocol_model.specs.Numbering.{texts_of, section_names, section_named, letters_named, number_of}
use Rattle.protocol_model.specs.Faults.{first_fault_of, is_among, duplicate, touched_twice, unknown, section_fault, letters_fault, base_fault, part_fault, row_fault, entry_fault, body_fault, wrong_kind, step_fault, rule_fault, first_fault}
use Rattle.protocol_model.proofs.ForCallers.{none_first, none_second, true_of_none, false_of_none, known, or_none}

-- two tests one after the other find nothing where two others find nothing
both : (a b c d : Option ModelFault) → (a ≡ None → c ≡ None) → (b ≡ None → d ≡ None) → option_or a b ≡ None → option_or c d ≡ None
both a b c d f g h = or_none c d (f (none_first a b h)) (g (none_second a b h))

-- what is left out of items leaves their keys
same_keys : {X Y : Type 0} (without : X → X) (key : X → Y) → ((x : X) → key (without x) ≡ key x) → (xs : List X) → map key (map without xs) ≡ map key xs
same_keys without key same [] = refl
same_keys without key same (x ∷ xs) =
    ap (λ y. y ∷ map key (map without xs)) (same x) ∙ ap (λ l. key x ∷ l) (same_keys without key same xs)

each_without : {X : Type 0} (without : X → X) (fault other : List X → X → Option ModelFault)
    → ((earlier : List X) (x : X) → other (map without earlier) (without x) ≡ None → fault earlier x ≡ None)
    → (earlier xs : List X) → first_fault_of other (map without earlier) (map without xs) ≡ None → first_fault_of fault earlier xs ≡ None
each_without without fault other each earlier [] h = refl
each_without {X} without fault other each earlier (x ∷ xs) h =
    let now = ap (λ (l : List X). first_fault_of other l (map without xs)) (map-append without earlier (x ∷ [])) in
    both _ _ _ _ (each earlier x) (λ rest. each_without without fault other each (earlier ++ x ∷ []) xs (now ∙ rest)) h

unknown_without : (names : List (List ℕ)) (n : Name) → unknown names (name_without_place n) ≡ None → unknown names n ≡ None
unknown_without names n h = cond-true (is_among names n) None (Some (Unknown n)) (known names (name_without_place n) h)

duplicate_without : (names others : List (List ℕ)) (n : Name) → others ≡ names → duplicate others (name_without_place n) ≡ None → duplicate names n ≡ None
duplicate_without names others n same h =
    let fresh = false_of_none (is_among others n) (Duplicate (name_without_place n)) h in
    cond-false (is_among names n) (Some (Duplicate n)) None (subst (λ (l : List (List ℕ)). is_among l n ≡ false) same fresh)

touched_without : (names others : List (List ℕ)) (n : Name) → others ≡ names → touched_twice others (name_without_place n) ≡ None → touched_twice names n ≡ None
touched_without names others n same h =
    let fresh = false_of_none (is_among others n) (TouchedTwice (name_without_place n)) h in
    cond-false (is_among names n) (Some (TouchedTwice n)) None (subst (λ (l : List (List ℕ)). is_among l n ≡ false) same fresh)

letters_without : (letters : List (List ℕ)) (names : List Name) → letters_fault letters (map name_without_place names) ≡ None → letters_fault letters names ≡ None
letters_without letters names h =
    each_without name_without_place (λ _. unknown letters) (λ _. unknown letters) (λ _ n. unknown_without letters n) [] names h

base_names_without : (b : BaseText) → base_names (base_without_places b) ≡ map name_without_place (base_names b)
base_names_without (Letter n) = refl
base_names_without _ = refl

base_without : (letters : List (List ℕ)) (b : BaseText) → base_fault letters (base_without_places b) ≡ None → base_fault letters b ≡ None
base_without letters b h =
    letters_without letters (base_names b) (subst (λ (names : List Name). letters_fault letters names ≡ None) (base_names_without b) h)

entry_without : (letters : List (List ℕ)) (earlier : List (Name × Name)) (e : Name × Name)
    → entry_fault letters (map (renamed_pair name_without_place) earlier) (renamed_pair name_without_place e) ≡ None → entry_fault letters earlier e ≡ None
entry_without letters earlier e h =
    let same = same_keys (renamed_pair name_without_place) (λ (before : Name × Name). before.0.text) (λ _. refl) earlier in
    both _ _ _ _ (unknown_without letters e.0) (both _ _ _ _ (duplicate_without _ _ e.0 same) (unknown_without letters e.1)) h

popped_without : (pop : Option Name) (push : List Name)
    → popped (option_map name_without_place pop) ++ map name_without_place push ≡ map name_without_place (popped pop ++ push)
popped_without None push = refl
popped_without (Some n) push = refl

guards_without : (guards : List GuardText)
    → flat_map (λ g. g.letters) (map (renamed_guard name_without_place) guards) ≡ map name_without_place (flat_map (λ g. g.letters) guards)
guards_without [] = refl
guards_without (g ∷ guards) =
    ap (λ (l : List Name). map name_without_place g.letters ++ l) (guards_without guards)
    ∙ sym (map-append name_without_place g.letters (flat_map (λ (h : GuardText). h.letters) guards))

move_letters_without : (b : MoveBody) → letters_before_table base_names (move_without_places b) ≡ map name_without_place (letters_before_table base_names b)
move_letters_without (At f t guards table) =
    ap (λ (l : List Name). name_without_place f ∷ name_without_place t ∷ l) (guards_without guards)
move_letters_without (Stack pop push) = popped_without pop push
move_letters_without (Lose base) = base_names_without base
move_letters_without _ = refl

table_without : (b : MoveBody) → table_of (move_without_places b) ≡ map (renamed_pair name_without_place) (table_of b)
table_without (At f t guards table) = refl
table_without _ = refl

body_without : (letters : List (List ℕ)) (b : MoveBody) → body_fault letters (move_without_places b) ≡ None → body_fault letters b ≡ None
body_without letters b h =
    let names = ap (letters_fault letters) (move_letters_without b) in
    let table = ap (first_fault_of (entry_fault letters) []) (table_without b) in
    both _ _ _ _ (λ g. letters_without letters (letters_before_table base_names b) (sym names ∙ g))
    (λ g. each_without (renamed_pair name_without_place) (entry_fault letters) (entry_fault letters) (entry_without letters) [] (table_of b) (sym table ∙ g)) h

belongs_without : (b : MoveBody) (kind : Kind) → belongs_to (move_without_places b) kind ≡ belongs_to b kind
belongs_without (At f t guards table) kind = refl
belongs_without _ kind = refl

letters_of_section : (o : Option SectionText) → option_map_or (λ s. texts_of s.letters) (option_map section_without_places o) []
    ≡ option_map_or (λ s. texts_of s.letters) o []
letters_of_section None = refl
letters_of_section (Some s) = same_keys name_without_place (λ n. n.text) (λ _. refl) s.letters

kind_of_section : (b : MoveBody) (o : Option SectionText) → option_map_or (λ s. belongs_to (move_without_places b) s.kind) (option_map section_without_places o) false
    ≡ option_map_or (λ s. belongs_to b s.kind) o false
kind_of_section b None = refl
kind_of_section b (Some s) = belongs_without b s.kind

module _ (sections : List SectionText) where
  abbrev others : List SectionText
  others = map section_without_places sections

  names_same : section_names others ≡ section_names sections
  names_same = same_keys section_without_places (λ s. s.name.text) (λ _. refl) sections

  named_same : (n : Name) → section_named others (name_without_place n) ≡ option_map section_without_places (section_named sections n)
  named_same n =
      ap (λ (names : List (List ℕ)). slice_get others (number_of names n)) names_same
      ∙ slice_get-map section_without_places sections (number_of (section_names sections) n)

  letters_same : (n : Name) → letters_named others (name_without_place n) ≡ letters_named sections n
  letters_same n =
      ap (λ (o : Option SectionText). option_map_or (λ s. texts_of s.letters) o []) (named_same n) ∙ letters_of_section (section_named sections n)

  known_without : (n : Name) → unknown (section_names others) (name_without_place n) ≡ None → unknown (section_names sections) n ≡ None
  known_without n h =
      unknown_without (section_names sections) n (subst (λ (names : List (List ℕ)). unknown names (name_without_place n) ≡ None) names_same h)

  part_without : (earlier : List PartText) (p : PartText) → part_fault others (map part_without_places earlier) (part_without_places p) ≡ None
      → part_fault sections earlier p ≡ None
  part_without earlier p h =
      let n = p.section in
      let same = same_keys part_without_places (λ (before : PartText). before.section.text) (λ _. refl) earlier in
      let test = λ (letters : List (List ℕ)) (_ : List AtomText) (a : AtomText). base_fault letters a.base in
      let letters = letters_named sections n in
      let atoms = ap (λ (l : List (List ℕ)). first_fault_of (test l) [] (map atom_without_places p.atoms)) (letters_same n) in
      both _ _ _ _ (known_without n) (both _ _ _ _ (duplicate_without _ _ n same)
      (λ g. each_without atom_without_places (test letters) (test letters) (λ _ a. base_without letters a.base) [] p.atoms (sym atoms ∙ g))) h

  row_without : (r : RowText) → row_fault others (row_without_places r) ≡ None → row_fault sections r ≡ None
  row_without r h = each_without part_without_places (part_fault sections) (part_fault others) part_without [] r.parts h

  kind_without : (m : MoveText) → wrong_kind others (step_without_places m) ≡ None → wrong_kind sections m ≡ None
  kind_without m h =
      let test = option_map_or (λ (s : SectionText). belongs_to m.body s.kind) (section_named sections m.section) false in
      let other = option_map_or (λ (s : SectionText). belongs_to (move_without_places m.body) s.kind) (section_named others (name_without_place m.section)) false in
      let same : other ≡ test =
      ap (λ (o : Option SectionText). option_map_or (λ s. belongs_to (move_without_places m.body) s.kind) o false) (named_same m.section)
      ∙ kind_of_section m.body (section_named sections m.section) in
      cond-true test None (Some (WrongKind m.section)) (sym same ∙ true_of_none other (WrongKind (name_without_place m.section)) h)

  step_without : (earlier : List MoveText) (m : MoveText) → step_fault others (map step_without_places earlier) (step_without_places m) ≡ None
      → step_fault sections earlier m ≡ None
  step_without earlier m h =
      let n = m.section in
      let same = same_keys step_without_places (λ (before : MoveText). before.section.text) (λ _. refl) earlier in
      let body = ap (λ (l : List (List ℕ)). body_fault l (move_without_places m.body)) (letters_same n) in
      both _ _ _ _ (known_without n) (both _ _ _ _ (touched_without _ _ n same) (both _ _ _ _ (kind_without m)
      (λ g. body_without (letters_named sections n) m.body (sym body ∙ g)))) h

  rule_without : (earlier : List RuleText) (r : RuleText) → rule_fault others (map rule_without_places earlier) (rule_without_places r) ≡ None
      → rule_fault sections earlier r ≡ None
  rule_without earlier r h =
      both _ _ _ _ (duplicate_without _ _ r.name (same_keys rule_without_places (λ (before : RuleText). before.name.text) (λ _. refl) earlier))
      (each_without step_without_places (step_fault sections) (step_fault others) step_without [] r.moves) h

section_without : (earlier : List SectionText) (s : SectionText) → section_fault (map section_without_places earlier) (section_without_places s) ≡ None
    → section_fault earlier s ≡ None
section_without earlier s h =
    let test = λ (before : List Name). duplicate (texts_of before) in
    both _ _ _ _ (duplicate_without _ _ s.name (names_same earlier))
    (each_without name_without_place test test
    (λ before n. duplicate_without (texts_of before) (texts_of (map name_without_place before)) n (same_keys name_without_place (λ m. m.text) (λ _. refl) before))
    [] s.letters) h

-- a protocol that has no fault apart from places has none
pub faultless_without_places : (p : Protocol) → first_fault (without_places p) ≡ None → first_fault p ≡ None
faultless_without_places p h =
    let s = p.sections in
    let t = map section_without_places s in
    let rows = each_without row_without_places (λ _. row_fault s) (λ _. row_fault t) (λ _ r. row_without s r) [] in
    both _ _ _ _ (each_without section_without_places section_fault section_fault section_without [] s)
    (both _ _ _ _ (rows p.init)
    (both _ _ _ _ (each_without rule_without_places (rule_fault s) (rule_fault t) (rule_without s) [] p.rules) (rows p.bad))) h
