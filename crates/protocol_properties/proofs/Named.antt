-- The blocks of one name, and the names of the blocks.
use Rattle.std.proofs.Common.{◌≡◌, ◌≤◌, ◌<◌, ◌∙◌, ℕ, Bool, true, false, List, [], ◌∷◌, ◌++◌, Option, None, Some, map, length, cond, not, refl, ap, sym, inl, inr, arith, ◌||◌, ◌⊎◌, append-nil, take, get_or, subst, ◌+◌}
use Rattle.std.specs.List.{AllByRecursion, filter, list_any}
use Rattle.std.specs.Str.{bytes_eq}
use Rattle.std.proofs.lemmas.Bool.{cases_Bool}
use Rattle.std.proofs.lemmas.List.{map-append, take_more}
use Rattle.std.proofs.lemmas.List.Elements.{All-from_recursion, filter-append}
use Rattle.std.proofs.Math.Bool.{or-true}
use Rattle.forms.specs.declared.name.Name.{Name}
use Rattle.protocol_syntax.specs.declared.limits.TheConstants.{MAX_ROWS}
use Rattle.protocol_syntax.specs.declared.protocol.RowText.{RowText}
use Rattle.protocol_syntax.specs.declared.protocol.SectionText.{SectionText}
use Rattle.protocol_model.specs.Faults.{row_fault}
use Rattle.protocol_model.specs.Numbering.{row_of, section_of}
use Rattle.protocol_model.specs.System.{IsValidRow}
use Rattle.protocol_model.specs.declared.fault.ModelFault.{ModelFault}
use Rattle.protocol_model.specs.declared.fault.ModelFault.TheVariants.{Memory}
use Rattle.protocol_model.specs.Faults.{first_fault_of}
use Rattle.protocol_model.proofs.ForCallers.{IsClean, each_clean, length_map, row_valid}
use Rattle.protocol_model.specs.System.{SystemData}
use Rattle.protocol_properties.specs.Sections.{section_texts}
use Rattle.protocol_properties.specs.Properties.{IsAllowedBlock, AreAllowedBlocks, first_properties_fault, property_names, property_named, rows_named}
use Rattle.protocol_properties.proofs.Written.{sections_back}

abbrev pub Block : Type 0
Block = Name × RowText

-- the rows of one name

rows_named_more : (name : List ℕ) (blocks : List Block) (block : Block) → bytes_eq block.0.text name ≡ true →
    rows_named name (blocks ++ block ∷ []) ≡ rows_named name blocks ++ block.1 ∷ []
rows_named_more name blocks block h =
    let is = λ (b : Block). bytes_eq b.0.text name in
    ap (λ bs. map (λ b. b.1) bs) (filter-append is blocks (block ∷ []))
    ∙ map-append (λ b. b.1) (filter is blocks) (filter is (block ∷ []))
    ∙ ap (λ t. rows_named name blocks ++ map (λ (b : Block). b.1) (cond t (block ∷ []) [])) h

rows_named_same : (name : List ℕ) (blocks : List Block) (block : Block) → bytes_eq block.0.text name ≡ false →
    rows_named name (blocks ++ block ∷ []) ≡ rows_named name blocks
rows_named_same name blocks block h =
    let is = λ (b : Block). bytes_eq b.0.text name in
    ap (λ bs. map (λ b. b.1) bs)
    (filter-append is blocks (block ∷ []) ∙ ap (λ t. filter is blocks ++ cond t (block ∷ []) []) h ∙ append-nil (filter is blocks))

-- the names

filter_alone : (is : List ℕ → Bool) (name : List ℕ) (any : Bool) →
    filter (λ n. not (is n)) (cond any [] (name ∷ [])) ≡ cond (is name || any) [] (name ∷ [])
filter_alone is name true = rw (or-true (is name)) refl
filter_alone is name false = alone (is name)
  where
    alone : (b : Bool) → cond (not b) (name ∷ []) [] ≡ cond (b || false) [] (name ∷ [])
    alone true = refl
    alone false = refl

-- the name of one block more is new where no block has it
names_more : (blocks : List Block) (block : Block) →
    property_names (blocks ++ block ∷ [])
    ≡ property_names blocks ++ cond (list_any (λ b. bytes_eq b.0.text block.0.text) blocks) [] (block.0.text ∷ [])
names_more [] block = refl
names_more (b ∷ blocks) block =
    let name = block.0.text in
    let other = λ (n : List ℕ). not (bytes_eq b.0.text n) in
    let any = list_any (λ (c : Block). bytes_eq c.0.text name) blocks in
    ap (λ ns. b.0.text ∷ filter other ns) (names_more blocks block)
    ∙ ap (λ ns. b.0.text ∷ ns) (filter-append other (property_names blocks) (cond any [] (name ∷ [])))
    ∙ ap (λ ns. b.0.text ∷ (filter other (property_names blocks) ++ ns)) (filter_alone (bytes_eq b.0.text) name any)

names_with : (blocks : List Block) (block : Block) → list_any (λ b. bytes_eq b.0.text block.0.text) blocks ≡ false →
    property_names (blocks ++ block ∷ []) ≡ property_names blocks ++ block.0.text ∷ []
names_with blocks block h = names_more blocks block ∙ ap (λ any. property_names blocks ++ cond any [] (block.0.text ∷ [])) h

names_same : (blocks : List Block) (block : Block) → list_any (λ b. bytes_eq b.0.text block.0.text) blocks ≡ true →
    property_names (blocks ++ block ∷ []) ≡ property_names blocks
names_same blocks block h =
    names_more blocks block
    ∙ ap (λ any. property_names blocks ++ cond any [] (block.0.text ∷ [])) h
    ∙ append-nil (property_names blocks)

-- rows without a fault

abbrev RowFault : List SectionText → List Block → Block → Option ModelFault
RowFault texts earlier block = row_fault texts block.1

each_row_clean : (texts : List SectionText) (blocks : List Block) → first_fault_of (RowFault texts) [] blocks ≡ None →
    AllByRecursion (λ b. row_fault texts b.1 ≡ None) blocks
each_row_clean texts blocks h = each blocks (each_clean (RowFault texts) [] blocks h)
  where
    each : (bs : List Block) → AllByRecursion (IsClean (RowFault texts)) bs → AllByRecursion (λ b. row_fault texts b.1 ≡ None) bs
    each [] k = tt
    each (b ∷ bs) k = (k.0.none, each bs k.1)

named_rows_valid : (texts : List SectionText) (name : List ℕ) (blocks : List Block) →
    AllByRecursion (λ b. row_fault texts b.1 ≡ None) blocks → AllByRecursion IsAllowedBlock blocks →
    AllByRecursion (IsValidRow (map section_of texts)) (map (row_of texts) (rows_named name blocks))
named_rows_valid texts name [] h allowed = tt
named_rows_valid texts name (block ∷ blocks) h allowed =
    let rest = named_rows_valid texts name blocks h.1 allowed.1 in
    elim (cases_Bool (bytes_eq block.0.text name)) [
      | inl t ↦ rw t (row_valid texts block.1 h.0 allowed.0.row, rest)
      | inr f ↦ rw f rest
    ]

few_named : (name : List ℕ) (blocks : List Block) → length (rows_named name blocks) ≤ length blocks
few_named name [] = omega arith
few_named name (block ∷ blocks) =
    let rest = few_named name blocks in
    elim (cases_Bool (bytes_eq block.0.text name)) [ inl t ↦ rw t (omega (arith, rest)) | inr f ↦ rw f (omega (arith, rest)) ]

pub few_rows : (texts : List SectionText) (name : List ℕ) (blocks : List Block) → length blocks ≤ MAX_ROWS →
    length (map (row_of texts) (rows_named name blocks)) ≤ MAX_ROWS
few_rows texts name blocks h =
    let few = few_named name blocks in
    rw (length_map (row_of texts) (rows_named name blocks)) (omega (arith, few, h))

-- what has no fault fails for want of memory alone
pub memory_alone : (o : Option ModelFault) (e : ModelFault) → o ≡ None → (o ≡ Some e) ⊎ (e ≡ Memory) → e ≡ Memory
memory_alone o e n (inl s) = absurd cc
memory_alone o e n (inr m) = m

pub clean_at : (texts : List SectionText) (blocks : List Block) (i : ℕ) (block : Block) → first_fault_of (RowFault texts) [] blocks ≡ None →
    i < length blocks → block ≡ get_or blocks i block → row_fault texts block.1 ≡ None
clean_at texts blocks i block h within is =
    subst (λ (b : Block). row_fault texts b.1 ≡ None) (sym is)
    (All-from_recursion (λ (b : Block). row_fault texts b.1 ≡ None) blocks (each_row_clean texts blocks h) i block within)

-- one block more

take_next : (blocks : List Block) (i : ℕ) (block : Block) → i < length blocks → block ≡ get_or blocks i block →
    take (i + 1) blocks ≡ take i blocks ++ block ∷ []
take_next blocks i block within is = take_more blocks i block within ∙ ap (λ b. take i blocks ++ b ∷ []) (sym is)

pub rows_with : (texts : List SectionText) (name : List ℕ) (blocks : List Block) (i : ℕ) (block : Block) → i < length blocks →
    block ≡ get_or blocks i block → bytes_eq block.0.text name ≡ true →
    map (row_of texts) (rows_named name (take (i + 1) blocks)) ≡ map (row_of texts) (rows_named name (take i blocks)) ++ row_of texts block.1 ∷ []
rows_with texts name blocks i block within is h =
    ap (λ bs. map (row_of texts) (rows_named name bs)) (take_next blocks i block within is)
    ∙ ap (λ rows. map (row_of texts) rows) (rows_named_more name (take i blocks) block h)
    ∙ map-append (row_of texts) (rows_named name (take i blocks)) (block.1 ∷ [])

pub rows_without : (texts : List SectionText) (name : List ℕ) (blocks : List Block) (i : ℕ) (block : Block) → i < length blocks →
    block ≡ get_or blocks i block → bytes_eq block.0.text name ≡ false →
    map (row_of texts) (rows_named name (take (i + 1) blocks)) ≡ map (row_of texts) (rows_named name (take i blocks))
rows_without texts name blocks i block within is h =
    ap (λ bs. map (row_of texts) (rows_named name bs)) (take_next blocks i block within is)
    ∙ ap (λ rows. map (row_of texts) rows) (rows_named_same name (take i blocks) block h)

pub properties_with : (s : SystemData) (blocks : List Block) (i : ℕ) (block : Block) → i < length blocks → block ≡ get_or blocks i block →
    list_any (λ b. bytes_eq b.0.text block.0.text) (take i blocks) ≡ false →
    map (property_named s blocks) (property_names (take (i + 1) blocks))
    ≡ map (property_named s blocks) (property_names (take i blocks)) ++ property_named s blocks block.0.text ∷ []
properties_with s blocks i block within is h =
    ap (λ bs. map (property_named s blocks) (property_names bs)) (take_next blocks i block within is)
    ∙ ap (λ names. map (property_named s blocks) names) (names_with (take i blocks) block h)
    ∙ map-append (property_named s blocks) (property_names (take i blocks)) (block.0.text ∷ [])

pub properties_without : (s : SystemData) (blocks : List Block) (i : ℕ) (block : Block) → i < length blocks → block ≡ get_or blocks i block →
    list_any (λ b. bytes_eq b.0.text block.0.text) (take i blocks) ≡ true →
    map (property_named s blocks) (property_names (take (i + 1) blocks)) ≡ map (property_named s blocks) (property_names (take i blocks))
properties_without s blocks i block within is h =
    ap (λ bs. map (property_named s blocks) (property_names bs)) (take_next blocks i block within is)
    ∙ ap (λ names. map (property_named s blocks) names) (names_same (take i blocks) block h)

-- the rows of a name fit the system
pub rows_fit : (s : SystemData) (name : List ℕ) (blocks : List Block) → first_properties_fault s blocks ≡ None → AreAllowedBlocks blocks →
    AllByRecursion (IsValidRow s.sections) (map (row_of (section_texts s)) (rows_named name blocks))
rows_fit s name blocks h allowed =
    subst (λ sections. AllByRecursion (IsValidRow sections) (map (row_of (section_texts s)) (rows_named name blocks))) (sections_back s.sections)
    (named_rows_valid (section_texts s) name blocks (each_row_clean (section_texts s) blocks h) allowed.each)
