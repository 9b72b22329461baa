-- What the items, rows and properties that some text says have within the limits.
use Rattle.std.proofs.Common.{◌≡◌, ◌<◌, ◌≤◌, ◌+◌, ℕ, false, List, [], ◌∷◌, ◌++◌, length, sym, subst, inl, inr, arith, nat_le, length-append}
use Rattle.std.proofs.lemmas.Bool.{leb-false}
use Rattle.std.specs.Prelude.{⊤}
use Rattle.std.specs.List.{AllByRecursion}
use Rattle.forms.specs.declared.fault.What.{What}
use Rattle.forms.specs.declared.fault.What.TheVariants as Limits
use Rattle.forms.specs.declared.name.Name.{Name}
use Rattle.forms.specs.declared.symbol.Keyword.{Keyword}
use Rattle.forms.specs.Grammar.{Grammar, up_to}
use Rattle.forms.proofs.ForCallers.{MayMean, AllAfter, IsName, within_may_mean}
use Rattle.protocol_syntax.specs.declared.protocol.RowText.{RowText}
use Rattle.protocol_syntax.specs.declared.protocol.PartText.{PartText}
use Rattle.protocol_syntax.specs.Grammar.{atom, atoms, pattern, part, row_body, row}
use Rattle.protocol_syntax.specs.Properties.{block, properties, AreProperties}
use Rattle.protocol_syntax.proofs.Told.{properties_are_told, properties_are_uniform}

-- the items are within their limit, and each has the property that its form gives
items_within : {A : Type 0} (limit : ℕ) (x : Grammar A) (P : A → Type 0) → ((a : A) → MayMean x a → P a) → (values before : List A)
    → AllAfter (λ b a. (nat_le limit (length b) ≡ false) × MayMean x a) before values → length before ≤ limit
    → AllByRecursion P values × (length before + length values ≤ limit)
items_within limit x P each [] before all fit = (tt, omega (arith, fit))
items_within {A} limit x P each (a ∷ values) before (here, all) fit =
    let room : length before < limit = leb-false limit (length before) here.0 in
    let more = items_within limit x P each values (before ++ a ∷ []) all (omega (arith, room, length-append before (a ∷ []))) in
    ((each a here.1, more.0), omega (arith, more.1, length-append before (a ∷ [])))

pub up_to_within : {A : Type 0} (limit : ℕ) (what : What) (x : Grammar A) (P : A → Type 0) → ((a : A) → MayMean x a → P a) → (values : List A)
    → MayMean (up_to limit what x) values → AllByRecursion P values × (length values ≤ limit)
unfolding up_to
up_to_within limit what x P each values all =
    let both = items_within limit x P each values [] all (omega arith) in
    (both.0, omega (arith, both.1))

pub each_item : {A : Type 0} (x : Grammar A) (P : A → Type 0) → ((a : A) → MayMean x a → P a) → (values before : List A)
    → AllAfter (λ _. MayMean x) before values → AllByRecursion P values
each_item x P each [] before all = tt
each_item x P each (a ∷ values) before all = (each a all.0, each_item x P each values (before ++ a ∷ []) all.1)

abbrev pub HasFewAtoms : PartText → Type 0
HasFewAtoms part = length part.atoms ≤ 32

part_within : (p : PartText) → MayMean part p → HasFewAtoms p
unfolding part pattern atoms
part_within p (n, v, (u, tu, (atoms, inl (w, tw, none), (x, tx, e)))) = subst HasFewAtoms (sym e) (rw none (omega arith))
part_within p (n, v, (u, tu, (atoms, inr (first, vf, (rest, vr, some)), (x, tx, e)))) =
    let more = up_to_within 31 Limits.Atoms atom (λ _. ⊤) (λ _ _. tt) rest vr in
    subst HasFewAtoms (sym e) (rw some (omega (arith, more.1)))

row_body_within : (r : RowText) → MayMean row_body r → AllByRecursion HasFewAtoms r.parts
unfolding row_body
row_body_within r (w, tw, (parts, v, (x, tx, e))) =
    subst (λ (t : RowText). AllByRecursion HasFewAtoms t.parts) (sym e) (each_item part HasFewAtoms part_within parts [] v)

pub row_within : (word : Keyword) (r : RowText) → MayMean (row word) r → AllByRecursion HasFewAtoms r.parts
unfolding row
row_within word r (u, tu, body) = row_body_within r body

-- a row of properties has its name, and the patterns of a row
abbrev pub IsBlock : Name × RowText → Type 0
IsBlock b = IsName b.0 × AllByRecursion HasFewAtoms b.1.parts

block_within : (b : Name × RowText) → MayMean block b → IsBlock b
unfolding block
block_within b (u, tu, (title, named, (r, v, e))) = subst IsBlock (sym e) (named, row_body_within r v)

rows_within : (P : Name × RowText → Type 0) → ((b : Name × RowText) → IsBlock b → P b) → (rows : List (Name × RowText)) → MayMean properties rows
    → AllByRecursion P rows × (0 < length rows) × (length rows ≤ 32)
unfolding properties
rows_within P each rows (first, vf, (rest, vr, e)) =
    let more = up_to_within 31 Limits.BadRows block P (λ b v. each b (block_within b v)) rest vr in
    subst (λ (l : List (Name × RowText)). AllByRecursion P l × (0 < length l) × (length l ≤ 32)) (sym e)
    ((each first (block_within first vf), more.0), omega arith, omega (arith, more.1))

-- what each row of a text of properties has, and how many there are
pub properties_within : (P : Name × RowText → Type 0) → ((b : Name × RowText) → IsBlock b → P b) → (text : List ℕ) (rows : List (Name × RowText))
    → AreProperties text rows → AllByRecursion P rows × (0 < length rows) × (length rows ≤ 32)
properties_within P each text rows (tokens, are, within) =
    rows_within P each rows (within_may_mean text tokens are properties properties_are_uniform properties_are_told rows within)
