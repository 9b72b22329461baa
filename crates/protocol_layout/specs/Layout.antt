-- The canonical layout of a protocol: its words, and how they stand on lines.
use Rattle.std.specs.Prelude.{ℕ, List, [], ◌∷◌, ◌++◌, Option, Some, None, codes, map, nat_le, if◌then◌else◌}
use Rattle.std.specs.List.{flat_map}
use Rattle.forms.specs.declared.name.Name.{Name}
use Rattle.protocol_syntax.specs.declared.protocol.Protocol.{Protocol}
use Rattle.protocol_syntax.specs.declared.protocol.SectionText.{SectionText}
use Rattle.protocol_syntax.specs.declared.protocol.RowText.{RowText}
use Rattle.protocol_syntax.specs.declared.protocol.PartText.{PartText}
use Rattle.protocol_syntax.specs.declared.protocol.AtomText.{AtomText}
use Rattle.protocol_syntax.specs.declared.protocol.BaseText.{BaseText}
use Rattle.protocol_syntax.specs.declared.protocol.BaseText.TheVariants.{Letter, Set, Any}
use Rattle.protocol_syntax.specs.declared.protocol.RuleText.{RuleText}
use Rattle.protocol_syntax.specs.declared.protocol.MoveText.{MoveText}
use Rattle.protocol_syntax.specs.declared.protocol.Move.TheVariants as Moves
use Rattle.protocol_syntax.specs.declared.protocol.Kind.{Kind}
use Rattle.protocol_syntax.specs.declared.protocol.Kind.TheVariants as Kinds
use Rattle.protocol_syntax.specs.declared.protocol.Many.{Many}
use Rattle.protocol_syntax.specs.declared.protocol.Many.TheVariants as Counts
use Rattle.protocol_syntax.specs.declared.protocol.Region.{Region}
use Rattle.protocol_syntax.specs.declared.protocol.Region.TheVariants as Regions
use Rattle.protocol_syntax.specs.MoveLetters.{MoveBody, GuardText}
use Rattle.protocol_syntax.specs.Spacing.{Word, spaced}

-- the words of an item on a line of their own
abbrev pub line : List Word → List ℕ
line [] = []
line (word ∷ words) = word ++ (flat_map spaced words ++ 10 ∷ [])

abbrev pub names_words : List Name → List Word
names_words names = map (λ n. n.text) names

-- `{`, the words, and `}`
abbrev pub in_braces : List Word → List Word
in_braces words = codes "{" ∷ (words ++ codes "}" ∷ [])

-- the first word of a kind, and what stands behind it
abbrev pub kind_word : Kind → Word
kind_word Kinds.Cell = codes "cell"
kind_word Kinds.Array = codes "array"
kind_word Kinds.Channel = codes "channel"
kind_word Kinds.Stack = codes "stack"
kind_word Kinds.LossyChannel = codes "lossy"

abbrev pub kind_rest : Kind → List Word
kind_rest Kinds.Cell = []
kind_rest Kinds.Array = []
kind_rest Kinds.Channel = []
kind_rest Kinds.Stack = []
kind_rest Kinds.LossyChannel = codes "channel" ∷ []

abbrev pub section_words : SectionText → List Word
section_words s = kind_word s.kind ∷ (kind_rest s.kind ++ s.name.text ∷ in_braces (names_words s.letters))

abbrev pub count_words : Many → List Word
count_words Counts.One = []
count_words Counts.Star = codes "*" ∷ []
count_words Counts.Plus = codes "+" ∷ []

abbrev pub base_words : BaseText → List Word
base_words (Letter n) = n.text ∷ []
base_words (Set letters) = in_braces (names_words letters)
base_words Any = codes "any" ∷ []

abbrev pub atom_words : AtomText → List Word
atom_words a = base_words a.base ++ count_words a.many

abbrev pub pattern_words : List AtomText → List Word
pattern_words [] = codes "empty" ∷ []
pattern_words (a ∷ atoms) = flat_map atom_words (a ∷ atoms)

abbrev pub part_words : PartText → List Word
part_words p = p.section.text ∷ codes ":" ∷ (pattern_words p.atoms ++ codes ";" ∷ [])

abbrev pub row_words : Word → RowText → List Word
row_words head row = head ∷ in_braces (flat_map part_words row.parts)

abbrev pub region_word : Region → Word
region_word Regions.Left = codes "left"
region_word Regions.Right = codes "right"
region_word Regions.Others = codes "others"

abbrev pub guard_words : GuardText → List Word
guard_words g =
    codes "when" ∷ (if g.all then codes "all" else codes "some") ∷ region_word g.region ∷ codes "in" ∷ in_braces (names_words g.letters)

abbrev pub entry_words : Name × Name → List Word
entry_words e = e.0.text ∷ codes "->" ∷ e.1.text ∷ codes ";" ∷ []

-- a table without an entry is left out
abbrev pub table_words : List (Name × Name) → List Word
table_words [] = []
table_words (e ∷ entries) = codes "map" ∷ in_braces (flat_map entry_words (e ∷ entries))

abbrev pub pushed_words : List Name → List Word
pushed_words [] = []
pushed_words (n ∷ names) = codes "push" ∷ names_words (n ∷ names)

abbrev pub popped_words : Option Name → List Word
popped_words None = []
popped_words (Some n) = codes "pop" ∷ n.text ∷ []

-- the word, two names, `->` and two names
abbrev pub four_words : Word → Name → Name → Name → Name → List Word
four_words word a b c d = word ∷ a.text ∷ b.text ∷ codes "->" ∷ c.text ∷ d.text ∷ []

abbrev pub move_words : MoveBody → List Word
move_words (Moves.At from to guards table) =
    codes "at" ∷ from.text ∷ codes "->" ∷ to.text ∷ (flat_map guard_words guards ++ table_words table)
move_words (Moves.Pair a b c d) = four_words (codes "pair") a b c d
move_words (Moves.Ring a b c d) = four_words (codes "ring") a b c d
move_words (Moves.Two a b c d) = four_words (codes "two") a b c d
move_words (Moves.Set from to) = codes "set" ∷ from.text ∷ codes "->" ∷ to.text ∷ []
move_words (Moves.Send letter) = codes "send" ∷ letter.text ∷ []
move_words (Moves.Recv letter) = codes "recv" ∷ letter.text ∷ []
move_words (Moves.Stack pop push) = popped_words pop ++ pushed_words push
move_words (Moves.Spawn letter) = codes "spawn" ∷ letter.text ∷ []
move_words (Moves.Exit letter) = codes "exit" ∷ letter.text ∷ []
move_words (Moves.Lose base) = codes "lose" ∷ base_words base

abbrev pub step_words : MoveText → List Word
step_words m = m.section.text ∷ codes ":" ∷ (move_words m.body ++ codes ";" ∷ [])

abbrev pub rule_words : RuleText → List Word
rule_words r = codes "rule" ∷ r.name.text ∷ in_braces (flat_map step_words r.moves)

-- a text of language 1 does not say so
abbrev pub language_words : ℕ → List Word
language_words language = if nat_le 2 language then codes "language" ∷ codes "2" ∷ [] else []

-- the words of the items, each of which stands on a line of its own: the head, the sections, the rows of initial configurations, the
-- rules and the rows of bad ones
abbrev pub items : Protocol → List (List Word)
items p =
    (codes "protocol" ∷ p.name.text ∷ language_words p.language)
    ∷ (map section_words p.sections
    ++ (map (row_words (codes "init")) p.init
    ++ (map rule_words p.rules
    ++ map (row_words (codes "bad")) p.bad)))

-- the canonical layout
abbrev pub layout : Protocol → List ℕ
layout p = flat_map line (items p)
