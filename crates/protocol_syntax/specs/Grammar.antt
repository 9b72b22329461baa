-- The grammar of protocol texts, production by production, with the limits of each. A production that is given a language stands for texts
-- of that language.
use Rattle.std.specs.Prelude.{ℕ, ◌-◌, Bool, true, false, List, [], ◌∷◌, length, Some, None, codes, nat_le, sum_by}
use Rattle.protocol_lexer.specs.declared.TokenKind.TheVariants.{BraceLeft, BraceRight, Colon, Semicolon, Star, Plus, Arrow}
use Rattle.forms.specs.declared.fault.What.TheVariants as Limits
use Rattle.forms.specs.declared.fault.SyntaxFault.{SyntaxFault}
use Rattle.forms.specs.declared.name.Name.{Name}
use Rattle.protocol_syntax.specs.declared.protocol.Protocol.{Protocol}
use Rattle.protocol_syntax.specs.declared.protocol.SectionText.{SectionText}
use Rattle.protocol_syntax.specs.declared.protocol.RowText.{RowText}
use Rattle.protocol_syntax.specs.declared.protocol.PartText.{PartText}
use Rattle.protocol_syntax.specs.declared.protocol.AtomText.{AtomText}
use Rattle.protocol_syntax.specs.declared.protocol.BaseText.{BaseText}
use Rattle.protocol_syntax.specs.declared.protocol.BaseText.TheVariants.{Letter, Set, Any}
use Rattle.protocol_syntax.specs.declared.protocol.RuleText.{RuleText}
use Rattle.protocol_syntax.specs.declared.protocol.MoveText.{MoveText}
use Rattle.protocol_syntax.specs.declared.protocol.Move.TheVariants as Moves
use Rattle.protocol_syntax.specs.declared.protocol.Kind.{Kind}
use Rattle.protocol_syntax.specs.declared.protocol.Kind.TheVariants as Kinds
use Rattle.protocol_syntax.specs.declared.protocol.Many.{Many}
use Rattle.protocol_syntax.specs.declared.protocol.Many.TheVariants as Counts
use Rattle.protocol_syntax.specs.declared.protocol.Region.{Region}
use Rattle.protocol_syntax.specs.declared.protocol.Region.TheVariants as Regions
use Rattle.forms.specs.declared.symbol.Keyword.{Keyword}
use Rattle.forms.specs.declared.symbol.Keyword.TheVariants as Words
use Rattle.forms.specs.declared.symbol.Symbol.TheVariants.{Reserved, Sign}
use Rattle.forms.specs.FirstFault.{IsMeaning, IsFault}
use Rattle.forms.specs.Grammar.{Grammar, name, one_of, sign, gives, ◌>>=◌, ◌or◌, optional, many, many_by, item, up_to, only, means}
use Rattle.protocol_syntax.specs.MoveLetters.{MoveBody, GuardText}
use Rattle.protocol_syntax.specs.declared.limits.TheConstants.{MAX_SECTIONS, MAX_LETTERS, MAX_ROWS, MAX_RULES, MAX_ATOMS, MAX_GUARDS, MAX_PUSHED}

-- what came with language 2 stands in texts of this language alone
abbrev pub since_2 : {A : Type 0} → ℕ → Grammar A → Grammar A
since_2 language x = only (nat_le 2 language) x

-- "cell" | "array" | "channel" | "stack"
unfoldable pub common_kind : Grammar Kind
common_kind =
    means (Reserved Words.Cell) Kinds.Cell
    or (means (Reserved Words.Array) Kinds.Array
    or (means (Reserved Words.Channel) Kinds.Channel
    or means (Reserved Words.Stack) Kinds.Stack))

-- "lossy" "channel"
unfoldable pub lossy_kind : Grammar Kind
lossy_kind = do
  lossy ← sign (Reserved Words.Lossy)
  channel ← sign (Reserved Words.Channel)
  gives Kinds.LossyChannel

-- kind = "cell" | "array" | "channel" | "stack" | "lossy" "channel", the last in language 2 alone
unfoldable pub kind : ℕ → Grammar Kind
kind language = common_kind or since_2 language lossy_kind

-- section = kind name "{" name { name } "}", where the earlier sections have so many letters; there are no more letters than MAX_LETTERS
unfoldable pub section : ℕ → ℕ → Grammar SectionText
section language used = do
  kind ← kind language
  title ← name
  brace ← sign (Sign BraceLeft)
  letter ← item (nat_le MAX_LETTERS used) Limits.Letters name
  letters ← up_to (MAX_LETTERS - 1 - used) Limits.Letters name
  close ← sign (Sign BraceRight)
  gives (record { kind = kind; name = title; letters = letter ∷ letters })

-- how many letters the sections have together
abbrev pub letters_of : List SectionText → ℕ
letters_of sections = sum_by (λ s. length s.letters) sections

-- section { section }, and no more than MAX_SECTIONS
unfoldable pub more_sections : ℕ → SectionText → Grammar (List SectionText)
more_sections language first =
    many_by (λ before. item (nat_le (MAX_SECTIONS - 1) (length before)) Limits.Sections (section language (letters_of (first ∷ before))))

-- set = "{" { name } "}"
unfoldable pub set : Grammar (List Name)
set = do
  brace ← sign (Sign BraceLeft)
  names ← many name
  close ← sign (Sign BraceRight)
  gives names

unfoldable pub letter_base : Grammar BaseText
letter_base = do
  letter ← name
  gives (Letter letter)

unfoldable pub set_base : Grammar BaseText
set_base = do
  letters ← set
  gives (Set letters)

-- base = name | "any" | set
unfoldable pub base : Grammar BaseText
base = letter_base or (means (Reserved Words.Any) Any or set_base)

-- "*" | "+"
unfoldable pub count : Grammar Many
count = means (Sign Star) Counts.Star or means (Sign Plus) Counts.Plus

-- atom = base [ "*" | "+" ]
unfoldable pub atom : Grammar AtomText
atom = do
  base ← base
  many ← optional Counts.One count
  gives (record { base = base; many = many })

-- atom { atom }, and no more than MAX_ATOMS
unfoldable pub atoms : Grammar (List AtomText)
atoms = do
  first ← atom
  rest ← up_to (MAX_ATOMS - 1) Limits.Atoms atom
  gives (first ∷ rest)

-- pattern = "empty" | atom { atom }
unfoldable pub pattern : Grammar (List AtomText)
pattern = means (Reserved Words.Empty) [] or atoms

-- part = name ":" pattern ";"
unfoldable pub part : Grammar PartText
part = do
  section ← name
  colon ← sign (Sign Colon)
  atoms ← pattern
  end ← sign (Sign Semicolon)
  gives (record { section = section; atoms = atoms })

-- "{" { part } "}"
unfoldable pub row_body : Grammar RowText
row_body = do
  brace ← sign (Sign BraceLeft)
  parts ← many part
  close ← sign (Sign BraceRight)
  gives (record { parts = parts })

-- init = "init" "{" { part } "}" and bad = "bad" "{" { part } "}"
unfoldable pub row : Keyword → Grammar RowText
row word = do
  head ← sign (Reserved word)
  row_body

-- "all" | "some"
unfoldable pub quantifier : Grammar Bool
quantifier = means (Reserved Words.All) true or means (Reserved Words.Some) false

-- "left" | "right" | "others"
unfoldable pub region : Grammar Region
region =
    means (Reserved Words.Left) Regions.Left
    or (means (Reserved Words.Right) Regions.Right
    or means (Reserved Words.Others) Regions.Others)

-- guard = "when" ( "all" | "some" ) ( "left" | "right" | "others" ) "in" set
unfoldable pub guard : Grammar GuardText
guard = do
  when ← sign (Reserved Words.When)
  all ← quantifier
  region ← region
  within ← sign (Reserved Words.In)
  letters ← set
  gives (record { all = all; region = region; letters = letters })

-- name "->" name ";"
unfoldable pub entry : Grammar (Name × Name)
entry = do
  from ← name
  arrow ← sign (Sign Arrow)
  to ← name
  end ← sign (Sign Semicolon)
  gives (from, to)

-- table = "map" "{" { name "->" name ";" } "}"
unfoldable pub table : Grammar (List (Name × Name))
table = do
  map ← sign (Reserved Words.Map)
  brace ← sign (Sign BraceLeft)
  entries ← many entry
  close ← sign (Sign BraceRight)
  gives entries

-- "at" name "->" name { guard } [ table ], with no more guards than MAX_GUARDS
unfoldable pub at_move : Grammar MoveBody
at_move = do
  word ← sign (Reserved Words.At)
  from ← name
  arrow ← sign (Sign Arrow)
  to ← name
  guards ← up_to MAX_GUARDS Limits.Guards guard
  map ← optional [] table
  gives (Moves.At from to guards map)

-- the word, and name name "->" name name
unfoldable pub four_names : Keyword → Grammar (Name × Name × Name × Name)
four_names word = do
  head ← sign (Reserved word)
  a ← name
  b ← name
  arrow ← sign (Sign Arrow)
  c ← name
  d ← name
  gives (a, b, c, d)

unfoldable pub pair_move : Grammar MoveBody
pair_move = do
  names ← four_names Words.Pair
  gives (Moves.Pair names.0 names.1 names.2 names.3)

unfoldable pub ring_move : Grammar MoveBody
ring_move = do
  names ← four_names Words.Ring
  gives (Moves.Ring names.0 names.1 names.2 names.3)

unfoldable pub two_move : Grammar MoveBody
two_move = do
  names ← four_names Words.Two
  gives (Moves.Two names.0 names.1 names.2 names.3)

-- "set" name "->" name
unfoldable pub set_move : Grammar MoveBody
set_move = do
  word ← sign (Reserved Words.Set)
  from ← name
  arrow ← sign (Sign Arrow)
  to ← name
  gives (Moves.Set from to)

-- "send" name
unfoldable pub send_move : Grammar MoveBody
send_move = do
  word ← sign (Reserved Words.Send)
  letter ← name
  gives (Moves.Send letter)

-- "recv" name
unfoldable pub recv_move : Grammar MoveBody
recv_move = do
  word ← sign (Reserved Words.Recv)
  letter ← name
  gives (Moves.Recv letter)

-- "push" name { name }, with no more names than MAX_PUSHED
unfoldable pub pushed : Grammar (List Name)
pushed = do
  word ← sign (Reserved Words.Push)
  first ← name
  rest ← up_to (MAX_PUSHED - 1) Limits.Pushed name
  gives (first ∷ rest)

-- "pop" name [ "push" name { name } ]
unfoldable pub pop_move : Grammar MoveBody
pop_move = do
  word ← sign (Reserved Words.Pop)
  letter ← name
  push ← optional [] pushed
  gives (Moves.Stack (Some letter) push)

-- "push" name { name }
unfoldable pub push_move : Grammar MoveBody
push_move = do
  push ← pushed
  gives (Moves.Stack None push)

-- the moves of channels and stacks
unfoldable pub channel_or_stack_move : Grammar MoveBody
channel_or_stack_move = send_move or (recv_move or (pop_move or push_move))

-- the moves of every language
unfoldable pub common_move : Grammar MoveBody
common_move =
    at_move
    or (pair_move
    or (ring_move
    or (two_move
    or (set_move or channel_or_stack_move))))

-- "spawn" name
unfoldable pub spawn_move : Grammar MoveBody
spawn_move = do
  word ← sign (Reserved Words.Spawn)
  letter ← name
  gives (Moves.Spawn letter)

-- "exit" name
unfoldable pub exit_move : Grammar MoveBody
exit_move = do
  word ← sign (Reserved Words.Exit)
  letter ← name
  gives (Moves.Exit letter)

-- "lose" base
unfoldable pub lose_move : Grammar MoveBody
lose_move = do
  word ← sign (Reserved Words.Lose)
  base ← base
  gives (Moves.Lose base)

-- the moves that came with language 2
unfoldable pub later_move : Grammar MoveBody
later_move = spawn_move or (exit_move or lose_move)

-- move: each begins with a word of its own
unfoldable pub any_move : ℕ → Grammar MoveBody
any_move language = since_2 language later_move or common_move

-- step = name ":" move ";"
unfoldable pub step : ℕ → Grammar MoveText
step language = do
  section ← name
  colon ← sign (Sign Colon)
  body ← any_move language
  end ← sign (Sign Semicolon)
  gives (record { section = section; body = body })

-- rule = "rule" name "{" { step } "}"
unfoldable pub rule : ℕ → Grammar RuleText
rule language = do
  word ← sign (Reserved Words.Rule)
  title ← name
  brace ← sign (Sign BraceLeft)
  moves ← many (step language)
  close ← sign (Sign BraceRight)
  gives (record { name = title; moves = moves })

-- "language" "2"
unfoldable pub second_language : Grammar ℕ
second_language = do
  word ← sign (Reserved Words.Language)
  number ← one_of (codes "2" ∷ [])
  gives 2

-- protocol = "protocol" name [ "language" "2" ] section { section } { init } { rule } { bad }, with no more rows of either kind than MAX_ROWS,
-- and no more rules than MAX_RULES
unfoldable pub protocol : Grammar Protocol
protocol = do
  word ← sign (Reserved Words.Protocol)
  title ← name
  language ← optional 1 second_language
  first ← section language 0
  sections ← more_sections language first
  init ← up_to MAX_ROWS Limits.InitRows (row Words.Init)
  rules ← up_to MAX_RULES Limits.Rules (rule language)
  bad ← up_to MAX_ROWS Limits.BadRows (row Words.Bad)
  gives (record { name = title; language = language; sections = first ∷ sections; init = init; rules = rules; bad = bad })

-- the text is a protocol within the limits, and says this one
abbrev pub IsProtocol : List ℕ → Protocol → Type 0
IsProtocol text p = IsMeaning protocol text p

-- the first fault of a text: a bad byte wherever it stands, and else the first token that is wrong
abbrev pub IsFirstFault : List ℕ → SyntaxFault → Type 0
IsFirstFault text fault = IsFault protocol text fault
