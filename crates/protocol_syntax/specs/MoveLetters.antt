-- Moves, whatever stands for a letter and for a set of letters: their letters in the order of the text, what they become where each letter is
-- replaced, their limits, and the kinds of their sections.
use Rattle.std.specs.Prelude.{◌<◌, ◌≤◌, ◌||◌, Bool, true, false, List, [], ◌∷◌, ◌++◌, Option, None, Some, length, map}
use Rattle.std.specs.List.{flat_map}
use Rattle.std.specs.Option.{option_map}
use Rattle.forms.specs.declared.name.Name.{Name}
use Rattle.protocol_syntax.specs.declared.limits.TheConstants.{MAX_GUARDS, MAX_PUSHED}
use Rattle.protocol_syntax.specs.declared.protocol.BaseText.{BaseText}
use Rattle.protocol_syntax.specs.declared.protocol.BaseText.TheVariants as Bases
use Rattle.protocol_syntax.specs.declared.protocol.Guard.{Guard}
use Rattle.protocol_syntax.specs.declared.protocol.Move.{Move}
use Rattle.protocol_syntax.specs.declared.protocol.Move.TheVariants.{At, Pair, Ring, Two, Set, Send, Recv, Stack, Spawn, Exit, Lose}
use Rattle.protocol_syntax.specs.declared.protocol.Kind.{Kind}
use Rattle.protocol_syntax.specs.declared.protocol.Kind.TheVariants as Kinds

-- a move and a guard as written
abbrev pub MoveBody : Type 0
MoveBody = Move Name BaseText

abbrev pub GuardText : Type 0
GuardText = Guard Name

-- the names in what one letter may be
abbrev pub base_names : BaseText → List Name
base_names (Bases.Letter name) = name ∷ []
base_names (Bases.Set names) = names
base_names Bases.Any = []

-- the letter that is popped, as a list of one letter or none
abbrev pub popped : {L : Type 0} → Option L → List L
popped None = []
popped (Some a) = a ∷ []

-- the letters of a move in the order of the text, up to its table
abbrev pub letters_before_table : {L S : Type 0} → (S → List L) → Move L S → List L
letters_before_table of_set (At f t guards table) = f ∷ t ∷ flat_map (λ guard. guard.letters) guards
letters_before_table of_set (Pair a b c d) = a ∷ b ∷ c ∷ d ∷ []
letters_before_table of_set (Ring a b c d) = a ∷ b ∷ c ∷ d ∷ []
letters_before_table of_set (Two a b c d) = a ∷ b ∷ c ∷ d ∷ []
letters_before_table of_set (Set a b) = a ∷ b ∷ []
letters_before_table of_set (Send a) = a ∷ []
letters_before_table of_set (Recv a) = a ∷ []
letters_before_table of_set (Stack pop push) = popped pop ++ push
letters_before_table of_set (Spawn a) = a ∷ []
letters_before_table of_set (Exit a) = a ∷ []
letters_before_table of_set (Lose set) = of_set set

-- the table of a move, which stands last in the text
abbrev pub table_of : {L S : Type 0} → Move L S → List (L × L)
table_of (At f t guards table) = table
table_of _ = []

-- the guards of a move
abbrev pub guards_of : {L S : Type 0} → Move L S → List (Guard L)
guards_of (At f t guards table) = guards
guards_of _ = []

-- a guard, a pair and a move in which each letter, and the set, is replaced
abbrev pub renamed_guard : {K L : Type 0} → (K → L) → Guard K → Guard L
renamed_guard letter guard = record { all = guard.all; region = guard.region; letters = map letter guard.letters }

abbrev pub renamed_pair : {K L : Type 0} → (K → L) → K × K → L × L
renamed_pair letter pair = (letter pair.0, letter pair.1)

abbrev pub renamed : {K L S T : Type 0} → (K → L) → (S → T) → Move K S → Move L T
renamed letter set (At f t guards table) = At (letter f) (letter t) (map (renamed_guard letter) guards) (map (renamed_pair letter) table)
renamed letter set (Pair a b c d) = Pair (letter a) (letter b) (letter c) (letter d)
renamed letter set (Ring a b c d) = Ring (letter a) (letter b) (letter c) (letter d)
renamed letter set (Two a b c d) = Two (letter a) (letter b) (letter c) (letter d)
renamed letter set (Set a b) = Set (letter a) (letter b)
renamed letter set (Send a) = Send (letter a)
renamed letter set (Recv a) = Recv (letter a)
renamed letter set (Stack pop push) = Stack (option_map letter pop) (map letter push)
renamed letter set (Spawn a) = Spawn (letter a)
renamed letter set (Exit a) = Exit (letter a)
renamed letter set (Lose letters) = Lose (set letters)

-- a stack move pops or pushes
abbrev pub PopsOrPushes : {L : Type 0} → Option L → List L → Type 0
PopsOrPushes None push = 0 < length push
PopsOrPushes (Some a) push = Unit {0}

-- a move has no more guards, and pushes no more letters, than the limits
abbrev pub IsAllowedMove : {L S : Type 0} → Move L S → Type 0
IsAllowedMove (At f t guards table) = length guards ≤ MAX_GUARDS
IsAllowedMove (Stack pop push) = PopsOrPushes pop push × (length push ≤ MAX_PUSHED)
IsAllowedMove _ = Unit {0}

-- whether two kinds are the same
abbrev pub same_kind : Kind → Kind → Bool
same_kind Kinds.Cell Kinds.Cell = true
same_kind Kinds.Array Kinds.Array = true
same_kind Kinds.Channel Kinds.Channel = true
same_kind Kinds.Stack Kinds.Stack = true
same_kind Kinds.LossyChannel Kinds.LossyChannel = true
same_kind _ _ = false

-- whether the move belongs to sections of the kind
abbrev pub belongs_to : {L S : Type 0} → Move L S → Kind → Bool
belongs_to (At f t guards table) kind = same_kind Kinds.Array kind
belongs_to (Pair a b c d) kind = same_kind Kinds.Array kind
belongs_to (Ring a b c d) kind = same_kind Kinds.Array kind
belongs_to (Two a b c d) kind = same_kind Kinds.Array kind
belongs_to (Set a b) kind = same_kind Kinds.Cell kind
belongs_to (Send a) kind = same_kind Kinds.Channel kind || same_kind Kinds.LossyChannel kind
belongs_to (Recv a) kind = same_kind Kinds.Channel kind || same_kind Kinds.LossyChannel kind
belongs_to (Stack pop push) kind = same_kind Kinds.Stack kind
belongs_to (Spawn a) kind = same_kind Kinds.Array kind
belongs_to (Exit a) kind = same_kind Kinds.Array kind
belongs_to (Lose letters) kind = same_kind Kinds.LossyChannel kind
