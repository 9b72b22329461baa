-- Law: the limits of texts in numbers, and the reserved words letter by letter. Definitions read them as constants of the code.
use Rattle.std.specs.Prelude.{◌≡◌, [], ◌∷◌, codes}
use Rattle.forms.specs.declared.name.TheConstants.{MAX_NAME_BYTES}
use Rattle.forms.specs.declared.symbol.Keyword.TheVariants as Words
use Rattle.forms.specs.Symbol.{reserved_words}
use Rattle.protocol_syntax.specs.declared.limits.TheConstants.{MAX_SECTIONS, MAX_LETTERS, MAX_ROWS, MAX_RULES, MAX_ATOMS, MAX_GUARDS, MAX_PUSHED}

-- how many of each there may be: sections and letters of a protocol, rows of either kind, rules, atoms of a pattern, guards of a move, letters that
-- a move pushes, and bytes of a name
pub record AreLimits : Type 0 where
  pub sections : MAX_SECTIONS ≡ 16
  pub letters : MAX_LETTERS ≡ 256
  pub rows : MAX_ROWS ≡ 32
  pub rules : MAX_RULES ≡ 256
  pub atoms : MAX_ATOMS ≡ 32
  pub guards : MAX_GUARDS ≡ 4
  pub pushed : MAX_PUSHED ≡ 4
  pub name_bytes : MAX_NAME_BYTES ≡ 32

-- the reserved words are these 32
abbrev pub AreReservedWords : Type 0
AreReservedWords =
    reserved_words ≡ (Words.Protocol, codes "protocol") ∷ (Words.Language, codes "language") ∷ (Words.Cell, codes "cell")
    ∷ (Words.Array, codes "array") ∷ (Words.Channel, codes "channel") ∷ (Words.Stack, codes "stack") ∷ (Words.Lossy, codes "lossy")
    ∷ (Words.Init, codes "init") ∷ (Words.Rule, codes "rule") ∷ (Words.Bad, codes "bad") ∷ (Words.Any, codes "any")
    ∷ (Words.Empty, codes "empty") ∷ (Words.At, codes "at") ∷ (Words.Pair, codes "pair") ∷ (Words.Ring, codes "ring")
    ∷ (Words.Two, codes "two") ∷ (Words.Set, codes "set") ∷ (Words.Send, codes "send") ∷ (Words.Recv, codes "recv")
    ∷ (Words.Pop, codes "pop") ∷ (Words.Push, codes "push") ∷ (Words.Spawn, codes "spawn") ∷ (Words.Exit, codes "exit")
    ∷ (Words.Lose, codes "lose") ∷ (Words.When, codes "when") ∷ (Words.All, codes "all") ∷ (Words.Some, codes "some")
    ∷ (Words.Left, codes "left") ∷ (Words.Right, codes "right") ∷ (Words.Others, codes "others") ∷ (Words.In, codes "in")
    ∷ (Words.Map, codes "map") ∷ []
