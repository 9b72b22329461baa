-- Where the texts of a command come from.
use Rattle.std.specs.Prelude.{◌≡◌, ◌≤◌, ◌<◌, ◌^◌, ℕ, List, length, Option, IfSome}
use Rattle.chain_protocol.specs.Chain.{chain_text}
use Rattle.armc_commands.specs.declared.origin.Origin.{Origin as OriginWords}
use Rattle.armc_commands.specs.declared.origin.Origin.TheVariants as words

-- where a text comes from: it is read by a name and has so many bytes at most, or the command gives it, or it is that of the chain of so many states
pub data Origin : Type 0 where
  named : List ℕ → ℕ → Origin
  given : List ℕ → Origin
  generated : ℕ → Origin

-- the origin that a value of the program stands for
abbrev pub origin_of : OriginWords → Origin
origin_of (words.Named name limit) = named name.now limit
origin_of (words.Given text) = given text.now
origin_of (words.Generated number) = generated number

-- what the library tells of a name
abbrev pub Told : Type 0
Told = List ℕ → Option (List ℕ)

-- the text is that of the name, where the library tells it, and is within the limit
pub record IsTextOf (told : Told) (name : List ℕ) (limit : ℕ) (text : List ℕ) : Type 0 where
  pub whole : IfSome (told name) (λ bytes. text ≡ bytes)
  pub within : length text ≤ limit

-- the text comes from there
abbrev pub IsTextFrom : Told → Origin → List ℕ → Type 0
IsTextFrom told (named name limit) text = IsTextOf told name limit text
IsTextFrom told (given given_text) text = text ≡ given_text
IsTextFrom told (generated number) text = text ≡ chain_text number

-- the text can be had: a library can be asked for a text of that many bytes, and the number is one of a chain
abbrev pub IsReadable : Origin → Type 0
IsReadable (named name limit) = limit < 2 ^ 63
IsReadable (given text) = Unit {0}
IsReadable (generated number) = (0 < number) × (number ≤ 255)
