-- The chain as a protocol, and what it is for a text to say it.
use Rattle.std.specs.Prelude.{◌≡◌, ℕ, ◌+◌, ◌-◌, List, [], ◌∷◌, ◌++◌, None, codes, decimal, map}
use Rattle.std.specs.List.{range_with_len}
use Rattle.protocol_lexer.specs.Place.{start_place}
use Rattle.forms.specs.declared.name.Name.{Name}
use Rattle.protocol_syntax.specs.declared.protocol.Protocol.{Protocol}
use Rattle.protocol_syntax.specs.declared.protocol.SectionText.{SectionText}
use Rattle.protocol_syntax.specs.declared.protocol.Kind.TheVariants.{Array}
use Rattle.protocol_syntax.specs.declared.protocol.RowText.{RowText}
use Rattle.protocol_syntax.specs.declared.protocol.AtomText.{AtomText}
use Rattle.protocol_syntax.specs.declared.protocol.BaseText.{BaseText}
use Rattle.protocol_syntax.specs.declared.protocol.BaseText.TheVariants.{Letter, Any}
use Rattle.protocol_syntax.specs.declared.protocol.Many.{Many}
use Rattle.protocol_syntax.specs.declared.protocol.Many.TheVariants.{One, Star}
use Rattle.protocol_syntax.specs.declared.protocol.RuleText.{RuleText}
use Rattle.protocol_syntax.specs.declared.protocol.Move.TheVariants.{At}
use Rattle.protocol_syntax.specs.Grammar.{IsProtocol}
use Rattle.protocol_layout.specs.Places.{without_places}
use Rattle.protocol_model.specs.Faults.{first_fault}
use Rattle.chain_protocol.specs.Chain.{letter}

-- a name, at the start of the text
abbrev pub named : List ℕ → Name
named text = record { text = text; place = start_place }

-- the letters s0, s1 and so on, so many of them, and `dead`
abbrev pub chain_letters : ℕ → List Name
chain_letters number = map (λ i. named (letter i)) (range_with_len 0 number) ++ named (codes "dead") ∷ []

-- an array P of these letters
abbrev pub chain_section : ℕ → SectionText
chain_section number = record { kind = Array; name = named (codes "P"); letters = chain_letters number }

-- a row whose one part is the pattern of P
abbrev pub row_of_atoms : List AtomText → RowText
row_of_atoms atoms = record { parts = record { section = named (codes "P"); atoms = atoms } ∷ [] }

abbrev pub atom : BaseText → Many → AtomText
atom base many = record { base = base; many = many }

-- one or more processes, all with letter 0
abbrev pub chain_init : RowText
chain_init = row_of_atoms (atom (Letter (named (letter 0))) One ∷ atom (Letter (named (letter 0))) Star ∷ [])

-- some process is dead
abbrev pub chain_bad : RowText
chain_bad = row_of_atoms (atom Any Star ∷ atom (Letter (named (codes "dead"))) One ∷ atom Any Star ∷ [])

-- letter i becomes the next
abbrev pub chain_rule : ℕ → RuleText
chain_rule i = record {
  name = named (codes "r" ++ decimal (i + 1));
  moves = record { section = named (codes "P"); body = At (named (letter i)) (named (letter (i + 1))) [] [] } ∷ [];
}

-- the protocol with so many letters beside `dead`
abbrev pub chain : ℕ → Protocol
chain number = record {
  name = named (codes "chain");
  language = 1;
  sections = chain_section number ∷ [];
  init = chain_init ∷ [];
  rules = map chain_rule (range_with_len 0 (number - 1));
  bad = chain_bad ∷ [];
}

-- the text says the chain, apart from the places of names, and what it says has no fault
pub record SaysChain (number : ℕ) (text : List ℕ) : Type 0 where
  pub protocol : Protocol
  pub says : IsProtocol text protocol
  pub is_chain : without_places protocol ≡ chain number
  pub no_fault : first_fault protocol ≡ None
