-- The text of the chain: an array whose letters s0, s1 and so on are changed each into the next, and a letter `dead` that no rule writes.
use Rattle.std.specs.Prelude.{ℕ, zero, suc, ◌+◌, ◌-◌, List, [], ◌∷◌, ◌++◌, codes, decimal}

-- the texts of 0, 1 and so on, so many of them, joined
abbrev pub joined : (ℕ → List ℕ) → ℕ → List ℕ
joined text zero = []
joined text (suc count) = joined text count ++ text count

abbrev pub protocol_line : List ℕ → List ℕ
protocol_line text = text ++ 10 ∷ []

abbrev pub letter : ℕ → List ℕ
letter i = codes "s" ++ decimal i

-- a letter after a space
abbrev pub next_letter : ℕ → List ℕ
next_letter i = codes " " ++ letter i

-- the rule that changes letter i into the next
abbrev pub rule_line : ℕ → List ℕ
rule_line i = protocol_line (codes "rule r" ++ (decimal (i + 1) ++ (codes " { P: at " ++ (letter i ++ (codes " -> " ++ (letter (i + 1) ++ codes "; }"))))))

-- the protocol with so many letters beside `dead`
abbrev pub chain_text : ℕ → List ℕ
chain_text number = protocol_line (codes "protocol chain")
    ++ (protocol_line (codes "array P {" ++ (joined next_letter number ++ codes " dead }"))
    ++ (protocol_line (codes "init { P: s0 s0*; }") ++ (joined rule_line (number - 1) ++ protocol_line (codes "bad { P: any* dead any*; }"))))
