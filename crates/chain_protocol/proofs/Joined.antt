-- One more text at the end of those that are joined.
use Rattle.std.proofs.Common.{◌≡◌, ◌∙◌, ◌+◌, ℕ, suc, List, [], ◌∷◌, ◌++◌, sym, ap, arith, append_assoc, append-nil, codes}
use Rattle.chain_protocol.specs.Chain.{joined, protocol_line}

pub joined_more : (text : ℕ → List ℕ) (before now new : List ℕ) (i : ℕ) → now ≡ before ++ joined text i → new ≡ now ++ text i
    → new ≡ before ++ joined text (i + 1)
joined_more text before now new i so_far added =
    let next : suc i ≡ i + 1 = omega arith in
    added ∙ ap (λ t. t ++ text i) so_far ∙ append_assoc before (joined text i) (text i) ∙ ap (λ n. before ++ joined text n) next

pub joined_none : (text : ℕ → List ℕ) (before : List ℕ) → before ≡ before ++ joined text 0
joined_none text before = sym (append-nil before)

-- the pieces as they are written, and as the definition has them
pub pieces : (letters rules : List ℕ)
    → (((codes "protocol chain\narray P {" ++ letters) ++ codes " dead }\ninit { P: s0 s0*; }\n") ++ rules) ++ codes "bad { P: any* dead any*; }\n"
    ≡ protocol_line (codes "protocol chain") ++ (protocol_line (codes "array P {" ++ (letters ++ codes " dead }"))
    ++ (protocol_line (codes "init { P: s0 s0*; }") ++ (rules ++ protocol_line (codes "bad { P: any* dead any*; }"))))
pieces letters rules =
    let bad = protocol_line (codes "bad { P: any* dead any*; }") in
    let init = protocol_line (codes "init { P: s0 s0*; }") in
    let dead = codes " dead }\ninit { P: s0 s0*; }\n" in
    let written = append_assoc (letters ++ dead) rules bad ∙ append_assoc letters dead (rules ++ bad) in
    let defined = append_assoc (letters ++ codes " dead }") (10 ∷ []) (init ++ (rules ++ bad))
    ∙ append_assoc letters (codes " dead }") (10 ∷ init ++ (rules ++ bad)) in
    ap (λ rest. codes "protocol chain\narray P {" ++ rest) (written ∙ sym defined)

-- a rule as it is written, and as the definition has it
pub rule_pieces : (i next : List ℕ)
    → codes "rule r" ++ (next ++ (codes " { P: at s" ++ (i ++ (codes " -> s" ++ (next ++ codes "; }\n")))))
    ≡ protocol_line (codes "rule r" ++ (next ++ (codes " { P: at s" ++ (i ++ (codes " -> s" ++ (next ++ codes "; }"))))))
rule_pieces i next =
    let inner = append_assoc next (codes "; }") (10 ∷ []) in
    let middle = append_assoc i (codes " -> s" ++ (next ++ codes "; }")) (10 ∷ []) ∙ ap (λ rest. i ++ (codes " -> s" ++ rest)) inner in
    let outer = append_assoc next (codes " { P: at s" ++ (i ++ (codes " -> s" ++ (next ++ codes "; }")))) (10 ∷ [])
    ∙ ap (λ rest. next ++ (codes " { P: at s" ++ rest)) middle in
    ap (λ rest. codes "rule r" ++ rest) (sym outer)
