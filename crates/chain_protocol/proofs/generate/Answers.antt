use Rattle.std.proofs.Common.{ℕ, List, ◌∙◌, ◌++◌, ◌-◌, ap, sym, subst, codes}
use Rattle.chain_protocol.specs.Chain.{joined, next_letter, rule_line}
use Rattle.chain_protocol.specs.Meaning.{SaysChain}
use Rattle.chain_protocol.proofs.ChainSaid.{text_says_chain}
use Rattle.chain_protocol.proofs.Joined.{pieces}
use Rattle.chain_protocol.proofs.generate.Goals as goal

pub returns-clause-text : goal.returns-clause-text
returns-clause-text c =
    let number = c.args.number in
    ap (λ v. v.items) c.into_bytes.ensures.value
    ∙ c.in_ok-push_str-2.ensures.bytes
    ∙ ap (λ t. t ++ codes "bad { P: any* dead any*; }\n") (c.in_ok-write_rules.ensures
    ∙ ap (λ t. t ++ joined rule_line (number - 1)) (c.in_ok-push_str.ensures.bytes
    ∙ ap (λ t. t ++ codes " dead }\ninit { P: s0 s0*; }\n") (c.in_ok-write_letters.ensures
    ∙ ap (λ t. t ++ joined next_letter number) c.in_ok-text.ensures.ok)))
    ∙ pieces (joined next_letter number) (joined rule_line (number - 1))

pub returns-clause-chain : goal.returns-clause-chain
returns-clause-chain c =
    let says = text_says_chain c.args.number c.requires.0 c.requires.1 in
    subst (λ (text : List ℕ). SaysChain c.args.number text) (sym (returns-clause-text c)) says
