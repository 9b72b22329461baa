-- The text of the chain says it, without a fault.
use Rattle.std.proofs.Common.{◌≡◌, ◌≤◌, ◌+◌, ◌-◌, ℕ, zero, suc, List, [], ◌∷◌, ◌++◌, map, refl, ap, subst, ◌∙◌}
use Rattle.std.specs.Prelude.{codes}
use Rattle.std.specs.List.{range_with_len}
use Rattle.forms.specs.declared.name.Name.{Name}
use Rattle.protocol_syntax.specs.declared.protocol.RuleText.{RuleText}
use Rattle.protocol_syntax.specs.Grammar.{IsProtocol}
use Rattle.protocol_layout.specs.Places.{name_without_place, rule_without_places, without_places}
use Rattle.protocol_layout.proofs.ForCallers.{layout_says_again}
use Rattle.protocol_model.specs.Faults.{first_fault}
use Rattle.chain_protocol.specs.Chain.{letter, chain_text}
use Rattle.chain_protocol.specs.Meaning.{named, chain_rule, chain, SaysChain}
use Rattle.chain_protocol.proofs.ChainFaultless.{chain_faultless}
use Rattle.chain_protocol.proofs.ChainMeans.{chain_means}
use Rattle.chain_protocol.proofs.ChainText.{layout_is_text}
use Rattle.chain_protocol.proofs.Places.{faultless_without_places}

letters_stay : (a n : ℕ) → map name_without_place (map (λ i. named (letter i)) (range_with_len a n) ++ named (codes "dead") ∷ [])
    ≡ map (λ i. named (letter i)) (range_with_len a n) ++ named (codes "dead") ∷ []
letters_stay a zero = refl
letters_stay a (suc n) = ap (λ (l : List Name). named (letter a) ∷ l) (letters_stay (a + 1) n)

rules_stay : (a n : ℕ) → map rule_without_places (map chain_rule (range_with_len a n)) ≡ map chain_rule (range_with_len a n)
rules_stay a zero = refl
rules_stay a (suc n) = ap (λ (l : List RuleText). chain_rule a ∷ l) (rules_stay (a + 1) n)

-- the names of the chain stand where names without places do
chain_stays : (number : ℕ) → without_places (chain number) ≡ chain number
chain_stays number = rw (letters_stay 0 number, rules_stay 0 (number - 1)) refl

pub text_says_chain : (number : ℕ) → 1 ≤ number → number ≤ 255 → SaysChain number (chain_text number)
text_says_chain number some small =
    let said = layout_says_again (chain number) (chain_means number some small) in
    let is : without_places said.0 ≡ chain number = said.2 ∙ chain_stays number in
    record {
      protocol = said.0;
      says = subst (λ (text : List ℕ). IsProtocol text said.0) (layout_is_text number) said.1;
      is_chain = is;
      no_fault = faultless_without_places said.0 (ap first_fault is ∙ chain_faultless number some small);
    }
