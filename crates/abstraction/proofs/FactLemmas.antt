-- The facts of an automaton determine its merged words.
use Rattle.std.proofs.Common.{◌≡◌, ℕ, Bool, List, [], ◌∷◌, refl, sym, ◌∙◌}
use Rattle.word_automata.specs.Automaton.{Automaton}
use Rattle.abstraction.specs.Merging.{IsMergedFrom}
use Rattle.abstraction.specs.Signatures.{Fact, starts, accepts, leads, HasFact, HaveSameSignature, FactsDetermineWords}
use Rattle.abstraction.proofs.MergedWords.{merged_has_state}

-- what is accepted from a state once states are merged is accepted from every state of the other automaton with its signature
merged_from_facts : (a b : Automaton) (signature other : ℕ → List Bool) → ((fact : Fact) → HasFact signature a fact → HasFact other b fact)
    → (w : List ℕ) (p q : ℕ) → signature p ≡ other q → IsMergedFrom (HaveSameSignature signature) a p w → IsMergedFrom (HaveSameSignature other) b q w
merged_from_facts a b signature other has [] p q same (r, related, accepting) =
    let fact = has (accepts (signature r)) (r, accepting, refl) in
    (fact.0, sym same ∙ related ∙ sym fact.2, fact.1)
merged_from_facts a b signature other has (letter ∷ w) p q same (r, related, to, leads_to, rest) =
    let fact = has (leads (signature r) letter (signature to)) (r, to, leads_to, refl, refl) in
    (fact.0, sym same ∙ related ∙ sym fact.3, fact.1, fact.2, merged_from_facts a b signature other has w to fact.1 (sym fact.4) rest)

merged_by_facts : (a b : Automaton) (signature other : ℕ → List Bool) → ((fact : Fact) → HasFact signature a fact → HasFact other b fact)
    → (w : List ℕ) → IsMergedFrom (HaveSameSignature signature) a 0 w → IsMergedFrom (HaveSameSignature other) b 0 w
merged_by_facts a b signature other has w merged =
    let start = has (starts (signature 0)) (merged_has_state (HaveSameSignature signature) a w 0 merged, refl) in
    merged_from_facts a b signature other has w 0 0 (sym start.1) merged

pub facts_determine_words : FactsDetermineWords
facts_determine_words a b signature other same w = (
  merged_by_facts a b signature other (λ fact. (same fact).0) w,
  merged_by_facts b a other signature (λ fact. (same fact).1) w,
)
