-- Results of the construction: what clauses say together, and of an automaton of the same words.
use Rattle.std.proofs.Common.{◌≡◌, ◌↔◌, ◌∙◌, ℕ, List, Result, Ok, Err, IfOk, IsTrue}
use Rattle.word_automata.specs.Automaton.{Automaton, accepts, IsValid}
use Rattle.word_automata.specs.Nondeterministic.{NondeterministicAutomaton, Accepts}
use Rattle.determinise.specs.private.Determinised.{IsDeterminised}

pub determinised : {E : Type 0} (n : NondeterministicAutomaton) (r : Result Automaton E) → IfOk r (λ dfa. (w : List ℕ) → IsTrue (accepts dfa w) ↔ Accepts n w)
    → IfOk r (λ dfa. dfa.letters ≡ n.letters) → IfOk r IsValid → IfOk r (IsDeterminised n)
determinised n (Ok dfa) language letters valid = record { language = language; letters = letters; valid = valid }
determinised n (Err e) language letters valid = tt

-- of an automaton of the same letters and words
pub determinised_same : {E : Type 0} (n m : NondeterministicAutomaton) (r : Result Automaton E) → ((w : List ℕ) → Accepts m w ↔ Accepts n w) → m.letters ≡ n.letters
    → IfOk r (IsDeterminised m) → IfOk r (IsDeterminised n)
determinised_same n m (Ok dfa) words letters is = record {
  language = λ w. ((λ accepted. (words w).0 ((is.language w).0 accepted)), (λ accepted. (is.language w).1 ((words w).1 accepted)));
  letters = is.letters ∙ letters;
  valid = is.valid;
}
determinised_same n m (Err e) words letters is = tt
