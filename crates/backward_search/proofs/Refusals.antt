-- The words that an automaton refuses, as a test and as a fact, and those that it accepts.
use Rattle.std.proofs.Common.{◌≡◌, ◌↔◌, ◌<◌, ◌≤◌, ◌+◌, ◌&&◌, ℕ, Bool, true, false, not, nat_lt, List, [], ◌∷◌, Option, None, Some, length, refl, sym, ◌∙◌, arith, IsTrue}
use Rattle.std.proofs.lemmas.Bool.{and_parts, and_from, true≢false, not_from_false}
use Rattle.std.proofs.lemmas.Bool.Decides.{nat_tests, same_from_decides}
use Rattle.std.proofs.lemmas.List.Elements.{All-nil, All-cons, All-head, All-tail}
use Rattle.word_automata.specs.Automaton.{Automaton, target, accepts, accepts_from, IsValid}
use Rattle.boolean_operations.specs.Complements.{are_letters}
use Rattle.minimise.specs.Canonical.{CanonicalIsLeast, CanonicalIsUnique, SameLanguage}
use Rattle.abstraction.proofs.ForCallers.{leads_by_letter}
use Rattle.safety_problem.specs.Task.{IsWordOver}
use Rattle.backward_search.specs.BackwardVerdicts.{IsRefusedBy, IsComplementOf}
use Rattle.backward_search.proofs.CompleteAutomata.{complete, length-complete, accepts-complete}

over-from_test : (n : ℕ) (w : List ℕ) → are_letters n w ≡ true → IsWordOver n w
over-from_test n [] h = All-nil (λ (a : ℕ). a < n)
over-from_test n (a ∷ w) h =
    let parts = and_parts (nat_lt a n) (are_letters n w) h in
    All-cons (λ (a : ℕ). a < n) a w (grind (arith, nat_tests, parts.0)) (over-from_test n w parts.1)

test-from_over : (n : ℕ) (w : List ℕ) → IsWordOver n w → are_letters n w ≡ true
test-from_over n [] h = refl
test-from_over n (a ∷ w) h =
    let first = All-head (λ (a : ℕ). a < n) a w h in
    and_from (nat_lt a n) (are_letters n w) (grind (arith, nat_tests, first)) (test-from_over n w (All-tail (λ (a : ℕ). a < n) a w h))

refused_by_not : (b : Bool) → not b ≡ true → b ≡ false
refused_by_not true h = sym h
refused_by_not false h = refl

-- the test of words that a complement accepts
pub refused-decides : (m : Automaton) (w : List ℕ) → IsTrue (are_letters m.letters w && not (accepts m w)) ↔ IsRefusedBy m w
refused-decides m w = (
  λ h. let parts = and_parts (are_letters m.letters w) (not (accepts m w)) h in
      (over-from_test m.letters w parts.0, refused_by_not (accepts m w) parts.1),
  λ refused. and_from (are_letters m.letters w) (not (accepts m w)) (test-from_over m.letters w refused.0) (not_from_false (accepts m w) refused.1),
)

-- a canonical complement has one state more at most
pub complement_is_small : CanonicalIsLeast → (m c : Automaton) → IsValid m → IsComplementOf m c → length c.states ≤ length m.states + 1
complement_is_small least m c valid is =
    let same : SameLanguage c (complete m) = λ w. same_from_decides (accepts c w) (are_letters m.letters w && not (accepts m w)) (is.language w) (refused-decides m w)
    ∙ sym (accepts-complete m valid w) in
    let few = least c (complete m) is.canonical same in
    let count = length-complete m in
    omega (arith, few, count)

-- a valid automaton accepts words over its letters alone
accepted_from_over : (m : Automaton) → IsValid m → (w : List ℕ) (q : ℕ) → IsTrue (accepts_from m q w) → IsWordOver m.letters w
accepted_from_over m valid [] q accepted = All-nil (λ (a : ℕ). a < m.letters)
accepted_from_over m valid (a ∷ w) q accepted = by (target m q a) refl accepted (accepted_from_over m valid w)
  where
    by : (o : Option ℕ) → target m q a ≡ o → IsTrue (elim o as (λ o. Bool) [ None ↦ false | Some r ↦ accepts_from m r w ])
        → ((r : ℕ) → IsTrue (accepts_from m r w) → IsWordOver m.letters w) → IsWordOver m.letters (a ∷ w)
    by None leads accepted rest = absurd (true≢false (sym accepted))
    by (Some r) leads accepted rest = All-cons (λ (a : ℕ). a < m.letters) a w (leads_by_letter m valid q a r leads) (rest r accepted)

pub accepted_over : (m : Automaton) → IsValid m → (w : List ℕ) → IsTrue (accepts m w) → IsWordOver m.letters w
accepted_over m valid w accepted = accepted_from_over m valid w 0 accepted

-- two complements of one automaton are equal
pub complement-unique : CanonicalIsUnique → (m c d : Automaton) → IsComplementOf m c → IsComplementOf m d → c ≡ d
complement-unique unique m c d is are = unique c d is.canonical are.canonical (is.same_letters ∙ sym are.same_letters)
    (λ w. same_from_decides (accepts c w) (accepts d w) (is.language w) (are.language w))
