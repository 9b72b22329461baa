-- The words of bounded length are those over the alphabet that have so many letters at most.
use Rattle.std.proofs.Common.{◌≡◌, ◌<◌, ◌≤◌, ℕ, zero, suc, Bool, false, nat_eq, if◌then◌else◌, Option, None, Some, IsTrue, List}
use Rattle.std.proofs.Common.{[], ◌∷◌, All, Contains, map, length, refl, sym, ap, subst, ◌∙◌, inl, inr, arith}
use Rattle.std.specs.List.{range_with_len}
use Rattle.std.proofs.lemmas.Bool.{cases_lt, cases_Bool, eqb-true, false≢true}
use Rattle.std.proofs.lemmas.List.Elements.{All-cons, All-nil, All-tail, Contains-append_left, Contains-append_right, Contains-append_cases}
use Rattle.word_automata.specs.Path.{edges_of}
use Rattle.word_automata.specs.Automaton.{Automaton, accepts_from, find_target, target, IsValid}
use Rattle.word_automata.proofs.ForCallers.{All-edges_of, Contains-cases, Contains-none, Contains-map, Contains-map_cases}
use Rattle.abstraction.specs.BoundedWords.{words_of, words_up_to}
use Rattle.abstraction.proofs.ListMembers.{contains_number, contains_joined, contained_in_one}

contains_word_of : (letters : ℕ) (w : List ℕ) → All (λ a. a < letters) w → Contains (words_of letters (length w)) w
contains_word_of letters [] over = (0, omega arith, refl)
contains_word_of letters (a ∷ w) over =
    contains_joined (λ b. map (λ v. b ∷ v) (words_of letters (length w))) (range_with_len 0 letters) a (a ∷ w)
    (contains_number letters a (over 0 a (omega arith)))
    (Contains-map (λ v. a ∷ v) (words_of letters (length w)) w (contains_word_of letters w (All-tail (λ b. b < letters) a w over)))

contains_word : (letters n : ℕ) (w : List ℕ) → All (λ a. a < letters) w → length w ≤ n → Contains (words_up_to letters n) w
contains_word letters zero w over short = subst (λ k. Contains (words_of letters k) w) {x = length w} {y = 0} (omega arith) (contains_word_of letters w over)
contains_word letters (suc n) w over short = elim (cases_lt n (length w)) [
  | inl long ↦ Contains-append_right (words_up_to letters n) (words_of letters (suc n)) w
      (subst (λ k. Contains (words_of letters k) w) {x = length w} {y = suc n} (omega arith) (contains_word_of letters w over))
  | inr less ↦ Contains-append_left (words_up_to letters n) (words_of letters (suc n)) w (contains_word letters n w over less)
]

word_of_length : (letters n : ℕ) (w : List ℕ) → Contains (words_of letters n) w → length w ≡ n
word_of_length letters zero w there = elim (Contains-cases [] [] w there) [
  | inl here ↦ ap length (sym here)
  | inr none ↦ absurd (Contains-none w none)
]
word_of_length letters (suc n) w there =
    let one = contained_in_one (λ b. map (λ v. b ∷ v) (words_of letters n)) (range_with_len 0 letters) w there in
    let made = Contains-map_cases (λ v. one.0 ∷ v) (words_of letters n) w one.1 in
    ap length (sym made.2) ∙ ap suc (word_of_length letters n made.0 made.1)

pub word_is_short : (letters n : ℕ) (w : List ℕ) → Contains (words_up_to letters n) w → length w ≤ n
word_is_short letters zero w there = let is = word_of_length letters zero w there in omega arith
word_is_short letters (suc n) w there = elim (Contains-append_cases (words_up_to letters n) (words_of letters (suc n)) w there) [
  | inl shorter ↦ let less = word_is_short letters n w shorter in omega arith
  | inr last ↦ let is = word_of_length letters (suc n) w last in omega arith
]

-- an accepted word is one over the automaton's letters
pub letter_within : (letters : ℕ) (edges : List (ℕ × ℕ)) (a r : ℕ) → All (λ edge. edge.0 < letters) edges → find_target edges a ≡ Some r → a < letters
letter_within letters [] a r within leads = cc leads
letter_within letters (edge ∷ edges) a r within leads = elim (cases_Bool (nat_eq edge.0 a)) [
  | inl same ↦ subst (λ l. l < letters) (eqb-true edge.0 a same) (within 0 edge (omega arith))
  | inr other ↦
      letter_within letters edges a r (All-tail (λ e. e.0 < letters) edge edges within)
      (sym (ap (λ (c : Bool). if c then Some edge.1 else find_target edges a) other) ∙ leads)
]

pub leads_by_letter : (a : Automaton) → IsValid a → (p letter r : ℕ) → target a p letter ≡ Some r → letter < a.letters
leads_by_letter a valid p letter r leads =
    letter_within a.letters (edges_of a.states p) letter r
    (All-edges_of (All (λ edge. edge.0 < a.letters)) a.states (All-nil (λ edge. edge.0 < a.letters)) valid.letters_in_range p) leads

accepted_over : (a : Automaton) → IsValid a → (w : List ℕ) (p : ℕ) → IsTrue (accepts_from a p w) → All (λ l. l < a.letters) w
accepted_over a valid [] p accepted = All-nil (λ l. l < a.letters)
accepted_over a valid (letter ∷ w) p accepted = by (target a p letter) refl accepted (accepted_over a valid w)
  where
    by : (to : Option ℕ) → target a p letter ≡ to → IsTrue (elim to [ None ↦ false | Some r ↦ accepts_from a r w ])
        → ((r : ℕ) → IsTrue (accepts_from a r w) → All (λ l. l < a.letters) w) → All (λ l. l < a.letters) (letter ∷ w)
    by None is at rest = absurd (false≢true at)
    by (Some r) is at rest = All-cons (λ l. l < a.letters) letter w (leads_by_letter a valid p letter r is) (rest r at)

pub contains_accepted : (a : Automaton) → IsValid a → (n : ℕ) (w : List ℕ) (p : ℕ) → length w ≤ n
    → IsTrue (accepts_from a p w) → Contains (words_up_to a.letters n) w
contains_accepted a valid n w p short accepted = contains_word a.letters n w (accepted_over a valid w p accepted) short
