-- Laws of the relation of predicates.
use Rattle.std.specs.Prelude.{◌≡◌, ◌<◌, ◌++◌, ℕ, Bool, false, List, [], ◌∷◌, Option, None, Some, IsTrue, Contains, length}
use Rattle.std.proofs.Common.{refl, sym, ap, subst, ◌∙◌, inl, inr}
use Rattle.std.proofs.lemmas.Bool.{false≢true, cases_lt}
use Rattle.std.proofs.lemmas.List.{append-nil, append_assoc}
use Rattle.std.proofs.lemmas.List.Elements.{All-append, All-cons, All-nil, Contains-append_left, Contains-push}
use Rattle.std.proofs.lemmas.Option.{slice_get_past}
use Rattle.word_automata.specs.Path.{Node, is_accepting}
use Rattle.word_automata.specs.Automaton.{Automaton, find_target, target, accepts_from}
use Rattle.abstraction.specs.Merging.{Key, IsOver, IsEquivalence, IsMergedFrom}
use Rattle.abstraction.specs.Excluding.{Excludes, refined_by}
use Rattle.predicate_abstraction.specs.Predicates.{SharesWord, MeetSame, RefinedKey, key_of, refined_with, is_related, next_key}

pub related-equivalence : (k : Key) (a : Automaton) → IsEquivalence (is_related k a)
related-equivalence k a = record {
  reflexive = λ p b there s within. (λ h. h, λ h. h);
  symmetric = λ p q related b there s within. ((related b there s within).1, (related b there s within).0);
  transitive = λ p q r first second b there s within. (
    λ h. (second b there s within).0 ((first b there s within).0 h),
    λ h. (first b there s within).1 ((second b there s within).1 h),
  );
}

pub related-finer : (k : Key) (x a : Automaton) (p q : ℕ) → is_related (next_key k x) a p q → is_related k a p q
related-finer k x a p q related b there = related b (Contains-append_left k.automata (x ∷ []) b there)

pub next_key-over : (k : Key) (x : Automaton) (letters : ℕ) → IsOver letters k → x.letters ≡ letters → IsOver letters (next_key k x)
next_key-over k x letters over same =
    let P : Automaton → Type 0 = λ m. m.letters ≡ letters in
    All-append P k.automata (x ∷ []) over (All-cons P x [] same (All-nil P))

-- a key that is refined by sets has them at its end
refined_by-is : (k : Key) (xs : List Automaton) → refined_by next_key k xs ≡ record { automata = k.automata ++ xs; bound = k.bound }
refined_by-is k [] = ap (λ (automata : List Automaton). let key : Key = record { automata = automata; bound = k.bound } in key) (sym (append-nil k.automata))
refined_by-is k (x ∷ xs) =
    refined_by-is (next_key k x) xs
    ∙ ap (λ (automata : List Automaton). let key : Key = record { automata = automata; bound = k.bound } in key) (append_assoc k.automata (x ∷ []) xs)

pub refined_key : (k : RefinedKey) → key_of k ≡ refined_by next_key k.first k.refuted
refined_key k = sym (refined_by-is k.first k.refuted)

pub first-stays : (k : RefinedKey) (x : Automaton) → (refined_with k x).first ≡ k.first
first-stays k x = refl

pub refuted-added : (k : RefinedKey) (x : Automaton) → (refined_with k x).refuted ≡ k.refuted ++ x ∷ []
refuted-added k x = refl

-- a state that accepts, or that a letter leaves, is there
accepting_within : (states : List (Node ℕ)) (p : ℕ) → IsTrue (is_accepting states p) → p < length states
accepting_within states p accepts = elim (cases_lt p (length states)) [
  | inl there ↦ there
  | inr past ↦ absurd (false≢true (sym (ap (λ o. elim o as (λ o. Bool) [ None ↦ false | Some node ↦ node.accepting ]) (slice_get_past states p past)) ∙ accepts))
]

leads_within : (a : Automaton) (p letter r : ℕ) → target a p letter ≡ Some r → p < length a.states
leads_within a p letter r leads = elim (cases_lt p (length a.states)) [
  | inl there ↦ there
  | inr past ↦
      absurd (let none = ap (λ o. find_target (elim o as (λ o. List (ℕ × ℕ)) [ None ↦ [] | Some node ↦ node.edges ]) letter) (slice_get_past a.states p past) in cc)
]

-- a letter leads to a state from which the rest of the word is accepted
pub accepts_first : (a : Automaton) (p letter : ℕ) (w : List ℕ) → IsTrue (accepts_from a p (letter ∷ w)) → (r : ℕ) × (target a p letter ≡ Some r) × IsTrue (accepts_from a r w)
accepts_first a p letter w accepts = by (target a p letter) refl
  where
    by : (o : Option ℕ) → target a p letter ≡ o → (r : ℕ) × (target a p letter ≡ Some r) × IsTrue (accepts_from a r w)
    by None e = absurd (false≢true (sym (ap (λ o. elim o as (λ o. Bool) [ None ↦ false | Some q ↦ accepts_from a q w ]) e) ∙ accepts))
    by (Some r) e = (r, e, sym (ap (λ o. elim o as (λ o. Bool) [ None ↦ false | Some q ↦ accepts_from a q w ]) e) ∙ accepts)

pub accepts_along : (a : Automaton) (p letter r : ℕ) (w : List ℕ) → target a p letter ≡ Some r → IsTrue (accepts_from a r w) → IsTrue (accepts_from a p (letter ∷ w))
accepts_along a p letter r w leads accepts = ap (λ o. elim o as (λ o. Bool) [ None ↦ false | Some q ↦ accepts_from a q w ]) leads ∙ accepts

-- where a predicate automaton accepts a merged word from a state, it shares a word with the state that was merged, by induction from
-- the end of the word to its front
shares_with_merged : (predicates : List Automaton) (x : Automaton) → Contains predicates x → (a : Automaton) (w : List ℕ) (q s : ℕ)
    → IsMergedFrom (MeetSame predicates a) a q w → IsTrue (accepts_from x s w) → SharesWord a q x s
shares_with_merged predicates x there a [] q s (p, related, accepts) end = (related x there s (accepting_within x.states s end)).1 ([], accepts, end)
shares_with_merged predicates x there a (letter ∷ w) q s (p, related, r, leads, rest) accepts =
    let to = accepts_first x s letter w accepts in
    let later = shares_with_merged predicates x there a w r to.0 rest to.2 in
    (related x there s (leads_within x s letter to.0 to.1)).1
    (letter ∷ later.0, accepts_along a p letter r later.0 leads later.1, accepts_along x s letter to.0 later.0 to.1 later.2)

pub related-excludes : Excludes is_related next_key
related-excludes key x later a misses w merged accepts =
    let refined = refined_by next_key (next_key key x) later in
    let there : Contains refined.automata x =
    subst (λ (k : Key). Contains k.automata x) (sym (refined_by-is (next_key key x) later))
    (Contains-append_left (key.automata ++ x ∷ []) later x (Contains-push key.automata x)) in
    let word = shares_with_merged refined.automata x there a w 0 0 merged accepts in
    misses word.0 word.1 word.2
