-- Lists of the states from which letters lead to the states of a set.
use Rattle.std.proofs.Common.{◌≡◌, ◌==◌, ◌<◌, ◌+◌, ◌↔◌, ℕ, Bool, true, false, Vec, List, [], ◌∷◌, Contains, length, take}
use Rattle.std.proofs.Common.{get_or, refl, sym, subst, ◌∙◌, inl, inr, arith, eq-eqb}
use Rattle.std.proofs.lemmas.Bool.{eqb-true, true≢false}
use Rattle.word_automata.proofs.ForCallers.{Contains-none}
use Rattle.exploration.specs.Incoming.{Chains, IsInto, AddsMoves}
use Rattle.abstraction.proofs.ForCallers.{take_cases, take_keeps, take_last}
use Rattle.past_abstraction.specs.private.PastSets.{ArePreimages}
use Rattle.past_abstraction.specs.private.WordSets.{HasEmptyLists, PutsEdges}

-- the preimages of no state, and with those of one more
pub preimages_of_none : {A : Type 0} (into : Chains) (letters : ℕ) (lists : List (Vec ℕ A)) → HasEmptyLists letters lists → ArePreimages into [] lists
preimages_of_none into letters lists before letter p = (λ there. absurd (before.empty letter p there), λ step. absurd (Contains-none step.0 step.1))

-- the edges into a state that are added to none
pub edges_of_state : (into : Chains) (q : ℕ) (none edges : List (ℕ × ℕ)) → none ≡ [] → AddsMoves into q none edges → (edge : ℕ × ℕ)
    → Contains edges edge ↔ IsInto into q edge
edges_of_state into q none edges empty adds edge = (
  λ there. elim (adds.only edge there) [
    | inl earlier ↦ absurd (Contains-none edge (subst (λ xs. Contains xs edge) empty earlier))
    | inr leads ↦ leads
  ],
  adds.added edge,
)

pub preimages_of_more : {A : Type 0} (into : Chains) (set : List ℕ) (edges : List (ℕ × ℕ)) (lists more : List (Vec ℕ A)) (i : ℕ) → i < length set
    → ((edge : ℕ × ℕ) → Contains edges edge ↔ IsInto into (get_or set i 0) edge) → ArePreimages into (take i set) lists → PutsEdges edges lists more
    → ArePreimages into (take (i + 1) set) more
preimages_of_more into set edges lists more i within are before puts letter p = (
  λ there. elim ((puts.listed letter p).0 there) [
    | inl earlier ↦ let step = (before letter p).0 earlier in (step.0, take_keeps set i 0 step.0 within step.1, step.2)
    | inr here ↦ (get_or set i 0, take_last set i 0 within, (are (letter, p)).0 here)
  ],
  λ step. (puts.listed letter p).1 (elim (take_cases set i 0 step.0 within step.1) [
    | inl earlier ↦ inl ((before letter p).1 (step.0, earlier, step.2))
    | inr same ↦ inr ((are (letter, p)).1 (subst (λ q. IsInto into q (letter, p)) (sym same) step.2))
  ]),
)

-- a list without states, and one with some
pub no_states : {A : Type 0} (list : Vec ℕ A) (empty : Bool) → empty ≡ (list.len == 0) → empty ≡ true → list.items ≡ []
no_states list empty is here = by list.items (let e = eqb-true list.len 0 (sym is ∙ here) in let l = list.ok.0 in omega arith)
  where
    by : (states : List ℕ) → length states ≡ 0 → states ≡ []
    by [] none = refl
    by (p ∷ states) none = absurd (omega arith)

pub some_states : {A : Type 0} (list : Vec ℕ A) (empty : Bool) → empty ≡ (list.len == 0) → empty ≡ false → (p : ℕ) × Contains list.items p
some_states list empty is here = by list.items (λ none. true≢false (sym (eq-eqb list.len 0 (let l = list.ok.0 in omega arith)) ∙ sym is ∙ here))
  where
    by : (states : List ℕ) → (length states ≡ 0 → ⊥) → (p : ℕ) × Contains states p
    by [] some = absurd (some refl)
    by (p ∷ states) some = (p, (0, omega arith, refl))
