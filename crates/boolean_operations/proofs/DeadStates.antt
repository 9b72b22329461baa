-- Flags of states from which no word is accepted.
use Rattle.std.proofs.Common.{◌≡◌, ◌+◌, ◌<◌, ◌≤◌, ℕ, Bool, true, false, List, [], Option, Some, Contains, length, get_or, slice_get, inl, inr, sym, ap, subst, ◌∙◌, arith}
use Rattle.std.proofs.lemmas.Bool.{cases_eq, true≢false}
use Rattle.std.proofs.lemmas.List.{get_or_past}
use Rattle.std.proofs.lemmas.Option.{same_Some}
use Rattle.word_automata.specs.Nondeterministic.{NondeterministicAutomaton}
use Rattle.boolean_operations.specs.private.DeadStates.{IsRejectingAt, AreRejecting}
use Rattle.boolean_operations.proofs.SearchCalls.{place_of}

-- the first k moves lead to states with the flag
abbrev pub LeadToFlagged : List Bool → List (Option ℕ × ℕ) → ℕ → Type 0
LeadToFlagged flags moves k = (i : ℕ) (move : Option ℕ × ℕ) → i < k → slice_get moves i ≡ Some move → get_or flags move.1 false ≡ true

-- one more move
pub flagged_more : (flags : List Bool) (moves : List (Option ℕ × ℕ)) (k : ℕ) (move : Option ℕ × ℕ) → LeadToFlagged flags moves k → slice_get moves k ≡ Some move
    → get_or flags move.1 false ≡ true → LeadToFlagged flags moves (k + 1)
flagged_more flags moves k move before at flag i other less there = elim (cases_eq i k) [
  | inl same ↦
      let is : move ≡ other = same_Some move other (sym at ∙ ap (slice_get moves) (sym same) ∙ there) in
      subst (λ (m : Option ℕ × ℕ). get_or flags m.1 false ≡ true) is flag
  | inr later ↦ before i other (omega arith) there
]

-- all moves
pub flagged_targets : (flags : List Bool) (moves : List (Option ℕ × ℕ)) (k : ℕ) → length moves ≤ k → LeadToFlagged flags moves k
    → (label : Option ℕ) (q : ℕ) → Contains moves (label, q) → get_or flags q false ≡ true
flagged_targets flags moves k all each label q there =
    let place = place_of moves (label, q) there in
    each place.0 (label, q) (let l = place.1 in omega arith) place.2

-- a number that is no state has no flag
pub rejecting_past : (n : NondeterministicAutomaton) (flags : List Bool) (p : ℕ) → length flags ≤ p → IsRejectingAt n flags p
rejecting_past n flags p past = record {
  rejects = λ e. absurd (true≢false (sym e ∙ get_or_past flags p false past));
  leads = λ e. absurd (true≢false (sym e ∙ get_or_past flags p false past));
}

-- no flag at all
pub rejecting_none : (n : NondeterministicAutomaton) → AreRejecting n []
rejecting_none n p = record {
  rejects = λ e. absurd (true≢false (sym e ∙ get_or_past [] p false (omega arith)));
  leads = λ e. absurd (true≢false (sym e ∙ get_or_past [] p false (omega arith)));
}
