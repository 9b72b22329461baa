-- No word is accepted from states that do not accept and lead to such states alone.
use Rattle.std.proofs.Common.{◌≡◌, ◌<◌, ◌≤◌, ℕ, zero, suc, replicate, refl, Bool, true, false, List, [], ◌∷◌, Option, None, Contains, length, get_or, sym, subst, ◌∙◌}
use Rattle.std.proofs.lemmas.Bool.{true≢false}
use Rattle.std.proofs.lemmas.List.{get_or_default, get_or_past}
use Rattle.word_automata.specs.Nondeterministic.{NondeterministicAutomaton}
use Rattle.reduction.specs.private.Emptiness.{IsRejectingAt, AreRejecting}
use Rattle.reduction.specs.Reduction.{AcceptsAlong}

module _ (n : NondeterministicAutomaton) (flags : List Bool) (r : AreRejecting n flags) where
  flagged_along : (labels : List (Option ℕ)) (p : ℕ) → get_or flags p false ≡ true → AcceptsAlong n p labels → ⊥
  flagged_along [] p flag along = true≢false (sym along ∙ (r p).rejects flag)
  flagged_along (label ∷ labels) p flag along = flagged_along labels along.0 ((r p).leads flag label along.0 along.1) along.2

  -- so a state from which a word is accepted has no flag
  pub is_live : (labels : List (Option ℕ)) (p : ℕ) → AcceptsAlong n p labels → get_or flags p false ≡ false
  is_live labels p along = by (get_or flags p false) refl
    where
      by : (b : Bool) → get_or flags p false ≡ b → get_or flags p false ≡ false
      by true e = absurd (flagged_along labels p e along)
      by false e = e

pub flagged_targets : (flags : List Bool) (edges : List (Option ℕ × ℕ)) → ((k : ℕ) → k < length edges → get_or flags (get_or edges k (None, 0)).1 false ≡ true)
    → (label : Option ℕ) (q : ℕ) → Contains edges (label, q) → get_or flags q false ≡ true
flagged_targets flags edges each label q (k, l, is) =
    subst (λ (x : Option ℕ × ℕ). get_or flags x.1 false ≡ true) (get_or_default edges k (None, 0) (label, q) l ∙ is) (each k l)

-- a number that is no state has no flag
pub rejecting_past : (n : NondeterministicAutomaton) (flags : List Bool) (p : ℕ) → length flags ≤ p → IsRejectingAt n flags p
rejecting_past n flags p past = record {
  rejects = λ e. absurd (true≢false (sym e ∙ get_or_past flags p false past));
  leads = λ e. absurd (true≢false (sym e ∙ get_or_past flags p false past));
}

-- no flag at all
pub rejecting_none : (n : NondeterministicAutomaton) (flags : List Bool) → ((p : ℕ) → get_or flags p false ≡ false) → AreRejecting n flags
rejecting_none n flags none p = record {
  rejects = λ e. absurd (true≢false (sym e ∙ none p));
  leads = λ e. absurd (true≢false (sym e ∙ none p));
}

pub get_or-replicate : (count p : ℕ) → get_or (replicate count false) p false ≡ false
get_or-replicate zero p = refl
get_or-replicate (suc count) zero = refl
get_or-replicate (suc count) (suc p) = get_or-replicate count p
