-- That a signature says which words a set of states accepts.
use Rattle.std.proofs.Common.{◌<◌, ◌↔◌, ℕ, List, [], ◌∷◌, Option, Contains, length, subst, inl, inr, sym}
use Rattle.std.proofs.lemmas.List.Elements.{All-contains}
use Rattle.word_automata.specs.Nondeterministic.{NondeterministicAutomaton, AcceptsFromAny}
use Rattle.word_automata.proofs.ForCallers.{Contains-cases, Contains-here, Contains-none, Contains-there}
use Rattle.reduction.specs.Reduction.{AcceptsAlong, KeepsStarts}
use Rattle.reduction.proofs.ForCallers.{kept_accept}
use Rattle.atoms.specs.Covers.{AreAtomsOf, IsSignature, IsWithin, AcceptsWithin}

module _ (n : NondeterministicAutomaton) (rows : List (List ℕ)) (atoms : AreAtomsOf n rows) (states signature : List ℕ) (is : IsSignature rows states signature) where
  -- where a state within the signature accepts along labels, so does one of the states
  covered : (q : ℕ) → IsWithin rows signature q → (labels : List (Option ℕ)) → AcceptsAlong n q labels → (r : ℕ) × Contains states r × AcceptsAlong n r labels
  covered q within labels along =
      let atom = atoms.cover labels q along in
      let holder = is.only atom.0 (within atom.0 atom.1) in
      (holder.0, holder.1, atom.2 holder.0 holder.2)

  -- so that it can be left out beside them
  keeps : (q : ℕ) → IsWithin rows signature q → KeepsStarts n (q ∷ states) states
  keeps q within = record {
    only = λ r there. Contains-there q states r there;
    kept = λ r labels there along. elim (Contains-cases q states r there) [
      | inl same ↦ covered q within labels (subst (λ x. AcceptsAlong n x labels) (sym same) along)
      | inr later ↦ (r, later, along)
    ];
  }

  -- a state alone is one of it with others
  first : (q r : ℕ) → Contains (q ∷ []) r → Contains (q ∷ states) r
  first q r there = elim (Contains-cases q [] r there) [
    | inl same ↦ subst (Contains (q ∷ states)) same (Contains-here states q)
    | inr none ↦ absurd (Contains-none r none)
  ]

  -- some state within the signature accepts a word exactly where one of the states does
  pub signature_accepts : (w : List ℕ) → AcceptsWithin n rows signature w ↔ AcceptsFromAny n states w
  signature_accepts w = (
    (λ accepts. let run = accepts.3 in
        (kept_accept n (accepts.0 ∷ states) states (keeps accepts.0 accepts.2) w).0 (run.0, run.1, run.2, first accepts.0 run.0 run.3, run.4, run.5, run.6)),
    (λ run. (
      run.0,
      subst (λ l. run.0 < l) atoms.count (All-contains (λ q. q < length rows) states run.0 is.in_range run.3),
      (λ k has. is.all run.0 k run.3 has),
      (run.0, run.1, run.2, Contains-here [] run.0, run.4, run.5, run.6),
    )),
  )
