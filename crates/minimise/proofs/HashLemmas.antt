-- Hashes of signatures, edge by edge, and that states with different hashes are told apart.
use Rattle.std.proofs.Common.{◌≡◌, ◌+◌, ◌<◌, ℕ, false, List, [], ◌∷◌, Option, None, Some, length, slice_index, get_or, take, refl, sym, ap, subst, ◌∙◌, inl, inr, arith}
use Rattle.std.proofs.lemmas.List.{get_or_past}
use Rattle.std.proofs.lemmas.Option.{slice_get_cases}
use Rattle.std.proofs.lemmas.List.Sums.{fold-append}
use Rattle.std.specs.List.{filter_map, fold}
use Rattle.word_automata.specs.Path.{Node}
use Rattle.word_automata.specs.Automaton.{Automaton, IsValid}
use Rattle.minimise.specs.Signatures.{Signature}
use Rattle.minimise.specs.Refinement.{live_edge}
use Rattle.minimise.specs.private.Rounds.{AreToldApart, outgoing, edge_number, mixed_in, mixed_in_edge, hash_of, AreHashes}
use Rattle.minimise.proofs.Splitting.{live_edge_more, dead_edge_more}
use Rattle.minimise.proofs.Refining.{outgoing_apart}
use Rattle.minimise.proofs.OwnSignatures.{outgoing-past}

-- the hash so far, of the first i edges
abbrev pub hash_before : ℕ → List ℕ → List (ℕ × ℕ) → ℕ → ℕ
hash_before start classes edges i = fold mixed_in_edge start (filter_map (live_edge classes) (take i edges))

module _ (start : ℕ) (classes : List ℕ) (edges : List (ℕ × ℕ)) (i : ℕ) (l : i < length edges) (value : ℕ) (h : value ≡ hash_before start classes edges i) where
  pub hash_more : (slice_index classes (get_or edges i (0, 0)).1 ≡ 0 → ⊥)
      → mixed_in value (edge_number ((get_or edges i (0, 0)).0, slice_index classes (get_or edges i (0, 0)).1)) ≡ hash_before start classes edges (i + 1)
  hash_more ne =
      let edge : ℕ × ℕ = ((get_or edges i (0, 0)).0, slice_index classes (get_or edges i (0, 0)).1) in
      let before = filter_map (live_edge classes) (take i edges) in
      ap (λ v. mixed_in_edge v edge) h ∙ sym (fold-append mixed_in_edge start before (edge ∷ []))
      ∙ ap (fold mixed_in_edge start) (live_edge_more classes edges i l before refl ne)

  pub hash_same : slice_index classes (get_or edges i (0, 0)).1 ≡ 0 → value ≡ hash_before start classes edges (i + 1)
  hash_same e = h ∙ ap (fold mixed_in_edge start) (dead_edge_more classes edges i l (filter_map (live_edge classes) (take i edges)) refl e)

-- the signature of a state that may be there
abbrev signature_at : List ℕ → Option (Node ℕ) → Signature
signature_at classes o = record {
  class = 0;
  accepting = elim o [ None ↦ false | Some node ↦ node.accepting ];
  edges = filter_map (live_edge classes) (elim o [ None ↦ [] | Some node ↦ node.edges ]);
}

-- states that get the hashes of their signatures are told apart where these differ
pub hashes_apart : (m : Automaton) → IsValid m → (classes finer : List ℕ) → AreToldApart m classes → AreHashes m.states classes finer → AreToldApart m finer
hashes_apart m valid classes finer apart hashes = record {
  count = hashes.count;
  told_apart = λ p q ne. outgoing_apart m valid classes apart p q (λ same. ne (at p ∙ ap hash_of same ∙ sym (at q)));
}
  where
    at : (q : ℕ) → slice_index finer q ≡ hash_of (outgoing m classes q)
    at q = elim (slice_get_cases m.states q).1 [
      | inl there ↦ hashes.each q there.0 there.2 ∙ sym (ap (λ o. hash_of (signature_at classes o)) there.2)
      | inr past ↦
          let none : slice_index finer q ≡ 0 = (let e = hashes.count in let l = past.0 in get_or_past finer q 0 (omega arith)) in
          none ∙ sym (ap hash_of (outgoing-past m classes q past.0))
    ]

-- the same where rows and classes are told by equations
pub hashed_apart : (m : Automaton) → IsValid m → (rows : List (Node ℕ)) (old classes finer : List ℕ) → rows ≡ m.states → old ≡ classes
    → AreToldApart m classes → AreHashes rows old finer → AreToldApart m finer
hashed_apart m valid rows old classes finer e f apart hashes =
    hashes_apart m valid classes finer apart (subst (λ xs. AreHashes xs classes finer) e (subst (λ xs. AreHashes rows xs finer) f hashes))
