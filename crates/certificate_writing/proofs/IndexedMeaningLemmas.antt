-- The lines of version 2 that are written of an automaton mean it.
use Rattle.std.proofs.Common.{◌≡◌, ◌≢◌, ℕ, ◌<◌, ◌≤◌, true, List, [], ◌∷◌, ◌++◌, Some, All, AllPairs, Contains}
use Rattle.std.proofs.Common.{length, map, flat_map, get_or, refl, sym, ap, subst, ◌∙◌, arith}
use Rattle.std.specs.List.{AllByRecursion, range_with_len}
use Rattle.std.proofs.lemmas.List.{append-nil, get_or_default}
use Rattle.std.proofs.lemmas.List.Concat.{flat_map-append}
use Rattle.std.proofs.lemmas.List.Elements.{All-nil, All-filter, All-contains, filter_passes}
use Rattle.std.proofs.lemmas.List.Kept.{AllPairs-filter}
use Rattle.std.proofs.lemmas.Option.{same_Some}
use Rattle.word_automata.specs.Path.{edges_of}
use Rattle.word_automata.specs.Automaton.{Automaton, target, IsValid}
use Rattle.word_automata.proofs.ForCallers.{All-edges_of, Contains-map, Contains-map_cases, found_edge, target_within}
use Rattle.protocol_model.specs.System.{SystemData, IsValid as IsValidSystem}
use Rattle.protocol_model.specs.Words.{automata_letters}
use Rattle.certificate.specs.SafeText.{Line, Final, Edge, Version, Two, IsInRange, AreNoTwoEdges, IsAutomatonOf, MeansAutomaton, said_by, all_said}
use Rattle.certificate_writing.specs.Writing.{final_states}
use Rattle.certificate_writing.specs.IndexedWriting.{labels_edge, used_letters, leads_to, indices_between, line_between, indexed_edges_from, indexed_edges}
use Rattle.certificate_writing.specs.IndexedWriting.{indexed_lines, indexed_text}
use Rattle.certificate.proofs.ForCallers.{AllByRecursion-append, AllPairs-mapped, safe_text_means}
use Rattle.certificate_writing.proofs.Ranges.{all_in_range, flat_map_nested, pairs_in_range, pairs_of_pieces, passes_in_range, pieces_all, pieces_have, piece_of}
use Rattle.certificate_writing.proofs.WrittenLemmas.{IsEdgeFrom, automaton_of_lines, edges_apart, finals_in_range}
use Rattle.certificate_writing.proofs.LetterIndexLemmas.{leads_is, leads_at, leads_labels}

said_finals : (v : Version) (states : List ℕ) → all_said v (map Final states) ≡ map Final states
said_finals v [] = refl
said_finals v (q ∷ states) = ap (λ rest. Final q ∷ rest) (said_finals v states)

module _ (m : Automaton) (valid : IsValid m) where
  abbrev used : List ℕ
  used = used_letters m

  abbrev letter_at : ℕ → ℕ
  letter_at i = get_or used i 0

  -- the edges that the written lines say, from one state to another, from one state, and all
  abbrev edges_between : ℕ → ℕ → List Line
  edges_between p q = map (λ i. Edge p (letter_at i) q) (indices_between m used p q)

  abbrev edges_leaving : ℕ → List Line
  edges_leaving p = flat_map (edges_between p) (range_with_len 0 (length m.states))

  abbrev edges_said : List Line
  edges_said = flat_map edges_leaving (range_with_len 0 (length m.states))

  -- the letters that are used
  pub used_in_range : All (λ a. a < m.letters) used
  used_in_range = All-filter (labels_edge m) (λ a. a < m.letters) (range_with_len 0 m.letters) (all_in_range m.letters)

  pub used_distinct : AllPairs ◌≢◌ used
  used_distinct =
      let rising = AllPairs-filter (λ (i j : ℕ). (i < j) × (j < m.letters)) (labels_edge m) (range_with_len 0 m.letters) (pairs_in_range m.letters) in
      λ i j d less within e. absurd (omega (arith, (rising i j d less within).0, e))

  indices_in_range : (p q : ℕ) → All (λ i. i < length used) (indices_between m used p q)
  indices_in_range p q =
      All-filter (λ i. leads_to (target m p (letter_at i)) q) (λ i. i < length used) (range_with_len 0 (length used)) (all_in_range (length used))

  -- an edge that is said is one of the automaton
  between_is : (p q : ℕ) (line : Line) → Contains (edges_between p q) line → (a : ℕ) × (Edge p a q ≡ line) × (target m p a ≡ Some q)
  between_is p q line there =
      let found = Contains-map_cases (λ i. Edge p (letter_at i) q) (indices_between m used p q) line there in
      let passes = filter_passes (λ i. leads_to (target m p (letter_at i)) q) (range_with_len 0 (length used)) in
      let lead : leads_to (target m p (letter_at found.0)) q ≡ true =
      All-contains (λ i. leads_to (target m p (letter_at i)) q ≡ true) (indices_between m used p q) found.0 passes found.1 in
      (letter_at found.0, found.2, leads_is (target m p (letter_at found.0)) q lead)

  leaving_is : (p : ℕ) (line : Line) → Contains (edges_leaving p) line → IsEdgeFrom m p line
  leaving_is p line there =
      let piece = piece_of (edges_between p) 0 (length m.states) line there in
      let edge = between_is p piece.0 line piece.3 in
      record { letter = edge.0; to = piece.0; is = edge.1; leads = edge.2 }

  -- each edge of the automaton is said
  leaving_has : (p a r : ℕ) → target m p a ≡ Some r → Contains (edges_leaving p) (Edge p a r)
  leaving_has p a r leads =
      let inside : a < m.letters =
      All-contains (λ (edge : ℕ × ℕ). edge.0 < m.letters) (edges_of m.states p) (a, r)
      (All-edges_of (All (λ edge. edge.0 < m.letters)) m.states (All-nil (λ (edge : ℕ × ℕ). edge.0 < m.letters)) valid.letters_in_range p)
      (found_edge (edges_of m.states p) a r leads) in
      let place = passes_in_range (labels_edge m) 0 m.letters a (omega arith) (omega (arith, inside)) (leads_labels m p a r leads) in
      let here : letter_at place.0 ≡ a = get_or_default used place.0 0 a place.1 ∙ place.2 in
      let index = passes_in_range (λ i. leads_to (target m p (letter_at i)) r) 0 (length used) place.0 (omega arith) (omega (arith, place.1))
      (leads_at (target m p (letter_at place.0)) r (ap (target m p) here ∙ leads)) in
      let edge = subst (λ b. Contains (edges_between p r) (Edge p b r)) here
      (Contains-map (λ i. Edge p (letter_at i) r) (indices_between m used p r) place.0 index) in
      pieces_have (edges_between p) 0 (length m.states) r (Edge p a r) (omega arith) (omega (arith, target_within m valid p a r leads)) edge

  -- no two edges that are said have one source and one letter
  between_pairs : (p q : ℕ) → AllPairs AreNoTwoEdges (edges_between p q)
  between_pairs p q =
      let rising = AllPairs-filter (λ (i j : ℕ). (i < j) × (j < length used)) (λ i. leads_to (target m p (letter_at i)) q)
      (range_with_len 0 (length used)) (pairs_in_range (length used)) in
      AllPairs-mapped AreNoTwoEdges (λ i. Edge p (letter_at i) q) (indices_between m used p q)
      (λ i j d less within same_state same_letter.
      let order = rising i j d less within in
      used_distinct (get_or (indices_between m used p q) i d) (get_or (indices_between m used p q) j d) 0 order.0 order.1 same_letter)

  leaving_pairs : (p : ℕ) → AllPairs AreNoTwoEdges (edges_leaving p)
  leaving_pairs p =
      pairs_of_pieces AreNoTwoEdges (edges_between p) 0 (length m.states) (between_pairs p) (λ q r less u v own other.
      let one = between_is p q u own in
      let two = between_is p r v other in
      subst (λ line. AreNoTwoEdges line v) one.1
      (subst (AreNoTwoEdges (Edge p one.0 q)) two.1 (λ same_state same_letter.
      let same : q ≡ r = same_Some q r (sym one.2 ∙ ap (target m p) same_letter ∙ two.2) in
      absurd (omega (arith, same, less)))))

  -- what the lines say
  said_between : (p q : ℕ) (indices : List ℕ) → all_said (Two used) (line_between p q indices) ≡ map (λ i. Edge p (letter_at i) q) indices
  said_between p q [] = refl
  said_between p q (i ∷ indices) = append-nil (map (λ j. Edge p (letter_at j) q) (i ∷ indices))

  said_leaving : (p : ℕ) → all_said (Two used) (indexed_edges_from m used p) ≡ edges_leaving p
  said_leaving p =
      flat_map_nested (said_by (Two used)) (λ q. line_between p q (indices_between m used p q)) (range_with_len 0 (length m.states))
      ∙ (λ i. flat_map (λ q. said_between p q (indices_between m used p q) i) (range_with_len 0 (length m.states)))

  said_edges : all_said (Two used) (indexed_edges m used) ≡ edges_said
  said_edges =
      flat_map_nested (said_by (Two used)) (indexed_edges_from m used) (range_with_len 0 (length m.states))
      ∙ (λ i. flat_map (λ p. said_leaving p i) (range_with_len 0 (length m.states)))

  all_said-is : all_said (Two used) (indexed_lines m used) ≡ map Final (final_states m) ++ edges_said
  all_said-is =
      flat_map-append (said_by (Two used)) (map Final (final_states m)) (indexed_edges m used)
      ∙ (λ i. said_finals (Two used) (final_states m) i ++ said_edges i)

  -- the lines are in range
  line_in_range : (p q : ℕ) → p < length m.states → q < length m.states → (indices : List ℕ) → All (λ i. i < length used) indices
      → AllByRecursion (IsInRange (Two used) m.letters (length m.states)) (line_between p q indices)
  line_in_range p q from to [] h = tt
  line_in_range p q from to (i ∷ indices) h = ((from, to, h, omega arith, tt), tt)

  lines_in_range : AllByRecursion (IsInRange (Two used) m.letters (length m.states)) (indexed_lines m used)
  lines_in_range =
      let count = length m.states in
      AllByRecursion-append (IsInRange (Two used) m.letters count) (map Final (final_states m)) (indexed_edges m used)
      (finals_in_range m (Two used) m.letters)
      (pieces_all (indexed_edges_from m used) (IsInRange (Two used) m.letters count) 0 count (λ p from.
      pieces_all (λ q. line_between p q (indices_between m used p q)) (IsInRange (Two used) m.letters count) 0 count (λ q to.
      line_in_range p q (omega (arith, from)) (omega (arith, to)) (indices_between m used p q) (indices_in_range p q))))

  -- the text of version 2 of an automaton means it
  pub indexed_means : (s : SystemData) → IsValidSystem s → m.letters ≡ automata_letters s → length m.states ≤ 1000000
      → MeansAutomaton s (indexed_text s m) m
  indexed_means s system letters limit =
      safe_text_means s system (length m.states) limit (Two used) (indexed_lines m used) m
      (record { in_alphabet = subst (λ size. All (λ a. a < size) used) letters used_in_range; distinct = used_distinct })
      (subst (λ size. AllByRecursion (IsInRange (Two used) size (length m.states)) (indexed_lines m used)) letters lines_in_range)
      (subst (AllPairs AreNoTwoEdges) (sym all_said-is) (edges_apart m edges_leaving leaving_is leaving_has leaving_pairs))
      (subst (λ lines. IsAutomatonOf (automata_letters s) (length m.states) lines m) (sym all_said-is)
      (subst (λ size. IsAutomatonOf size (length m.states) (map Final (final_states m) ++ edges_said) m) letters
      (automaton_of_lines m edges_leaving leaving_is leaving_has leaving_pairs valid)))
