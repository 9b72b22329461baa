-- The lines that are written of an automaton mean it: those of its accepting states, and those of the edges that leave each state.
use Rattle.std.proofs.Common.{◌≡◌, ℕ, ◌<◌, ◌≤◌, true, List, [], ◌∷◌, ◌++◌, Some, All, AllPairs, Contains, length, flat_map, map}
use Rattle.std.proofs.Common.{refl, sym, ap, subst, ◌∙◌, arith, inl, inr}
use Rattle.std.specs.List.{AllByRecursion, range_with_len}
use Rattle.std.proofs.lemmas.List.Elements.{All-nil, All-head, All-tail, All-filter, All-map, All-contains, filter_passes, recursion_from_All}
use Rattle.std.proofs.lemmas.List.Elements.{Contains-append_left, Contains-append_right, Contains-append_cases}
use Rattle.std.proofs.lemmas.List.Kept.{AllPairs-cons}
use Rattle.word_automata.specs.Path.{edges_of, is_accepting}
use Rattle.word_automata.specs.Automaton.{Automaton, target, HasIncreasingLetters, IsValid}
use Rattle.word_automata.proofs.ForCallers.{Contains-map, Contains-map_cases, All-edges_of, accepting_within, edge_found, found_edge, leads_within, ordered_edges}
use Rattle.protocol_model.specs.System.{SystemData, IsValid as IsValidSystem}
use Rattle.protocol_model.specs.Words.{automata_letters}
use Rattle.certificate.specs.SafeText.{Line, Final, Edge, Edges, Version, One, IsInRange, AreNoTwoEdges, IsAutomatonOf, MeansAutomaton, all_said}
use Rattle.certificate.proofs.ForCallers.{AllByRecursion-append, safe_text_means}
use Rattle.certificate_writing.specs.Writing.{final_states, lines_from, edge_lines, written_lines, written_text}
use Rattle.certificate_writing.proofs.Ranges.{all_in_range, passes_in_range, pieces_have, piece_of, pieces_all, pairs_of_pieces}

-- the states that are written are those that accept
module _ (m : Automaton) where
  pub finals_in_range : (v : Version) (letters : ℕ) → AllByRecursion (IsInRange v letters (length m.states)) (map Final (final_states m))
  finals_in_range v letters =
      recursion_from_All (IsInRange v letters (length m.states)) (map Final (final_states m))
      (All-map (IsInRange v letters (length m.states)) Final (final_states m)
      (All-filter (is_accepting m.states) (λ q. q < length m.states) (range_with_len 0 (length m.states)) (all_in_range (length m.states))))

  finals_have : (q : ℕ) → is_accepting m.states q ≡ true → Contains (map Final (final_states m)) (Final q)
  finals_have q accepts =
      Contains-map Final (final_states m) q
      (passes_in_range (is_accepting m.states) 0 (length m.states) q (omega arith) (omega (arith, accepting_within m.states q accepts)) accepts)

  finals_are : (q : ℕ) → Contains (map Final (final_states m)) (Final q) → is_accepting m.states q ≡ true
  finals_are q among =
      let found = Contains-map_cases Final (final_states m) (Final q) among in
      subst (λ r. is_accepting m.states r ≡ true) (same found.0 q found.2)
      (All-contains (λ r. is_accepting m.states r ≡ true) (final_states m) found.0
      (filter_passes (is_accepting m.states) (range_with_len 0 (length m.states))) found.1)
    where
      same : (x q : ℕ) → Final x ≡ Final q → x ≡ q
      same x q e = cc

  finals_have_no_edge : (p a r : ℕ) → Contains (map Final (final_states m)) (Edge p a r) → ⊥
  finals_have_no_edge p a r among = let found = Contains-map_cases Final (final_states m) (Edge p a r) among in no_edge found.0 found.2
    where
      no_edge : (q : ℕ) → Final q ≡ Edge p a r → ⊥
      no_edge q e = absurd cc

final_pairs : (states : List ℕ) (lines : List Line) → AllPairs AreNoTwoEdges lines → AllPairs AreNoTwoEdges (map Final states ++ lines)
final_pairs [] lines pairs = pairs
final_pairs (q ∷ states) lines pairs =
    AllPairs-cons AreNoTwoEdges (Final q) (map Final states ++ lines) (λ k d within. tt) (final_pairs states lines pairs)

-- the line is an edge of the automaton from this state
pub record IsEdgeFrom (m : Automaton) (p : ℕ) (line : Line) : Type 0 where
  pub letter : ℕ
  pub to : ℕ
  pub is : Edge p letter to ≡ line
  pub leads : target m p letter ≡ Some to

-- these lines leave each state: they are edges from it, all edges from it are among them, and no two have one letter
module _ (m : Automaton) (leaving : ℕ → List Line) (are : (p : ℕ) (line : Line) → Contains (leaving p) line → IsEdgeFrom m p line)
    (have : (p a r : ℕ) → target m p a ≡ Some r → Contains (leaving p) (Edge p a r)) (apart : (p : ℕ) → AllPairs AreNoTwoEdges (leaving p)) where
  abbrev edges : List Line
  edges = flat_map leaving (range_with_len 0 (length m.states))

  edges_have : (p a r : ℕ) → target m p a ≡ Some r → Contains edges (Edge p a r)
  edges_have p a r leads =
      pieces_have leaving 0 (length m.states) p (Edge p a r) (omega arith) (omega (arith, leads_within m p a r leads)) (have p a r leads)

  edges_are : (p a r : ℕ) → Contains edges (Edge p a r) → target m p a ≡ Some r
  edges_are p a r there =
      let piece = piece_of leaving 0 (length m.states) (Edge p a r) there in
      let edge = are piece.0 (Edge p a r) piece.3 in
      by piece.0 edge.letter edge.to edge.is edge.leads
    where
      by : (p' a' r' : ℕ) → Edge p' a' r' ≡ Edge p a r → target m p' a' ≡ Some r' → target m p a ≡ Some r
      by p' a' r' e leads =
          let state : p' ≡ p = cc in
          let letter : a' ≡ a = cc in
          let to : r' ≡ r = cc in
          ap (λ q. target m q a) (sym state) ∙ ap (target m p') (sym letter) ∙ leads ∙ ap Some to

  edges_have_no_final : (q : ℕ) → Contains edges (Final q) → ⊥
  edges_have_no_final q there =
      let piece = piece_of leaving 0 (length m.states) (Final q) there in
      let edge = are piece.0 (Final q) piece.3 in
      by piece.0 edge.letter edge.to edge.is
    where
      by : (p a r : ℕ) → Edge p a r ≡ Final q → ⊥
      by p a r e = absurd cc

  -- no two edges that are written have one source and one letter
  pub edges_apart : AllPairs AreNoTwoEdges (map Final (final_states m) ++ edges)
  edges_apart =
      final_pairs (final_states m) edges (pairs_of_pieces AreNoTwoEdges leaving 0 (length m.states) apart (λ p q less u v own other.
      let one = are p u own in
      let two = are q v other in
      subst (λ line. AreNoTwoEdges line v) one.is
      (subst (AreNoTwoEdges (Edge p one.letter one.to)) two.is (λ same_state same_letter. absurd (omega (arith, same_state, less))))))

  -- the automaton is that of the lines
  pub automaton_of_lines : IsValid m → IsAutomatonOf m.letters (length m.states) (map Final (final_states m) ++ edges) m
  automaton_of_lines valid =
      let finals = map Final (final_states m) in
      record {
        valid = valid;
        letters_are = refl;
        states_are = refl;
        final_lines = λ q. (
          λ accepts. Contains-append_left finals edges (Final q) (finals_have m q accepts),
          λ among. elim (Contains-append_cases finals edges (Final q) among) [
            | inl own ↦ finals_are m q own
            | inr edge ↦ absurd (edges_have_no_final q edge)
          ],
        );
        edge_lines = λ p a r. (
          λ leads. Contains-append_right finals edges (Edge p a r) (edges_have p a r leads),
          λ among. elim (Contains-append_cases finals edges (Edge p a r) among) [
            | inl final ↦ absurd (finals_have_no_edge m p a r final)
            | inr own ↦ edges_are p a r own
          ],
        );
      }

-- lines of version 1 say themselves
all_said_themselves : (size count : ℕ) (lines : List Line) → AllByRecursion (IsInRange One size count) lines → all_said One lines ≡ lines
all_said_themselves size count [] h = refl
all_said_themselves size count (Final q ∷ lines) h = ap (λ rest. Final q ∷ rest) (all_said_themselves size count lines h.1)
all_said_themselves size count (Edge p a q ∷ lines) h = ap (λ rest. Edge p a q ∷ rest) (all_said_themselves size count lines h.1)
all_said_themselves size count (Edges p q indices ∷ lines) h = absurd h.0.4

-- edges by increasing letters are apart
rising_apart : (p : ℕ) (edges : List (ℕ × ℕ)) → HasIncreasingLetters edges → AllPairs AreNoTwoEdges (lines_from p edges)
rising_apart p [] rising = λ i j d less within. absurd (omega arith)
rising_apart p (edge ∷ edges) rising =
    AllPairs-cons AreNoTwoEdges (Edge p edge.0 edge.1) (lines_from p edges)
    (All-map (AreNoTwoEdges (Edge p edge.0 edge.1)) (λ later. Edge p later.0 later.1) edges
    (λ k d within. λ same_state same_letter. omega (arith, same_letter, rising.0 k d within)))
    (rising_apart p edges rising.1)

-- the lines of version 1
module _ (m : Automaton) (valid : IsValid m) where
  from_in_range : (count letters p : ℕ) (edges : List (ℕ × ℕ)) → p < count → All (λ edge. edge.0 < letters) edges → All (λ edge. edge.1 < count) edges
      → AllByRecursion (IsInRange One letters count) (lines_from p edges)
  from_in_range count letters p [] state h k = tt
  from_in_range count letters p (edge ∷ edges) state h k = (
    (state, All-head (λ edge. edge.0 < letters) edge edges h, All-head (λ edge. edge.1 < count) edge edges k, tt),
    from_in_range count letters p edges state (All-tail (λ edge. edge.0 < letters) edge edges h) (All-tail (λ edge. edge.1 < count) edge edges k),
  )

  lines_in_range : AllByRecursion (IsInRange One m.letters (length m.states)) (written_lines m)
  lines_in_range =
      AllByRecursion-append (IsInRange One m.letters (length m.states)) (map Final (final_states m)) (edge_lines m) (finals_in_range m One m.letters)
      (pieces_all (λ p. lines_from p (edges_of m.states p)) (IsInRange One m.letters (length m.states)) 0 (length m.states) (λ p from.
      from_in_range (length m.states) m.letters p (edges_of m.states p) (omega (arith, from))
      (All-edges_of (All (λ edge. edge.0 < m.letters)) m.states (All-nil (λ (edge : ℕ × ℕ). edge.0 < m.letters)) valid.letters_in_range p)
      (All-edges_of (All (λ edge. edge.1 < length m.states)) m.states (All-nil (λ (edge : ℕ × ℕ). edge.1 < length m.states)) valid.targets_in_range p)))

  leaving_are : (p : ℕ) (line : Line) → Contains (lines_from p (edges_of m.states p)) line → IsEdgeFrom m p line
  leaving_are p line there =
      let found = Contains-map_cases (λ edge. Edge p edge.0 edge.1) (edges_of m.states p) line there in
      record {
        letter = found.0.0;
        to = found.0.1;
        is = found.2;
        leads = edge_found (edges_of m.states p) (ordered_edges m valid p) found.0.0 found.0.1 found.1;
      }

  leaving_have : (p a r : ℕ) → target m p a ≡ Some r → Contains (lines_from p (edges_of m.states p)) (Edge p a r)
  leaving_have p a r leads =
      Contains-map (λ edge. Edge p edge.0 edge.1) (edges_of m.states p) (a, r) (found_edge (edges_of m.states p) a r leads)

  leaving_apart : (p : ℕ) → AllPairs AreNoTwoEdges (lines_from p (edges_of m.states p))
  leaving_apart p = rising_apart p (edges_of m.states p) (ordered_edges m valid p)

  -- the text of an automaton means it
  pub written_means : (s : SystemData) → IsValidSystem s → m.letters ≡ automata_letters s → length m.states ≤ 1000000
      → MeansAutomaton s (written_text s m) m
  written_means s system letters limit =
      let leaving : ℕ → List Line = λ p. lines_from p (edges_of m.states p) in
      let in_range = subst (λ size. AllByRecursion (IsInRange One size (length m.states)) (written_lines m)) letters lines_in_range in
      let same = all_said_themselves (automata_letters s) (length m.states) (written_lines m) in_range in
      safe_text_means s system (length m.states) limit One (written_lines m) m
      (record { in_alphabet = All-nil (λ a. a < automata_letters s); distinct = λ i j d less within. absurd (omega arith) }) in_range
      (subst (AllPairs AreNoTwoEdges) (sym same) (edges_apart m leaving leaving_are leaving_have leaving_apart))
      (subst (λ lines. IsAutomatonOf (automata_letters s) (length m.states) lines m) (sym same)
      (subst (λ size. IsAutomatonOf size (length m.states) (written_lines m) m) letters
      (automaton_of_lines m leaving leaving_are leaving_have leaving_apart valid)))
