-- The text of an automaton is read as its lines, in both versions.
use Rattle.std.proofs.Common.{◌≡◌, ◌≢◌, ◌<◌, ◌≤◌, ◌==◌, ◌&&◌, ◌||◌, ℕ, Bool, true, false, List, [], ◌∷◌, ◌++◌, All, AllPairs, length, map, nat_lt, get_or, codes, decimal, flat_map, refl, sym, subst, ap, ◌∙◌, inl, inr, arith}
use Rattle.std.specs.List.{AllByRecursion, list_all, list_any, join_by}
use Rattle.std.proofs.lemmas.Bool.{and_from, and_parts, cases_Bool, cond-true, cond-false, eqb-true, le-ltb, lt-ltb, ne_eqb}
use Rattle.std.proofs.lemmas.Bool.Decides.{Decides-eqb}
use Rattle.std.proofs.lemmas.Fmt.{decimal_digit}
use Rattle.std.proofs.lemmas.List.{append_assoc, append-nil}
use Rattle.std.proofs.lemmas.List.Elements.{All-contains, All-head, All-tail, Contains-append_right}
use Rattle.std.proofs.lemmas.Map.Made.{IsDistinct-from_AllPairs}
use Rattle.std.proofs.lemmas.Map.Steps.{length-le_from_distinct_below}
use Rattle.std.proofs.lemmas.Map.Views.{Contains-from_any}
use Rattle.word_automata.specs.Automaton.{Automaton}
use Rattle.protocol_model.specs.System.{SystemData, IsValid}
use Rattle.protocol_model.specs.Words.{automata_letters}
use Rattle.sequence.proofs.ForCallers.{Lacks-append}
use Rattle.lines.specs.Bytes.{Lacks, BeginsOtherwise}
use Rattle.lines.specs.Grammar.{Line as Grammar, Says, SaysFields, cut, fields, number}
use Rattle.lines.specs.Document.{Leads, leads, HasAnswer, means}
use Rattle.lines.proofs.ForCallers.{Lacks-from_test, Leads-append, cut_says, decimal_lacks, ended_text_is, fields_say, means_read, number_says}
use Rattle.certificate.specs.declared.said.Kind.{Kind}
use Rattle.certificate.specs.declared.said.Kind.TheVariants.{Safe}
use Rattle.certificate.specs.declared.said.Place.{Place}
use Rattle.certificate.specs.declared.said.Place.TheVariants as At
use Rattle.certificate.specs.declared.said.Said.{Said}
use Rattle.certificate.specs.declared.said.Said.TheVariants as S
use Rattle.certificate.specs.Lines.{first_line, kind, states, state, body, named_edge, indexed_edges, line_at}
use Rattle.certificate.specs.SafeText.{Version, One, Two, Line, Final, Edge, Edges, letters_of, AreLettersOf, IsInRange, said_by, all_said, AreNoTwoEdges, HaveNoTwoEdges, IsAutomatonOf, MeansAutomaton, letter_line, line_text, title, states_line, safe_text}
use Rattle.certificate.specs.Words.{letter, letter_text}
use Rattle.certificate.specs.Stages.{Stage, beginning, certificate, effect, is_edge_of, is_run, with_edge, with_edges, follow}
use Rattle.certificate.proofs.ListFacts.{AllPairs-first, AllPairs-tail}
use Rattle.certificate.proofs.AlphabetLemmas.{letter_says, letter_text-no_space, letter_text-no_line_feed}

-- bytes with other heads
heads_differ : (a b : ℕ) (s t : List ℕ) → (a ≡ b → ⊥) → a ∷ s ≡ b ∷ t → ⊥
heads_differ a b s t differ e = differ (cc e)

second_differ : (c a b : ℕ) (s t : List ℕ) → (a ≡ b → ⊥) → c ∷ (a ∷ s) ≡ c ∷ (b ∷ t) → ⊥
second_differ c a b s t differ e = differ (cc e)

-- a first line
pub title_says : (n : ℕ) (k : Kind) (digit name : List ℕ) → n ≤ 3 → decimal n ≡ digit → Lacks 32 digit → Says kind name k
    → Says first_line (codes "armc " ++ (digit ++ 32 ∷ name)) (S.Title n k)
title_says n k digit name le is lacks says =
    let version = subst (λ bytes. Says (number 3) bytes n) is (number_says 3 n le (omega arith)) in
    ((n, k), inl (digit ++ 32 ∷ name, refl, cut_says 32 (number 3) kind digit name n k lacks version says), refl)

-- what stands between spaces
three_joined : (a b c : List ℕ) → a ++ codes " " ++ b ++ codes " " ++ c ≡ a ++ 32 ∷ (b ++ 32 ∷ c)
three_joined a b c = simp append_assoc

-- no element before one passes a test that those fail which are apart from it
none_before : {X : Type 0} (R : X → X → Type 0) (test : X → Bool) (before : List X) (x : X) (rest : List X) → AllPairs R (before ++ x ∷ rest)
    → ((y : X) → R y x → test y ≡ false) → list_any test before ≡ false
none_before R test [] x rest h fails = refl
none_before R test (y ∷ before) x rest h fails =
    let here = fails y (AllPairs-first R y x (before ++ x ∷ rest) h (Contains-append_right before (x ∷ rest) x (0, omega arith, refl))) in
    let later = none_before R test before x rest (AllPairs-tail R y (before ++ x ∷ rest) h) fails in
    λ i. here i || later i

-- no edge before an edge has its source and letter
no_earlier : (before : List Line) (p a q : ℕ) (rest : List Line) → AllPairs AreNoTwoEdges (before ++ Edge p a q ∷ rest)
    → list_any (is_edge_of p a) before ≡ false
no_earlier before p a q rest h = none_before AreNoTwoEdges (is_edge_of p a) before (Edge p a q) rest h is_other
  where
    is_other : (x : Line) → AreNoTwoEdges x (Edge p a q) → is_edge_of p a x ≡ false
    is_other (Final r) apart = refl
    is_other (Edges p' r indices) apart = refl
    is_other (Edge p' a' r) apart = elim (cases_Bool ((p' == p) && (a' == a))) [
      | inl same ↦
          let parts = and_parts (p' == p) (a' == a) same in
          absurd (apart (eqb-true p' p parts.0) (eqb-true a' a parts.1))
      | inr other ↦ other
    ]

-- where the next line stands in an automaton's lines of states and edges, and what was read
abbrev place_of : Version → Place
place_of One = At.NamedEdges
place_of (Two letters) = At.IndexedEdges

abbrev at_lines : Version → ℕ → List Line → Stage
at_lines v count lines =
    record { place = place_of v; letters = letters_of v; count = count; lines = lines; first = record { lists = [] }; steps = [] }

-- what a line says
abbrev said : Line → Said
said (Final q) = S.Final q
said (Edge p a q) = S.Edge p a q
said (Edges p q indices) = S.Edges p q indices

module _ (s : SystemData) (valid : IsValid s) (count : ℕ) (few : count ≤ 1000000) where
  abbrev size : ℕ
  size = automata_letters s

  -- there are at most as many letters as the system has
  letters_few : (letters : List ℕ) → AreLettersOf s letters → length letters ≤ 257
  letters_few letters h =
      let bounded = length-le_from_distinct_below letters size (IsDistinct-from_AllPairs Decides-eqb letters h.distinct)
      (λ q among. All-contains (λ a. a < size) letters q h.in_alphabet (Contains-from_any eqb-true q letters among)) in
      omega (arith, bounded, valid.limits.letters_limit)

  state_says : (n : ℕ) → n ≤ 1000000 → Says state (decimal n) n
  state_says n le = number_says 1000000 n le (omega arith)

  small_lacks : (byte n : ℕ) → byte < 48 → n ≤ 1000000 → Lacks byte (decimal n)
  small_lacks byte n low le = decimal_lacks byte n low (omega arith)

  no_edge : (bytes : List ℕ) → BeginsOtherwise (codes "edge ") (codes "final " ++ bytes)
  no_edge bytes rest e = heads_differ 102 101 _ _ (omega arith) e

  final_says : (edge : Grammar Said) (q : ℕ) → q < count → Says (body edge) (line_text s (Final q)) (S.Final q)
  final_says edge q less = inr (no_edge (decimal q), inl (decimal q, refl, (q, state_says q (omega (arith, less)), refl)))

  edge_says : (p a q : ℕ) → p < count → a < size → q < count → Says (body (named_edge s)) (line_text s (Edge p a q)) (S.Edge p a q)
  edge_says p a q from is to =
      let name = letter_text s.sections a in
      let last : List ℕ = name ++ 32 ∷ decimal q in
      let rest : List ℕ = decimal p ++ 32 ∷ last in
      let fields = cut_says 32 state (cut 32 (letter s) state) (decimal p) last p (a, q) (small_lacks 32 p (omega arith) (omega (arith, from)))
      (state_says p (omega (arith, from)))
      (cut_says 32 (letter s) state name (decimal q) a q (letter_text-no_space s valid a is) (letter_says s valid a is) (state_says q (omega (arith, to)))) in
      subst (λ line. Says (body (named_edge s)) line (S.Edge p a q)) (sym (ap (λ bytes. codes "edge " ++ bytes) (three_joined (decimal p) name (decimal q))))
      (inl (rest, refl, ((p, (a, q)), fields, refl)))

  module _ (bound : ℕ) (low : bound ≤ 257) where
    within_limit : (i : ℕ) → i < bound → i ≤ 1000000
    within_limit i less = omega (arith, less, low)

    indices_say : (i : ℕ) (indices : List ℕ) → All (λ j. j < bound) (i ∷ indices)
        → SaysFields 32 (Says state) (join_by decimal (codes " ") (i ∷ indices)) (i ∷ indices)
    indices_say i indices h = fields_say 32 (Says state) decimal i indices (each (i ∷ indices) h)
      where
        each : (indices : List ℕ) → All (λ j. j < bound) indices
            → AllByRecursion (λ j. Lacks 32 (decimal j) × Says state (decimal j) j) indices
        each [] h = tt
        each (j ∷ indices) h =
            let le = within_limit j (All-head (λ j. j < bound) j indices h) in
            ((small_lacks 32 j (omega arith) le, state_says j le), each indices (All-tail (λ j. j < bound) j indices h))

    edges_say : (p q i : ℕ) (indices : List ℕ) → p < count → q < count → All (λ j. j < bound) (i ∷ indices)
        → Says (body indexed_edges) (line_text s (Edges p q (i ∷ indices))) (S.Edges p q (i ∷ indices))
    edges_say p q i indices from to h =
        let numbers : List ℕ = join_by decimal (codes " ") (i ∷ indices) in
        let last : List ℕ = decimal q ++ 32 ∷ numbers in
        let rest : List ℕ = decimal p ++ 32 ∷ last in
        let fields = cut_says 32 state (cut 32 state (fields 32 state)) (decimal p) last p (q, i ∷ indices)
        (small_lacks 32 p (omega arith) (omega (arith, from))) (state_says p (omega (arith, from)))
        (cut_says 32 state (fields 32 state) (decimal q) numbers q (i ∷ indices) (small_lacks 32 q (omega arith) (omega (arith, to)))
        (state_says q (omega (arith, to))) (indices_say i indices h)) in
        subst (λ line. Says (body indexed_edges) line (S.Edges p q (i ∷ indices)))
        (sym (ap (λ bytes. codes "edge " ++ bytes) (three_joined (decimal p) (decimal q) numbers)))
        (inl (rest, refl, ((p, (q, i ∷ indices)), fields, refl)))

  end_says : (edge : Grammar Said) → Says (body edge) (codes "end") S.End
  end_says edge =
      inr (λ rest e. second_differ 101 110 100 _ _ (omega arith) e, inr (λ rest e. heads_differ 101 102 _ _ (omega arith) e, (tt, inl (refl, refl), refl)))

  line_says : (v : Version) (x : Line) → length (letters_of v) ≤ 257 → IsInRange v size count x
      → Says (line_at s (place_of v)) (line_text s x) (said x)
  line_says One (Final q) low h = final_says (named_edge s) q h
  line_says One (Edge p a q) low h = edge_says p a q h.0 h.1 h.2
  line_says One (Edges p q indices) low h = absurd h.4
  line_says (Two letters) (Final q) low h = final_says indexed_edges q h
  line_says (Two letters) (Edge p a q) low h = absurd h.3
  line_says (Two letters) (Edges p q []) low h = absurd (let none = h.3 in omega (arith, none))
  line_says (Two letters) (Edges p q (i ∷ indices)) low h = edges_say (length letters) low p q i indices h.0 h.1 h.2

  -- no line has a line feed
  between_lacks : (a b c : List ℕ) → Lacks 10 a → Lacks 10 b → Lacks 10 c → Lacks 10 (codes "edge " ++ a ++ codes " " ++ b ++ codes " " ++ c)
  between_lacks a b c la lb lc =
      subst (λ bytes. Lacks 10 (codes "edge " ++ bytes)) (sym (three_joined a b c))
      (Lacks-append 10 (codes "edge ") (a ++ 32 ∷ (b ++ 32 ∷ c)) (Lacks-from_test 10 (codes "edge ") refl)
      (Lacks-append 10 a (32 ∷ (b ++ 32 ∷ c)) la (omega arith, Lacks-append 10 b (32 ∷ c) lb (omega arith, lc))))

  later_lack : (bound : ℕ) → bound ≤ 257 → (indices : List ℕ) → All (λ j. j < bound) indices
      → Lacks 10 (flat_map (λ n. codes " " ++ decimal n) indices)
  later_lack bound low [] h = tt
  later_lack bound low (i ∷ indices) h = (
    omega arith,
    Lacks-append 10 (decimal i) (flat_map (λ n. codes " " ++ decimal n) indices)
        (small_lacks 10 i (omega arith) (within_limit bound low i (All-head (λ j. j < bound) i indices h)))
        (later_lack bound low indices (All-tail (λ j. j < bound) i indices h)),
  )

  line_lacks : (v : Version) (x : Line) → length (letters_of v) ≤ 257 → IsInRange v size count x → Lacks 10 (line_text s x)
  line_lacks v (Final q) low h =
      Lacks-append 10 (codes "final ") (decimal q) (Lacks-from_test 10 (codes "final ") refl) (small_lacks 10 q (omega arith) (omega (arith, h)))
  line_lacks v (Edge p a q) low h =
      between_lacks (decimal p) (letter_text s.sections a) (decimal q) (small_lacks 10 p (omega arith) (let l = h.0 in omega (arith, l)))
      (letter_text-no_line_feed s valid a h.1) (small_lacks 10 q (omega arith) (let l = h.2 in omega (arith, l)))
  line_lacks v (Edges p q []) low h = absurd (let none = h.3 in omega (arith, none))
  line_lacks v (Edges p q (i ∷ indices)) low h =
      between_lacks (decimal p) (decimal q) (join_by decimal (codes " ") (i ∷ indices)) (small_lacks 10 p (omega arith) (let l = h.0 in omega (arith, l)))
      (small_lacks 10 q (omega arith) (let l = h.1 in omega (arith, l)))
      (later_lack_first (length (letters_of v)) low i indices h.2)
    where
      later_lack_first : (bound : ℕ) → bound ≤ 257 → (i : ℕ) (indices : List ℕ) → All (λ j. j < bound) (i ∷ indices)
          → Lacks 10 (join_by decimal (codes " ") (i ∷ indices))
      later_lack_first bound low i indices h =
          Lacks-append 10 (decimal i) (flat_map (λ n. codes " " ++ decimal n) indices)
          (small_lacks 10 i (omega arith) (within_limit bound low i (All-head (λ j. j < bound) i indices h)))
          (later_lack bound low indices (All-tail (λ j. j < bound) i indices h))

  -- what the lines do
  edge_leads : (v : Version) (before : List Line) (p a q : ℕ) → p < count → a < size → q < count → list_any (is_edge_of p a) before ≡ false
      → with_edge s (at_lines v count before) p a q ≡ leads (at_lines v count (before ++ Edge p a q ∷ []))
  edge_leads v before p a q from is to fresh =
      cond-true _ _ _ (lt-ltb a size is) ∙ cond-true _ _ _ (and_from _ _ (lt-ltb p count from) (lt-ltb q count to)) ∙ cond-false _ _ _ fresh

  module _ (v : Version) (letters : AreLettersOf s (letters_of v)) where
    edges_lead : (before : List Line) (p q : ℕ) (indices : List ℕ) (rest : List Line) → p < count → q < count
        → All (λ i. i < length (letters_of v)) indices → AllPairs AreNoTwoEdges (before ++ (said_by v (Edges p q indices) ++ rest))
        → with_edges s (at_lines v count before) p q indices ≡ leads (at_lines v count (before ++ said_by v (Edges p q indices)))
    edges_lead before p q [] rest from to h apart = ap (λ lines. leads (at_lines v count lines)) (sym (append-nil before))
    edges_lead before p q (i ∷ indices) rest from to h apart =
        let a = get_or (letters_of v) i 0 in
        let is : a < size = letters.in_alphabet i 0 (All-head (λ j. j < length (letters_of v)) i indices h) in
        let more = said_by v (Edges p q indices) in
        let here = edge_leads v before p a q from is to (no_earlier before p a q (more ++ rest) apart) in
        ap (λ e. follow e (λ u. with_edges s u p q indices)) here
        ∙ edges_lead (before ++ Edge p a q ∷ []) p q indices rest from to (All-tail (λ j. j < length (letters_of v)) i indices h)
        (subst (AllPairs AreNoTwoEdges) (sym (append_assoc before (Edge p a q ∷ []) (more ++ rest))) apart)
        ∙ ap (λ lines. leads (at_lines v count lines)) (append_assoc before (Edge p a q ∷ []) more)

    line_leads : (before : List Line) (x : Line) (rest : List Line) → IsInRange v size count x
        → AllPairs AreNoTwoEdges (before ++ (said_by v x ++ rest))
        → effect s (at_lines v count before) (said x) ≡ leads (at_lines v count (before ++ said_by v x))
    line_leads before (Final q) rest h apart = cond-true _ _ _ (lt-ltb q count h)
    line_leads before (Edge p a q) rest h apart = edge_leads v before p a q h.0 h.1 h.2 (no_earlier before p a q rest apart)
    line_leads before (Edges p q indices) rest h apart =
        cond-true _ _ _ (and_from _ _ (and_from _ _ (lt-ltb p count h.0) (lt-ltb q count h.1)) (all_below indices h.2))
        ∙ edges_lead before p q indices rest h.0 h.1 h.2 apart
      where
        all_below : (indices : List ℕ) → All (λ i. i < length (letters_of v)) indices → list_all (λ i. nat_lt i (length (letters_of v))) indices ≡ true
        all_below [] h = refl
        all_below (i ∷ indices) h =
            and_from _ _ (lt-ltb i (length (letters_of v)) (All-head (λ j. j < length (letters_of v)) i indices h))
            (all_below indices (All-tail (λ j. j < length (letters_of v)) i indices h))

    lines_lead : (before lines : List Line) → AllByRecursion (IsInRange v size count) lines → AllPairs AreNoTwoEdges (before ++ all_said v lines)
        → Leads (certificate s) (at_lines v count before) (map (line_text s) lines) (at_lines v count (before ++ all_said v lines))
    lines_lead before [] h apart = ap (at_lines v count) (append-nil before)
    lines_lead before (x ∷ lines) h apart =
        let low = letters_few (letters_of v) letters in (
          said x,
          at_lines v count (before ++ said_by v x),
          line_lacks v x low h.0,
          line_says v x low h.0,
          line_leads before x (all_said v lines) h.0 apart,
          subst (λ all. Leads (certificate s) (at_lines v count (before ++ said_by v x)) (map (line_text s) lines) (at_lines v count all))
              (append_assoc before (said_by v x) (all_said v lines))
              (lines_lead (before ++ said_by v x) lines h.1
              (subst (AllPairs AreNoTwoEdges) (sym (append_assoc before (said_by v x) (all_said v lines))) apart)),
        )

  -- the lines up to the number of states
  states_say : Says states (states_line count) (S.States count)
  states_say = inl (decimal count, refl, (count, number_says 1000001 count (omega (arith, few)) (omega arith), refl))

  states_lack : Lacks 10 (states_line count)
  states_lack =
      Lacks-append 10 (codes "states ") (decimal count) (Lacks-from_test 10 (codes "states ") refl) (small_lacks 10 count (omega arith) few)

  abbrev at_letters : List ℕ → Stage
  at_letters letters = record beginning { place = At.Letters; letters = letters }

  letters_lead : (before letters : List ℕ) → All (λ a. a < size) letters → AllPairs ◌≢◌ (before ++ letters)
      → Leads (certificate s) (at_letters before) (map (letter_line s) letters) (at_letters (before ++ letters))
  letters_lead before [] h apart = ap at_letters (append-nil before)
  letters_lead before (a ∷ letters) h apart =
      let is = All-head (λ b. b < size) a letters h in (
        S.Letter a,
        at_letters (before ++ a ∷ []),
        Lacks-append 10 (codes "letter ") (letter_text s.sections a) (Lacks-from_test 10 (codes "letter ") refl) (letter_text-no_line_feed s valid a is),
        inl (letter_text s.sections a, refl, (a, letter_says s valid a is, refl)),
        cond-true _ _ _ (lt-ltb a size is)
            ∙ cond-false _ _ _ (none_before ◌≢◌ (λ b. b == a) before a letters apart (λ b other. ne_eqb b a other)),
        subst (λ all. Leads (certificate s) (at_letters (before ++ a ∷ [])) (map (letter_line s) letters) (at_letters all))
            (append_assoc before (a ∷ []) letters)
            (letters_lead (before ++ a ∷ []) letters (All-tail (λ b. b < size) a letters h)
            (subst (AllPairs ◌≢◌) (sym (append_assoc before (a ∷ []) letters)) apart)),
      )

  abbrev all_lines : Version → List Line → List (List ℕ)
  all_lines v lines = title v ∷ (map (letter_line s) (letters_of v) ++ states_line count ∷ map (line_text s) lines)

  all_lead : (v : Version) (lines : List Line) → AreLettersOf s (letters_of v) → AllByRecursion (IsInRange v size count) lines
      → HaveNoTwoEdges v lines → Leads (certificate s) beginning (all_lines v lines) (at_lines v count (all_said v lines))
  all_lead One lines letters h apart = (
    S.Title 1 Safe,
    record beginning { place = At.States },
    Lacks-from_test 10 (codes "armc 1 safe") refl,
    title_says 1 Safe (codes "1") (codes "safe") (omega arith) (decimal_digit 1 (omega arith)) (Lacks-from_test 32 (codes "1") refl) (inl (refl, refl)),
    refl,
    (
      S.States count,
      at_lines One count [],
      states_lack,
      states_say,
      cond-false _ _ _ (le-ltb 1000000 count few),
      lines_lead One letters [] lines h apart,
    ),
  )
  all_lead (Two letters) lines named h apart = (
    S.Title 2 Safe,
    at_letters [],
    Lacks-from_test 10 (codes "armc 2 safe") refl,
    title_says 2 Safe (codes "2") (codes "safe") (omega arith) (decimal_digit 2 (omega arith)) (Lacks-from_test 32 (codes "2") refl) (inl (refl, refl)),
    refl,
    Leads-append (certificate s) (at_letters []) (at_letters letters) (at_lines (Two letters) count (all_said (Two letters) lines))
        (map (letter_line s) letters) (states_line count ∷ map (line_text s) lines) (letters_lead [] letters named.in_alphabet named.distinct) (
          S.States count,
          at_lines (Two letters) count [],
          states_lack,
          inr ((λ rest e. heads_differ 115 108 _ _ (omega arith) e), states_say),
          cond-false _ _ _ (le-ltb 1000000 count few),
          lines_lead (Two letters) named [] lines h apart,
        ),
  )

  body_ends : (v : Version) → Says (line_at s (place_of v)) (codes "end") S.End
  body_ends One = end_says (named_edge s)
  body_ends (Two letters) = end_says indexed_edges

  no_run : (v : Version) → is_run (place_of v) ≡ false
  no_run One = refl
  no_run (Two letters) = refl

  -- the text of an automaton's lines means the automaton
  pub safe_text_means : (v : Version) (lines : List Line) (m : Automaton) → AreLettersOf s (letters_of v)
      → AllByRecursion (IsInRange v size count) lines → HaveNoTwoEdges v lines → IsAutomatonOf size count (all_said v lines) m
      → MeansAutomaton s (safe_text v s count lines) m
  safe_text_means v lines m letters h apart automaton =
      let read = at_lines v count (all_said v lines) in
      let rest : List (List ℕ) = states_line count ∷ map (line_text s) lines in
      let whole = ap (λ more. flat_map (λ line. line ++ 10 ∷ []) (title v ∷ more)) (sym (append_assoc (map (letter_line s) (letters_of v)) rest (codes "end" ∷ [])))
      ∙ ended_text_is (all_lines v lines) (codes "end") in
      record {
        read = read;
        is_read = subst (λ text. HasAnswer (certificate s) text (means read)) (sym whole)
            (means_read (certificate s) (all_lines v lines) read (codes "end") S.End (all_lead v lines letters h apart)
            (Lacks-from_test 10 (codes "end") refl) (body_ends v) refl);
        no_run = no_run v;
        limit = few;
        automaton = automaton;
      }
