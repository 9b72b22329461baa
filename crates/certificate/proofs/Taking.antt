-- What a line does, and how what was read is kept after it.
use Rattle.std.proofs.Common.{Bool, None, ◌≡◌, ◌==◌, ◌<◌, ◌≤◌, ◌&&◌, ℕ, true, false, true≢false, IsTrue, List, [], ◌∷◌, ◌++◌, nat_lt, length, get_or, drop, cond, ◌+◌, add-one, refl, sym, subst, ap, ◌∙◌, arith}
use Rattle.std.specs.List.{AllByRecursion, list_any, list_all}
use Rattle.std.proofs.lemmas.Bool.{lt-ltb, le-ltb, ltb-true, cond-true, cond-false, and_from, and_parts}
use Rattle.std.proofs.lemmas.List.{nil_from_length, length-drop}
use Rattle.std.proofs.Math.Seq.{drop-cons}
use Rattle.lines.specs.Document.{Effect, leads, ends, wrong}
use Rattle.lines.specs.Reading.{HasEffect}
use Rattle.lines.specs.declared.text.Next.{Next}
use Rattle.lines.specs.declared.text.Next.TheVariants.{More, End, Fails}
use Rattle.certificate.specs.declared.reading.Reading.{Reading}
use Rattle.certificate.specs.declared.said.Kind.{Kind}
use Rattle.certificate.specs.AutomatonLines.{Line}
use Rattle.certificate.specs.AutomatonLines as L
use Rattle.certificate.specs.declared.said.Place.{Place}
use Rattle.certificate.specs.declared.said.Place.TheVariants as At
use Rattle.protocol_model.specs.declared.system.Configuration.{Configuration}
use Rattle.protocol_model.specs.System.{SystemData}
use Rattle.protocol_model.specs.Patterns.{fits}
use Rattle.protocol_model.specs.Words.{automata_letters}
use Rattle.certificate.specs.declared.said.Said.TheVariants as S
use Rattle.certificate.specs.declared.said.What.{What}
use Rattle.certificate.specs.declared.said.What.TheVariants.{UnknownName, TwoLetters, TwoEdges, OutOfRange}
use Rattle.certificate.specs.RunText.{IsStepOf}
use Rattle.certificate.specs.Stages.{Stage, effect, is_run, after_states, titled, then_at, with_line, with_edge, with_edges, follow, is_edge_of}
use Rattle.certificate.specs.private.Kept.{HasLines, IsKept}
use Rattle.certificate.proofs.ListFacts.{AllByRecursion-append}
use Rattle.certificate.proofs.Building.{HasLines-final, HasLines-edge, in_range, no_second, second}
use Rattle.word_automata.specs.Automaton.{Automaton, target}
use Rattle.word_automata.specs.Building.{AddsEdge, MakesAccepting, IsEdgeInRange, IsSecondEdge}

states_no_run : (place : Place) → is_run (after_states place) ≡ false
states_no_run At.Letters = refl
states_no_run place = refl

module _ (system : SystemData) (s : Stage) (old : Reading) (kept : IsKept system s old) where
  abbrev size : ℕ
  size = automata_letters system

  -- what was read is kept part by part
  keeps : (t : Stage) (new : Reading) → new.place ≡ t.place → new.letters.items ≡ t.letters → HasLines size t.count t.lines new.builder
      → t.count ≤ 1000000 → new.first ≡ t.first → new.steps.items ≡ t.steps → (is_run t.place ≡ true → IsTrue (fits system t.first))
      → AllByRecursion (IsStepOf system) t.steps → IsKept system t new
  keeps t new place letters built few first steps first_fit steps_fit = record {
    place_is = place;
    letters_are = letters;
    built = built;
    few = few;
    first_is = first;
    steps_are = steps;
    first_fits = first_fit;
    steps_fit = steps_fit;
  }

  keeps_lines : (lines : List Line) (m : Automaton) → HasLines size s.count lines m
      → IsKept system (record s { lines = lines }) (record old { builder = m })
  keeps_lines lines m built =
      keeps (record s { lines = lines }) (record old { builder = m }) kept.place_is kept.letters_are built kept.few kept.first_is kept.steps_are
      kept.first_fits kept.steps_fit

  no_run : (place : Place) → is_run place ≡ false → is_run place ≡ true → IsTrue (fits system s.first)
  no_run place not run = absurd (true≢false (sym run ∙ not))

  pub takes_final : (q : ℕ) (m : Automaton) → q < length old.builder.states → MakesAccepting old.builder m q
      → HasEffect (IsKept system) (effect system s (S.Final q)) s (record old { builder = m }) More
  takes_final q m less made = (
    with_line s (L.Final q),
    cond-true _ _ _ (lt-ltb q s.count (subst (λ n. q < n) kept.built.states_are less)),
    keeps_lines (s.lines ++ L.Final q ∷ []) m (HasLines-final size s.count s.lines old.builder m kept.built q made),
  )

  pub takes_states : (n : ℕ) (place : Place) (m : Automaton) → n ≤ 1000000 → HasLines size n [] m → place ≡ after_states old.place
      → HasEffect (IsKept system) (effect system s (S.States n)) s (record old { place = place; builder = m }) More
  takes_states n place m few built is =
      let t : Stage = record s { place = after_states s.place; count = n; lines = [] } in (
        t,
        cond-false _ _ _ (le-ltb 1000000 n few),
        keeps t (record old { place = place; builder = m }) (is ∙ ap after_states kept.place_is) kept.letters_are built few kept.first_is kept.steps_are
            (no_run (after_states s.place) (states_no_run s.place)) kept.steps_fit,
      )

  pub takes_edge : (p a q : ℕ) (m : Automaton) → AddsEdge old.builder m p a q → IsEdgeInRange old.builder p a q → target old.builder p a ≡ None
      → HasEffect (IsKept system) (with_edge system s p a q) s (record old { builder = m }) More
  takes_edge p a q m added range none = (
    with_line s (L.Edge p a q),
    cond-true _ _ _ (lt-ltb a size (omega (arith, range.in_alphabet, kept.built.letters_are)))
        ∙ cond-true _ _ _ (in_range size s.count s.lines old.builder kept.built p a q range)
        ∙ cond-false _ _ _ (no_second size s.count s.lines old.builder kept.built p a none),
    keeps_lines (s.lines ++ L.Edge p a q ∷ []) m (HasLines-edge size s.count s.lines old.builder m kept.built p a q none added),
  )

  pub second_edge : (p a q : ℕ) → IsSecondEdge old.builder p a q → with_edge system s p a q ≡ wrong TwoEdges
  second_edge p a q is =
      cond-true _ _ _ (lt-ltb a size (omega (arith, is.0.in_alphabet, kept.built.letters_are)))
      ∙ cond-true _ _ _ (in_range size s.count s.lines old.builder kept.built p a q is.0)
      ∙ cond-true _ _ _ (second size s.count s.lines old.builder kept.built p a is.1)

  pub takes_title : (n : ℕ) (k : Kind) (at : Place) → titled n k ≡ leads at → is_run at ≡ false
      → HasEffect (IsKept system) (effect system s (S.Title n k)) s (record old { place = at }) More
  takes_title n k at is not =
      let t : Stage = record s { place = at } in (
        t,
        ap (then_at s) is,
        keeps t (record old { place = at }) refl kept.letters_are kept.built kept.few kept.first_is kept.steps_are (no_run at not) kept.steps_fit,
      )

  pub takes_start : (c : Configuration) → fits system c ≡ true
      → HasEffect (IsKept system) (effect system s (S.Start c)) s (record old { place = At.Steps; first = c }) More
  takes_start c fit =
      let t : Stage = record s { place = At.Steps; first = c } in (
        t,
        cond-true _ _ _ fit,
        keeps t (record old { place = At.Steps; first = c }) refl kept.letters_are kept.built kept.few refl kept.steps_are (λ run. fit) kept.steps_fit,
      )

  pub takes_step : (r : ℕ) (c : Configuration) (new : Reading) → (nat_lt r (length system.rules) && fits system c) ≡ true
      → new ≡ record old { steps = new.steps } → new.steps.items ≡ old.steps.items ++ (r, c) ∷ []
      → HasEffect (IsKept system) (effect system s (S.Step r c)) s new More
  takes_step r c new fit same steps =
      let t : Stage = record s { steps = s.steps ++ (r, c) ∷ [] } in
      let parts = and_parts (nat_lt r (length system.rules)) (fits system c) fit in (
        t,
        cond-true _ _ _ fit,
        subst (IsKept system t) (sym same)
            (keeps t (record old { steps = new.steps }) kept.place_is kept.letters_are kept.built kept.few kept.first_is
            (steps ∙ ap (λ before. before ++ (r, c) ∷ []) kept.steps_are) kept.first_fits
            (AllByRecursion-append (IsStepOf system) s.steps ((r, c) ∷ []) kept.steps_fit ((ltb-true r _ parts.0, parts.1), tt))),
      )

  pub takes_letter : (a : ℕ) (new : Reading) → a < size → list_any (λ b. b == a) old.letters.items ≡ false
      → new ≡ record old { letters = new.letters } → new.letters.items ≡ old.letters.items ++ a ∷ []
      → HasEffect (IsKept system) (effect system s (S.Letter a)) s new More
  takes_letter a new less fresh same letters =
      let t : Stage = record s { letters = s.letters ++ a ∷ [] } in (
        t,
        cond-true _ _ _ (lt-ltb a size less)
            ∙ cond-false _ _ _ (subst (λ before. list_any (λ b. b == a) before ≡ false) kept.letters_are fresh),
        subst (IsKept system t) (sym same)
            (keeps t (record old { letters = new.letters }) kept.place_is (letters ∙ ap (λ before. before ++ a ∷ []) kept.letters_are) kept.built kept.few
            kept.first_is kept.steps_are kept.first_fits kept.steps_fit),
      )

  pub second_letter : (a : ℕ) → a < size → list_any (λ b. b == a) old.letters.items ≡ true → effect system s (S.Letter a) ≡ wrong TwoLetters
  second_letter a less there =
      cond-true _ _ _ (lt-ltb a size less)
      ∙ cond-true _ _ _ (subst (λ before. list_any (λ b. b == a) before ≡ true) kept.letters_are there)

  -- all are in range
  pub edges_in_range : (p q : ℕ) (indices : List ℕ) → p < length old.builder.states → q < length old.builder.states
      → list_all (λ i. nat_lt i (length old.letters.items)) indices ≡ true → effect system s (S.Edges p q indices) ≡ with_edges system s p q indices
  edges_in_range p q indices from to all =
      cond-true _ _ _
      (and_from _ _ (and_from _ _ (lt-ltb p s.count (omega (arith, from, kept.built.states_are))) (lt-ltb q s.count (omega (arith, to, kept.built.states_are))))
      (subst (λ letters. list_all (λ i. nat_lt i (length letters)) indices ≡ true) kept.letters_are all))

-- so many of the edges were added so far, and what is left does what all do
abbrev pub AddsSoFar : (system : SystemData) (initial now : Reading) (p q : ℕ) (indices left : List ℕ) → Type 0
AddsSoFar system initial now p q indices left =
    (s : Stage) → IsKept system s initial → (t : Stage) × IsKept system t now × (with_edges system s p q indices ≡ with_edges system t p q left)

never_ends : (system : SystemData) (s : Stage) (p a q : ℕ) → with_edge system s p a q ≡ ends → ⊥
never_ends system s p a q e =
    by (nat_lt a (automata_letters system)) (nat_lt p s.count && nat_lt q s.count) (list_any (is_edge_of p a) s.lines) (with_line s (L.Edge p a q)) e
  where
    by : (b c d : Bool) (t : Stage) → cond b (cond c (cond d (wrong TwoEdges) (leads t)) (wrong OutOfRange)) (wrong UnknownName)
        ≡ (let e : Effect Stage What = ends in e) → ⊥
    by true true true t e = cc
    by true true false t e = cc
    by true false d t e = cc
    by false c d t e = cc

module _ (system : SystemData) (initial now new : Reading) (p q : ℕ) (indices : List ℕ) (i : ℕ) (within : i < length indices)
    (so_far : AddsSoFar system initial now p q indices (drop i indices)) (a : ℕ) (is : get_or now.letters.items (get_or indices i 0) 0 ≡ a) where
  next : (t : Stage) → IsKept system t now
      → with_edges system t p q (drop i indices) ≡ follow (with_edge system t p a q) (λ u. with_edges system u p q (drop (i + 1) indices))
  next t kept =
      let letter : get_or t.letters (get_or indices i 0) 0 ≡ a =
      ap (λ (letters : List ℕ). get_or letters (get_or indices i 0) 0) (sym kept.letters_are) ∙ is in
      let front : drop i indices ≡ get_or indices i 0 ∷ drop (i + 1) indices = rw add-one (drop-cons indices i 0 within) in
      ap (with_edges system t p q) front ∙ ap (λ b. follow (with_edge system t p b q) (λ u. with_edges system u p q (drop (i + 1) indices))) letter

  pub adds_more : ((t : Stage) → IsKept system t now → HasEffect (IsKept system) (with_edge system t p a q) t new More)
      → AddsSoFar system initial new p q indices (drop (i + 1) indices)
  adds_more added = λ s kept.
      let before = so_far s kept in
      let after = added before.0 before.1 in
      (after.0, after.2, before.2 ∙ next before.0 before.1 ∙ ap (λ e. follow e (λ u. with_edges system u p q (drop (i + 1) indices))) after.1)

  pub adds_no_more : (other : Next What) → (other ≡ More → ⊥)
      → ((t : Stage) → IsKept system t now → HasEffect (IsKept system) (with_edge system t p a q) t new other)
      → (s : Stage) → IsKept system s initial → HasEffect (IsKept system) (with_edges system s p q indices) s new other
  adds_no_more More not stopped = absurd (not refl)
  adds_no_more End not stopped = λ s kept.
      let before = so_far s kept in absurd (never_ends system before.0 p a q (stopped before.0 before.1).0)
  adds_no_more (Fails w) not stopped = λ s kept.
      let before = so_far s kept in
      before.2 ∙ next before.0 before.1
      ∙ ap (λ e. follow e (λ u. with_edges system u p q (drop (i + 1) indices))) (stopped before.0 before.1)

pub adds_all : (system : SystemData) (initial now : Reading) (p q : ℕ) (indices : List ℕ) (i : ℕ) → length indices ≤ i
    → AddsSoFar system initial now p q indices (drop i indices) → (s : Stage) → IsKept system s initial
    → HasEffect (IsKept system) (with_edges system s p q indices) s now More
adds_all system initial now p q indices i past so_far s kept =
    let all = so_far s kept in
    (all.0, all.2 ∙ ap (with_edges system all.0 p q) (nil_from_length (drop i indices) (omega (arith, length-drop i indices))), all.1)
