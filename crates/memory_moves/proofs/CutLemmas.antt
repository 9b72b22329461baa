-- What transducers relate that take one letter out of a list.
use Rattle.std.proofs.Common.{◌≡◌, ◌==◌, ℕ, ◌+◌, ◌<◌, ◌≤◌, true, false, List, [], ◌∷◌, ◌++◌, Contains, refl, sym, ap, ◌∙◌, subst, inl, inr, arith, All, true≢false, IsTrue, eq-eqb, eqb-true, get_or}
use Rattle.std.proofs.lemmas.List.{append-nil, map-append}
use Rattle.std.proofs.lemmas.List.Elements.{All-nil, All-cons, All-append, All-contains, All-from_recursion, All-map, Contains-append_right}
use Rattle.std.proofs.lemmas.List.Folds.{list_any_at}
use Rattle.std.proofs.lemmas.Map.Views.{Contains-from_any}
use Rattle.word_automata.specs.Path.{Node, edges_of, spelled_one}
use Rattle.word_automata.proofs.ForCallers.{Contains-map, Contains-map_cases}
use Rattle.transducers.specs.declared.Label.{Label}
use Rattle.transducers.specs.Transducer.{Transducer, IsEdge, IsValid, Relates, RelatesFrom}
use Rattle.transducers.specs.Combination.{copy_edges}
use Rattle.transducers.proofs.ForCallers.{edges_of-at, is_accepting-at, IsEdge-copies, Contains-single, nothing_in_nil}
use Rattle.protocol_model.specs.System.{AllBelow}
use Rattle.protocol_model.specs.Words.{raised}
use Rattle.protocol_model.specs.Moves.{is_in, IsLoss}
use Rattle.protocol_model.specs.Raised.{IsRaisedMove}
use Rattle.protocol_model.proofs.ForCallers.{AllBelow-left, AllBelow-right, AllBelow-append}
use Rattle.memory_moves.specs.private.Machine.{reading, cut_edges, cutting_states}
use Rattle.memory_moves.proofs.RunLemmas.{ending_run, longer_run}
use Rattle.memory_moves.proofs.MachineLemmas.{copies_first, copies_before}

-- a letter of a set stands in its list

listed_from : (set : List ℕ) (a : ℕ) → Contains set a → IsTrue (is_in set a)
listed_from set a h = list_any_at (λ y. y == a) set h.0 a h.1 (eq-eqb (get_or set h.0 a) a h.2)

contains_listed : (set : List ℕ) (a : ℕ) → IsTrue (is_in set a) → Contains set a
contains_listed set a h = Contains-from_any {eq = λ x y. y == x} (λ x y e. sym (eqb-true y x e)) a set h

letter_below : (count : ℕ) (set : List ℕ) (a : ℕ) → AllBelow count set → Contains set a → a < count
letter_below count set a h c = All-contains (λ y. y < count) set a (All-from_recursion (λ y. y < count) set h) c

-- the whole transducer
abbrev pub cutting : ℕ → List ℕ → ℕ → ℕ → Transducer
cutting letters set offset count = record { letters = letters; starts = 0 ∷ []; states = cutting_states set offset count }

module _ (letters : ℕ) (set : List ℕ) (offset count : ℕ) where
  before_node : Node Label
  before_node = record { accepting = false; edges = copy_edges offset count 0 ++ cut_edges offset set 1 }

  behind_node : Node Label
  behind_node = record { accepting = true; edges = copy_edges offset count 1 }

  before_edges : edges_of (cutting letters set offset count).states 0 ≡ copy_edges offset count 0 ++ cut_edges offset set 1
  unfolding before_node
  before_edges = edges_of-at (cutting letters set offset count).states 0 before_node refl

  behind_edges : edges_of (cutting letters set offset count).states 1 ≡ copy_edges offset count 1 ++ []
  unfolding behind_node
  behind_edges = edges_of-at (cutting letters set offset count).states 1 behind_node refl ∙ sym (append-nil (copy_edges offset count 1))

  -- letters are copied behind the cut
  copied_behind : (u w : List ℕ) → RelatesFrom (cutting letters set offset count) 1 u w
      → (copied : List ℕ) × AllBelow count copied × (u ≡ raised offset copied) × (w ≡ raised offset copied)
  copied_behind u w run =
      let so = copies_first (cutting letters set offset count) 1 offset count [] behind_edges u w run in
      elim so.goes_on [
        | inl ends ↦ (
          so.copied,
          so.in_range,
          so.reads ∙ ap (λ v. raised offset so.copied ++ v) ends.reads ∙ append-nil (raised offset so.copied),
          so.writes ∙ ap (λ v. raised offset so.copied ++ v) ends.writes ∙ append-nil (raised offset so.copied),
        )
        | inr other ↦ nothing_in_nil other.0.edge other.1
      ]

  copies_behind : (copied : List ℕ) → AllBelow count copied → RelatesFrom (cutting letters set offset count) 1 (raised offset copied) (raised offset copied)
  unfolding behind_node
  copies_behind copied h =
      let t = cutting letters set offset count in
      let run = copies_before t 1 offset count [] behind_edges copied h [] []
      (ending_run t 1 (is_accepting-at t.states 1 behind_node refl)) in
      subst (λ v. RelatesFrom t 1 v v) (append-nil (raised offset copied)) run

  cut_there : AllBelow count set → (u w : List ℕ) → RelatesFrom (cutting letters set offset count) 0 u w → IsRaisedMove (IsLoss set) offset count u w
  unfolding before_node
  cut_there valid u w run =
      let t = cutting letters set offset count in
      let so = copies_first t 0 offset count (cut_edges offset set 1) before_edges u w run in
      elim so.goes_on [
        | inl ends ↦ absurd (true≢false (sym ends.accepts ∙ is_accepting-at t.states 0 before_node refl))
        | inr takes ↦
            let from = Contains-map_cases (λ (a : ℕ). (reading (a + offset), 1)) set takes.0.edge takes.1 in
            let last = copied_behind takes.0.read_rest takes.0.write_rest
            (subst (λ (edge : Label × ℕ). RelatesFrom t edge.1 takes.0.read_rest takes.0.write_rest) (sym from.2) takes.0.run) in
            record {
              old = so.copied ++ from.0 ∷ last.0;
              new = so.copied ++ last.0;
              old_in_range = AllBelow-append count so.copied (from.0 ∷ last.0) so.in_range (letter_below count set from.0 valid from.1, last.1);
              new_in_range = AllBelow-append count so.copied last.0 so.in_range last.1;
              word_before = so.reads
                  ∙ ap (λ v. raised offset so.copied ++ v) (takes.0.reads ∙ (λ i. spelled_one ((sym from.2) i).0.read ++ last.2 i))
                  ∙ sym (map-append (λ a. a + offset) so.copied (from.0 ∷ last.0));
              word_after = so.writes
                  ∙ ap (λ v. raised offset so.copied ++ v) (takes.0.writes ∙ (λ i. spelled_one ((sym from.2) i).0.write ++ last.3 i))
                  ∙ sym (map-append (λ a. a + offset) so.copied last.0);
              leads = record {
                letter = from.0;
                listed = listed_from set from.0 from.1;
                cut = record { before = so.copied; after = last.0; was = refl; becomes = refl };
              };
            }
      ]

  cut_back : (u w : List ℕ) → IsRaisedMove (IsLoss set) offset count u w → RelatesFrom (cutting letters set offset count) 0 u w
  cut_back u w m =
      let t = cutting letters set offset count in
      let before = m.leads.cut.before in
      let after = m.leads.cut.after in
      let a = m.leads.letter in
      let all = subst (AllBelow count) m.leads.cut.was m.old_in_range in
      let edge : Label × ℕ = (reading (a + offset), 1) in
      let is_edge = subst (λ es. Contains es edge) (sym before_edges)
      (Contains-append_right (copy_edges offset count 0) (cut_edges offset set 1) edge
      (Contains-map (λ (x : ℕ). (reading (x + offset), 1)) set a (contains_listed set a m.leads.listed))) in
      let run = copies_before t 0 offset count (cut_edges offset set 1) before_edges before (AllBelow-left count before (a ∷ after) all)
      ((a + offset) ∷ raised offset after) (raised offset after)
      (longer_run t 0 edge (raised offset after) (raised offset after) is_edge
      (copies_behind after (AllBelow-right count before (a ∷ after) all).1)) in
      let reads : u ≡ raised offset before ++ (a + offset) ∷ raised offset after =
      m.word_before ∙ ap (raised offset) m.leads.cut.was ∙ map-append (λ x. x + offset) before (a ∷ after) in
      let writes : w ≡ raised offset before ++ raised offset after =
      m.word_after ∙ ap (raised offset) m.leads.cut.becomes ∙ map-append (λ x. x + offset) before after in
      subst (λ v. RelatesFrom t 0 v w) (sym reads)
      (subst (λ v. RelatesFrom t 0 (raised offset before ++ (a + offset) ∷ raised offset after) v) (sym writes) run)

  -- what the transducer relates
  pub Relates-cutting : AllBelow count set → (u w : List ℕ)
      → (Relates (cutting letters set offset count) u w → IsRaisedMove (IsLoss set) offset count u w)
      × (IsRaisedMove (IsLoss set) offset count u w → Relates (cutting letters set offset count) u w)
  Relates-cutting valid u w = (
    λ r. cut_there valid u w
        (subst (λ q. RelatesFrom (cutting letters set offset count) q u w) (sym (Contains-single 0 r.start r.is_start)) r.run),
    λ m. record { start = 0; is_start = (0, omega arith, refl); run = cut_back u w m },
  )

cut_edges_in_range : (letters offset count : ℕ) (set : List ℕ) → offset + count ≤ letters → AllBelow count set
    → All (IsEdge letters 2) (cut_edges offset set 1)
cut_edges_in_range letters offset count set fits h =
    All-map (IsEdge letters 2) (λ (a : ℕ). (reading (a + offset), 1)) set (λ k d lt.
    let below : get_or set k d < count = All-from_recursion (λ a. a < count) set h k d lt in
    record { read_in_range = omega (arith, below, fits); write_in_range = tt; target_in_range = omega arith })

pub IsValid-cutting : (letters : ℕ) (set : List ℕ) (offset count : ℕ) → offset + count ≤ letters → AllBelow count set
    → IsValid (cutting letters set offset count)
IsValid-cutting letters set offset count fits h =
    let P : Node Label → Type 0 = λ node. All (IsEdge letters 2) node.edges in
    let before : Node Label = record { accepting = false; edges = copy_edges offset count 0 ++ cut_edges offset set 1 } in
    let behind : Node Label = record { accepting = true; edges = copy_edges offset count 1 } in
    record {
      starts_in_range = All-cons (λ q. q < 2) 0 [] (omega arith) (All-nil (λ q. q < 2));
      edges_in_range =
          All-cons P before (behind ∷ [])
          (All-append (IsEdge letters 2) (copy_edges offset count 0) (cut_edges offset set 1)
          (IsEdge-copies letters offset count 2 0 fits (omega arith)) (cut_edges_in_range letters offset count set fits h))
          (All-cons P behind [] (IsEdge-copies letters offset count 2 1 fits (omega arith)) (All-nil P));
    }
