-- The words of the nondeterministic automaton over classes.
use Rattle.std.proofs.Common.{◌≡◌, ◌<◌, ◌↔◌, ℕ, List, [], ◌∷◌, ◌++◌, Option, Some, Contains, IsTrue, length, slice_index, refl, sym, ap, subst, ◌∙◌, arith}
use Rattle.word_automata.specs.Path.{edges_of, is_accepting, IsPath, spelled_one, spelled}
use Rattle.word_automata.specs.Automaton.{Automaton, IsValid}
use Rattle.word_automata.specs.Nondeterministic.{NondeterministicAutomaton, Accepts}
use Rattle.word_automata.proofs.ForCallers.{accepting_within, leads_within, found_edge, edge_found, target_within, ordered_edges}
use Rattle.abstraction.specs.Merging.{HaveEqualClasses, IsMergedFrom, IsMerged}
use Rattle.abstraction.specs.ClassAutomata.{HasClassMoves, HasAllClassMoves}
use Rattle.abstraction.specs.FirstStates.{AreFirsts}
use Rattle.abstraction.proofs.Firsts.{first_same}
use Rattle.abstraction.proofs.MergedWords.{merged_has_state}

module _ (a : Automaton) (classes firsts : List ℕ) (count : length classes ≡ length a.states) (are : AreFirsts classes firsts)
    (n : NondeterministicAutomaton) (has_all : HasAllClassMoves a firsts n) where
  has : HasClassMoves a firsts has_all.seen n (length a.states) 0
  has = has_all.moves

  valid : IsValid a
  valid = has_all.valid

  class : (q : ℕ) → ℕ
  class q = slice_index firsts q

  equal : (p q : ℕ) → p < length a.states → q < length a.states → slice_index firsts p ≡ slice_index firsts q → HaveEqualClasses classes p q
  equal p q lp lq e = (first_same classes firsts are p q (omega arith) (omega arith)).0 e

  same_first : (p q : ℕ) → p < length a.states → q < length a.states → HaveEqualClasses classes p q → slice_index firsts p ≡ slice_index firsts q
  same_first p q lp lq e = (first_same classes firsts are p q (omega arith) (omega arith)).1 e

  -- a path spells a merged word
  run_merges : (moves : List (Option ℕ × ℕ)) (q end : ℕ) → q < length a.states → IsPath n.states (slice_index firsts q) moves end
      → IsTrue (is_accepting n.states end) → IsMergedFrom (HaveEqualClasses classes) a q (spelled (λ l. l) moves)
  run_merges [] q end there path accepting =
      let member = (has.class_states.acceptance end).0 accepting in
      (member.0, equal q member.0 there member.1 (path ∙ sym member.3), member.2)
  run_merges ((label, t) ∷ moves) q end there path accepting =
      let move = has.only (slice_index firsts q) label t path.0 in
      let leads = edge_found (edges_of a.states move.0) (ordered_edges a valid move.0) move.1 move.2 move.3 in
      let to = target_within a valid move.0 move.1 move.2 leads in
      subst (λ (l : Option ℕ). IsMergedFrom (HaveEqualClasses classes) a q (spelled_one l ++ spelled (λ l. l) moves)) (sym move.5) (
        move.0,
        equal q move.0 there (leads_within a move.0 move.1 move.2 leads) (sym move.4),
        move.2,
        leads,
        run_merges moves move.2 end to (subst (λ k. IsPath n.states k moves end) (sym move.6) path.1) accepting,
      )

  -- a merged word is spelled by a path
  merged_runs : (w : List ℕ) (q : ℕ) → q < length a.states → IsMergedFrom (HaveEqualClasses classes) a q w
      → (moves : List (Option ℕ × ℕ)) × (end : ℕ) × IsPath n.states (slice_index firsts q) moves end × IsTrue (is_accepting n.states end) × (spelled (λ l. l) moves ≡ w)
  merged_runs [] q there (p, related, accepts) =
      let within = accepting_within a.states p accepts in
      ([], slice_index firsts q, refl, (has.class_states.acceptance (slice_index firsts q)).1 (p, within, accepts, sym (same_first q p there within related)), refl)
  merged_runs (letter ∷ w) q there (p, related, r, leads, rest) =
      let within = leads_within a p letter r leads in
      let later = merged_runs w r (target_within a valid p letter r leads) rest in
      let edge = has.added p letter r within (found_edge (edges_of a.states p) letter r leads) in (
        (Some letter, slice_index firsts r) ∷ later.0,
        later.1,
        (subst (λ k. Contains (edges_of n.states k) (Some letter, slice_index firsts r)) (sym (same_first q p there within related)) edge, later.2),
        later.3,
        ap (λ v. letter ∷ v) later.4,
      )

  pub class_words : (w : List ℕ) → Accepts n w ↔ IsMerged (HaveEqualClasses classes) a w
  class_words w = (
    λ run.
        let start = (has.class_states.starts run.0).0 run.3 in
        subst (IsMerged (HaveEqualClasses classes) a) run.6
        (run_merges run.1 0 run.2 start.0 (subst (λ k. IsPath n.states k run.1 run.2) (sym start.1) run.4) run.5),
    λ merged.
        let there = merged_has_state (HaveEqualClasses classes) a w 0 merged in
        let run = merged_runs w 0 there merged in
        (slice_index firsts 0, run.0, run.1, (has.class_states.starts (slice_index firsts 0)).1 (there, refl), run.2, run.3, run.4),
  )
