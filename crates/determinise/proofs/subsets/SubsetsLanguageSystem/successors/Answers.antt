use Rattle.std.proofs.Common.{◌≡◌, ◌++◌, ◌∷◌, [], ℕ, List, map, sym, subst, ap, ◌∙◌, arith}
use Rattle.std.proofs.lemmas.List.{get_or_default}
use Rattle.word_automata.specs.StateSets.{AreStates}
use Rattle.determinise.specs.private.Subsets.{IsRun, LeadsTo, letter_of}
use Rattle.determinise.proofs.Grouping.{IsGrouped, run_of, grouped_more, grouped_all, targets_are_states}
use Rattle.determinise.proofs.subsets.SubsetsLanguageSystem.successors.Goals as goal

pub set_after-requires : goal.set_after-requires
set_after-requires c =
    let i = c.runs.invariant in
    let n = c.args.self.now.automaton.now in
    let moves = c.in_ok-moves.moves.items in
    let at = c.runs.at in
    let end = c.end_of_run-end.result in
    let run = subst (λ (xs : List (ℕ × ℕ)). IsRun xs at end) c.deref.ensures.value c.end_of_run-end.ensures in
    subst (λ (xs : List (ℕ × ℕ)). AreStates n (map (λ (move : ℕ × ℕ). move.1) (run_of xs at end))) (sym c.deref-in-runs.ensures.value)
    (targets_are_states n c.args.state.now i.subset moves i.ordered at end run.within)

pub runs-preserved : goal.runs-preserved
runs-preserved c =
    let i = c.runs.invariant in
    let n = c.args.self.now.automaton.now in
    let states = c.args.state.now in
    let moves = c.in_ok-moves.moves.items in
    let at = c.runs.at in
    let end = c.end_of_run-end.result in
    let subset = c.in_ok-subset.subset in
    let run = subst (λ (xs : List (ℕ × ℕ)). IsRun xs at end) c.deref.ensures.value c.end_of_run-end.ensures in
    let leads = subst (λ (xs : List (ℕ × ℕ)). LeadsTo n (map (λ (move : ℕ × ℕ). move.1) (run_of xs at end)) subset) c.deref-in-runs.ensures.value c.in_ok-subset.ensures in
    let letter : c.index.result.now.0 ≡ letter_of moves at =
    ap (λ (move : ℕ × ℕ). move.0) (c.index.ensures ∙ get_or_default moves at c.index.result.now (0, 0) (let a = run.some in let b = run.within in omega arith)) in
    let more = grouped_more n states i.subset moves i.ordered c.runs.successors.items at i.grouped end run leads.kept subset leads.same_words leads.from in
    record {
      subset = i.subset;
      ordered = i.ordered;
      grouped = subst (λ (xs : List (ℕ × List ℕ)). IsGrouped n states i.subset moves i.ordered xs end) (sym c.in_ok-push.ensures.items)
          (subst (λ (a : ℕ). IsGrouped n states i.subset moves i.ordered (c.runs.successors.items ++ (a, subset) ∷ []) end) (sym letter) more);
    }

pub returns : goal.returns
returns c =
    let i = c.runs.invariant in
    grouped_all c.args.self.now.automaton.now c.args.state.now i.subset c.in_ok-moves.moves.items i.ordered c.runs.successors.items c.runs.at
    (let l = c.len.ensures in let t = c.runs-test.false in let v = c.in_ok-moves.moves.ok.0 in omega arith) i.grouped
