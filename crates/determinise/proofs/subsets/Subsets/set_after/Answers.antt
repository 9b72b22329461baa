use Rattle.std.proofs.Common.{ℕ, map, sym, subst}
use Rattle.std.proofs.lemmas.Result.{IfOk-weaker}
use Rattle.word_automata.proofs.ForCallers.{same_members_accept}
use Rattle.determinise.specs.private.Subsets.{IsSubsetFrom, LeadsTo}
use Rattle.bit_subsets.proofs.ForCallers.{AreStates-members}
use Rattle.determinise.proofs.Closures.{leads_to_one}
use Rattle.reduction.proofs.ForCallers.{kept_accept}
use Rattle.determinise.proofs.subsets.Subsets.set_after.Goals as goal

pub returns-in-Some : goal.returns-in-Some
returns-in-Some c =
    let n = c.args.self.now.automaton.now in
    let targets = map (λ (move : ℕ × ℕ). move.1) c.args.moves.now in
    let to = c.in-Some.to in
    subst (LeadsTo n targets) (sym c.from_state.ensures)
    (leads_to_one n targets to c.in-Some.ensures.target c.requires (c.args.self.now.plain to c.in-Some.ensures.plain))

pub subset_of-requires-clause-states : goal.subset_of-requires-clause-states
subset_of-requires-clause-states c =
    let n = c.args.self.now.automaton.now in
    let keeps = c.in_ok-kept.ensures n c.args.self.now.included in
    AreStates-members n (map (λ (move : ℕ × ℕ). move.1) c.args.moves.now) c.in_ok-kept.kept.items
    (λ q there. (c.in_ok-targets.ensures q).0 (keeps.only q there)) c.requires

pub returns : goal.returns
returns c =
    let n = c.args.self.now.automaton.now in
    let targets = c.in_ok-targets.targets.items in
    let kept = c.in_ok-kept.kept.items in
    let same = same_members_accept n (map (λ (move : ℕ × ℕ). move.1) c.args.moves.now) targets (λ q. ((c.in_ok-targets.ensures q).1, (c.in_ok-targets.ensures q).0)) in
    let fewer = kept_accept n targets kept (c.in_ok-kept.ensures n c.args.self.now.included) in
    IfOk-weaker c.subset_of.result (IsSubsetFrom n kept) (LeadsTo n (map (λ (move : ℕ × ℕ). move.1) c.args.moves.now)) (λ subset from. record {
      kept = kept;
      same_words = λ w. ((λ accepted. (fewer w).0 ((same w).0 accepted)), (λ accepted. (same w).1 ((fewer w).1 accepted)));
      from = from;
    }) c.subset_of.ensures
