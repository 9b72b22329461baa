use Rattle.std.proofs.Common.{◌≡◌, ◌<◌, ◌↔◌, ℕ, List, All, length, sym, ap, subst, ◌∙◌, arith}
use Rattle.std.proofs.lemmas.List.{length-map}
use Rattle.std.proofs.lemmas.List.Elements.{All-contains}
use Rattle.word_automata.specs.Nondeterministic.{NondeterministicAutomaton, Accepts}
use Rattle.word_automata.proofs.ForCallers.{All-from_contains}
use Rattle.reduction.specs.private.Copies.{without_edges, with_starts}
use Rattle.reduction.proofs.Reductions.{reduced_none, reduced_accepts, starts_keep}
use Rattle.reduction.specs.Simulation.{AreIncluded}
use Rattle.reduction.proofs.Simulations.{included_reduced}
use Rattle.reduction.proofs.pruning.pruned.Goals as goal

pub add_starts-requires : goal.add_starts-requires
add_starts-requires c =
    let n = c.args.automaton.now in
    let builder = c.in_ok-builder.builder in
    let size : length builder.states ≡ length n.states = ap (λ (m : NondeterministicAutomaton). length m.states) c.in_ok-builder.ensures ∙ length-map n.states without_edges in
    subst (λ (xs : List ℕ). All (λ q. q < length builder.states) xs) (sym c.starts.ensures.starts)
    (All-from_contains (λ q. q < length builder.states) n.starts (λ q there.
    let within = All-contains (λ s. s < length n.states) n.starts q c.starts.ensures.in_range.starts_in_range there in
    omega arith))

pub states-init : goal.states-init
states-init c =
    let n = c.args.automaton.now in
    reduced_none n c.in_ok-builder.builder c.add_starts.new.builder n.starts c.in_ok-builder.ensures
    (c.in_ok-add_starts.ensures ∙ ap (with_starts c.in_ok-builder.builder) c.starts.ensures.starts) (starts_keep n n.starts)

pub returns-clause-language : goal.returns-clause-language
returns-clause-language c w =
    subst (λ m. Accepts m w ↔ Accepts c.args.automaton.now w) (sym c.finish.ensures)
    (reduced_accepts c.args.automaton.now c.states.builder c.states.state c.states.invariant
    (let e = c.states-state-end.ensures.count in let x = c.states-test.false in omega arith) w)

pub returns-clause-included : goal.returns-clause-included
returns-clause-included c =
    subst (λ m. AreIncluded m c.args.pairs.now) (sym c.finish.ensures)
    (included_reduced c.args.automaton.now c.states.builder c.states.state c.states.invariant
    (let e = c.states-state-end.ensures.count in let x = c.states-test.false in omega arith) c.args.pairs.now c.requires)
