use Rattle.std.proofs.Common.{◌≡◌, ◌<◌, ◌↔◌, ℕ, List, Option, IfSome, All, length, refl, sym, subst, arith}
use Rattle.std.proofs.lemmas.List.Elements.{All-contains}
use Rattle.word_automata.specs.Nondeterministic.{NondeterministicAutomaton, Accepts}
use Rattle.word_automata.proofs.ForCallers.{All-from_contains}
use Rattle.reduction.specs.private.SilentMoves.{IsFlagged, IsFreed}
use Rattle.reduction.proofs.SilentMoves.{freed_accepts, freed_none}
use Rattle.reduction.proofs.silent_edges.without_silent.Goals as goal

pub add_starts-requires : goal.add_starts-requires
add_starts-requires c =
    let n = c.args.automaton.now in
    let builder = c.in-Some.builder in
    let so = subst (λ (o : Option NondeterministicAutomaton). IfSome o (λ m. IsFlagged n m (length n.states))) c.in-Some.is c.in_ok-builder.ensures in
    let size : length builder.states ≡ length n.states = so.count in
    subst (λ (xs : List ℕ). All (λ q. q < length builder.states) xs) (sym c.starts.ensures.starts)
    (All-from_contains (λ q. q < length builder.states) n.starts (λ q there.
    let within = All-contains (λ s. s < length n.states) n.starts q c.starts.ensures.in_range.starts_in_range there in
    omega arith))

pub states-init : goal.states-init
states-init c =
    let n = c.args.automaton.now in
    let so = subst (λ (o : Option NondeterministicAutomaton). IfSome o (λ m. IsFlagged n m (length n.states))) c.in-Some.is c.in_ok-builder.ensures in
    subst (λ m. IsFreed n m 0) (sym c.in_ok-add_starts.ensures) (freed_none n c.in-Some.builder (length n.states) c.starts.result.now so refl c.starts.ensures.starts)

pub returns-clause-language : goal.returns-clause-language
returns-clause-language c w =
    subst (λ m. Accepts m w ↔ Accepts c.args.automaton.now w) (sym c.finish.ensures)
    (freed_accepts c.args.automaton.now c.states.builder c.starts.ensures.in_range c.states.state c.states.invariant
    (let e = c.states-state-end.ensures.count in let x = c.states-test.false in omega arith) w)
