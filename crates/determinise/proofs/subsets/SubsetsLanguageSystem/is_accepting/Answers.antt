use Rattle.std.proofs.Common.{ℕ, List, Contains, IsTrue, ◌↔◌, subst}
use Rattle.word_automata.specs.Path.{is_accepting}
use Rattle.word_automata.proofs.ForCallers.{end_accepts}
use Rattle.determinise.proofs.subsets.SubsetsLanguageSystem.is_accepting.Goals as goal

pub returns : goal.returns
returns c =
    let n = c.args.self.now.automaton.now in
    let states = c.args.state.now in
    let end = end_accepts n states c.requires.closed in
    let some = subst (λ (xs : List ℕ). IsTrue c.accepts_some.result ↔ ((q : ℕ) × Contains xs q × IsTrue (is_accepting n.states q))) c.as_slice.ensures c.accepts_some.ensures in
    (λ t. end.1 (some.0 t), λ t. some.1 (end.0 t))
