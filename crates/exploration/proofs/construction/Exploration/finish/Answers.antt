use Rattle.std.proofs.Common.{◌↔◌, IsTrue, List, ℕ, [], refl, sym, subst, arith}
use Rattle.word_automata.specs.Automaton.{accepts}
use Rattle.exploration.specs.Numbering.{IsBreadthFirst, StandsForLanguages}
use Rattle.exploration.specs.private.Worklist.{Explored}
use Rattle.exploration.proofs.Finished.{finished_language, finished_breadth_first, finished_states}
use Rattle.exploration.proofs.construction.Exploration.finish.Goals as goal

pub returns-clause-language : goal.returns-clause-language
returns-clause-language g c =
    let system = c.args.self in
    let t = g.T.LanguageSystem in
    let explored = subst (λ s. Explored (t.letter_count s) (t.accepted s) (t.language s) (t.is_state s) c.expand_within.new.found c.expand_within.new.builder c.in_ok-expand_within.field-0 [])
    c.self.view_is c.in_ok-expand_within.ensures.explored in
    subst (λ m. (w : List ℕ) → IsTrue (accepts m w) ↔ t.accepted system w) (sym c.finish.ensures)
    (finished_language (t.letter_count system) (t.accepted system) (t.language system) (t.is_state system) c.expand_within.new.found c.expand_within.new.builder
    c.in_ok-expand_within.field-0 explored
    (let end = c.in_ok-expand_within.ensures.end refl in let count = explored.count in omega arith))

pub returns-clause-breadth_first : goal.returns-clause-breadth_first
returns-clause-breadth_first g c =
    let system = c.args.self in
    let t = g.T.LanguageSystem in
    let explored = subst (λ s. Explored (t.letter_count s) (t.accepted s) (t.language s) (t.is_state s) c.expand_within.new.found c.expand_within.new.builder c.in_ok-expand_within.field-0 [])
    c.self.view_is c.in_ok-expand_within.ensures.explored in
    subst IsBreadthFirst (sym c.finish.ensures)
    (finished_breadth_first (t.letter_count system) (t.accepted system) (t.language system) (t.is_state system) c.expand_within.new.found c.expand_within.new.builder
    c.in_ok-expand_within.field-0 explored
    (let end = c.in_ok-expand_within.ensures.end refl in let count = explored.count in omega arith))

pub returns-clause-states : goal.returns-clause-states
returns-clause-states g c =
    let system = c.args.self in
    let t = g.T.LanguageSystem in
    let explored = subst (λ s. Explored (t.letter_count s) (t.accepted s) (t.language s) (t.is_state s) c.expand_within.new.found c.expand_within.new.builder c.in_ok-expand_within.field-0 [])
    c.self.view_is c.in_ok-expand_within.ensures.explored in
    subst (StandsForLanguages (t.language system) (t.is_state system)) (sym c.finish.ensures)
    (finished_states (t.letter_count system) (t.accepted system) (t.language system) (t.is_state system) c.expand_within.new.found c.expand_within.new.builder
    c.in_ok-expand_within.field-0 explored
    (let end = c.in_ok-expand_within.ensures.end refl in let count = explored.count in omega arith))
