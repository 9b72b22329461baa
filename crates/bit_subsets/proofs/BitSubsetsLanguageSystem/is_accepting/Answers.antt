use Rattle.bit_subsets.proofs.Members.{members_has}
use Rattle.word_automata.proofs.ForCallers.{end_accepts}
use Rattle.bit_subsets.specs.Subsets.{members}
use Rattle.bit_subsets.proofs.BitSubsetsLanguageSystem.is_accepting.Goals as goal

pub returns : goal.returns
returns c =
    let s = c.args.self.now in
    let set = c.args.state.now in
    let end = end_accepts s.automaton.now (members set) c.requires.closed in (
      λ met. let both = c.meets.ensures.0 met in end.1 (both.0, (members_has set both.0).1 both.1, (s.exact both.0).0 both.2),
      λ accepted. let there = end.0 accepted in c.meets.ensures.1 (there.0, (members_has set there.0).0 there.1, (s.exact there.0).1 there.2),
    )
