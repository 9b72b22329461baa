use Rattle.word_automata.proofs.ForCallers.{adds_state}
use Rattle.determinise.proofs.subset.add.Goals as goal

pub returns : goal.returns
returns c = adds_state c.args.set.now.keys c.insert.new.self.keys c.args.state c.in_ok-insert.ensures.keys
