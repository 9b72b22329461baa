use Rattle.protocol_syntax.proofs.sections.LettersForm.read.Goals as goal

pub returns : goal.returns
returns c = rw c.saturating_sub.ensures at c.read.ensures
