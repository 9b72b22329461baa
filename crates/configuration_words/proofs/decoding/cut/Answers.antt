use Rattle.std.proofs.Common.{sym}
use Rattle.configuration_words.proofs.CutLemmas.{cut_at_place, cut_at_none}
use Rattle.configuration_words.proofs.decoding.cut.Goals as goal

pub returns-in-Some : goal.returns-in-Some
returns-in-Some c = cut_at_place c.args.separator c.args.letters.now c.in-Some.place (sym c.in-Some.ensures.place)

pub returns-in-None : goal.returns-in-None
returns-in-None c = cut_at_none c.args.separator c.args.letters.now (sym c.in-None.ensures.place)
