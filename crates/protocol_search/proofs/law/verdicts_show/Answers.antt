use Rattle.protocol_search.proofs.Rounds.{verdict-sound, verdict-shows, verdict-text-shows}
use Rattle.protocol_search.proofs.law.verdicts_show.Goals as goal

pub returns-clause-sound : goal.returns-clause-sound
returns-clause-sound c = verdict-sound

pub returns-clause-verdicts : goal.returns-clause-verdicts
returns-clause-verdicts c = verdict-shows

pub returns-clause-texts : goal.returns-clause-texts
returns-clause-texts c = verdict-text-shows
