use Rattle.protocol_syntax.proofs.FirstLanguage.{first_language, stays, faults_stay}
use Rattle.protocol_syntax.proofs.law.first_language_stays.Goals as goal

pub returns : goal.returns
returns c = record { language_1 = first_language; protocol = stays; fault = faults_stay }
