use Rattle.std.proofs.Common.{refl}
use Rattle.protocol_syntax.proofs.law.limits_and_words.Goals as goal

pub returns : goal.returns
returns c = record {
  limits = record {
    sections = refl;
    letters = refl;
    rows = refl;
    rules = refl;
    atoms = refl;
    guards = refl;
    pushed = refl;
    name_bytes = refl;
  };
  words = refl;
}
