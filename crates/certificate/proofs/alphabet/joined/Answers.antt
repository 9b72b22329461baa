use Rattle.std.proofs.Common.{◌∙◌, codes, sym}
use Rattle.std.proofs.lemmas.List.{append_assoc}
use Rattle.certificate.proofs.alphabet.joined.Goals as goal

pub returns : goal.returns
returns c = c.from_string.ensures ∙ c.in_ok-text.ensures.ok ∙ sym (append_assoc c.args.section.now (codes ".") c.args.letter.now)
