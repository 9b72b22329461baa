use Rattle.certificate.proofs.configurations.read_letter.Goals as goal

pub returns-in-None : goal.returns-in-None
returns-in-None c = λ letters h. let none = rw c.in-None.is at c.in_ok-letter.ensures in none h.0 h.1
