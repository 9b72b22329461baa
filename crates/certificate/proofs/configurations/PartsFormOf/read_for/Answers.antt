use Rattle.certificate.proofs.configurations.PartsFormOf.read_for.Goals as goal

pub returns-in_ok-list_of-in-Some : goal.returns-in_ok-list_of-in-Some
returns-in_ok-list_of-in-Some c =
    let says = rw c.in-Some.is at c.in_ok-name.ensures in
    (_, says, cc (c.in_ok-list_of-in-Some.ensures, c.in-Some.name-is, c.in-Some.letters-is))

pub returns-in-None : goal.returns-in-None
returns-in-None c = λ letters h. let none = rw c.in-None.is at c.in_ok-name.ensures in none h.0 h.1
