use Rattle.certificate.proofs.OneReadingLemmas.{read_found, read_fault, read_refused}
use Rattle.certificate.proofs.safe.read.Goals as goal

pub returns-in-Ok-clause-found : goal.returns-in-Ok-clause-found
returns-in-Ok-clause-found c =
    read_found c.in_ok-alphabet.alphabet c.args.system.now c.in_ok-alphabet.ensures.same c.in_ok-alphabet.ensures.valid c.args.text.now c.in-Ok.read
    c.certificate_of.result c.in-Ok.ensures.found c.certificate_of.ensures

pub returns-clause-fault : goal.returns-clause-fault
returns-clause-fault c =
    read_fault c.in_ok-alphabet.alphabet c.args.system.now c.in_ok-alphabet.ensures.same c.in_ok-alphabet.ensures.valid c.args.text.now
    c.cert_fault.result c.in-Err.fault c.cert_fault.ensures c.in-Err.ensures.fault

pub returns-clause-refused : goal.returns-clause-refused
returns-clause-refused c =
    read_refused c.in_ok-alphabet.alphabet c.args.system.now c.in_ok-alphabet.ensures.same c.in_ok-alphabet.ensures.valid c.args.text.now
    c.cert_fault.result c.in-Err.fault c.cert_fault.ensures c.in-Err.ensures.fault
