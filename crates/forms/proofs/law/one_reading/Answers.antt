use Rattle.forms.proofs.Texts.{fault_once, fault_or_meaning, meaning_once, meaning_or_fault}
use Rattle.forms.proofs.law.one_reading.Goals as goal

pub returns-clause-meaning : goal.returns-clause-meaning
returns-clause-meaning g c =
    meaning_once (g.X.Form.grammar c.args.form.now) c.requires.uniform c.requires.told c.one_reading.ensures.tokens c.one_reading.ensures.either

pub returns-clause-fault : goal.returns-clause-fault
returns-clause-fault g c =
    fault_once (g.X.Form.grammar c.args.form.now) c.requires.uniform c.requires.told c.one_reading.ensures.tokens c.one_reading.ensures.either
    c.one_reading.ensures.bad_byte

pub returns-clause-either : goal.returns-clause-either
returns-clause-either g c =
    fault_or_meaning (g.X.Form.grammar c.args.form.now) c.requires.uniform c.requires.told c.one_reading.ensures.tokens c.one_reading.ensures.either

pub returns-clause-every : goal.returns-clause-every
returns-clause-every g c =
    meaning_or_fault (g.X.Form.grammar c.args.form.now) c.requires.uniform c.requires.told c.one_reading.ensures.tokens c.one_reading.ensures.either
    c.one_reading.ensures.every
