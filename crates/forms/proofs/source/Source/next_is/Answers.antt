use Rattle.forms.specs.Symbol.{source_of}
use Rattle.forms.proofs.TokenLaws.{next_at, next_none, same_code}
use Rattle.forms.proofs.source.Source.next_is.Goals as goal

pub returns-in-Some-clause-is : goal.returns-in-Some-clause-is
returns-in-Some-clause-is c =
    next_at (source_of c.args.self.now.text.now c.args.self.now.tokens.now) c.args.at c.is.result c.args.symbol c.in-Some.found c.in-Some.field-0-1
    (same_code c.is.result c.in-Some.found c.args.symbol c.is.ensures) c.in-Some.ensures.token

pub returns-in-None-clause-is : goal.returns-in-None-clause-is
returns-in-None-clause-is c = next_none (source_of c.args.self.now.text.now c.args.self.now.tokens.now) c.args.at c.args.symbol c.in-None.ensures.token
