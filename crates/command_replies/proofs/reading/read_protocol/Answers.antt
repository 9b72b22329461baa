use Rattle.std.proofs.Common.{refl}
use Rattle.protocol_syntax.specs.Grammar.{protocol}
use Rattle.protocol_model.specs.Faults.{first_fault}
use Rattle.command_replies.proofs.Refused.{by_grammar, by_names}
use Rattle.command_replies.proofs.reading.read_protocol.Goals as goal

pub returns-in-Err : goal.returns-in-Err
returns-in-Err c =
    by_grammar protocol first_fault c.args.text.now c.in-Err.fault _ c.in_ok-refused_by_grammar-in-Err.ensures.refused
    c.in_ok-refused_by_grammar-in-Err.ensures.fault
    (λ other. (c.in-Err.ensures.fault other c.in-Err.fault).1 refl)

pub resolve-requires : goal.resolve-requires
resolve-requires c = c.texts_say_allowed_protocols.ensures.allowed c.args.text.now c.in-Ok.protocol ((c.in-Ok.ensures.protocol c.in-Ok.protocol).1 refl)

pub returns-in-Ok-resolve : goal.returns-in-Ok-resolve
returns-in-Ok-resolve c = (
  record {
    is_protocol = (c.in-Ok.ensures.protocol c.in-Ok.protocol).1 refl;
    no_fault = c.in-Ok-resolve.ensures.system.0;
  },
  c.in-Ok-resolve.ensures.system.1,
)

pub returns-in_ok-refused_by_names-in-Err-resolve : goal.returns-in_ok-refused_by_names-in-Err-resolve
returns-in_ok-refused_by_names-in-Err-resolve c =
    by_names protocol first_fault c.args.text.now c.in-Ok.protocol c.in-Err-resolve.fault _ c.in_ok-refused_by_names-in-Err-resolve.ensures.refused
    c.in_ok-refused_by_names-in-Err-resolve.ensures.fault ((c.in-Ok.ensures.protocol c.in-Ok.protocol).1 refl) c.in-Err-resolve.ensures.refused
