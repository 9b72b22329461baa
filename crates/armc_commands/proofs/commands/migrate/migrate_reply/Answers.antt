use Rattle.std.proofs.Common.{List, ℕ, inl, inr, refl, sym, ap, subst, ◌∙◌}
use Rattle.certificate.specs.Meaning.{IsCertificateOf}
use Rattle.command_replies.specs.declared.status.Status.TheVariants.{Done}
use Rattle.command_replies.specs.declared.reply.Reply.{Reply}
use Rattle.command_replies.specs.Reply.{on_out}
use Rattle.armc_commands.specs.Commands.Migrate.{IsMigrateReply}
use Rattle.armc_commands.proofs.Replies.{certificate_refused}
use Rattle.armc_commands.proofs.commands.migrate.migrate_reply.Goals as goal

pub returns-in-Err : goal.returns-in-Err
returns-in-Err c =
    certificate_refused (IsMigrateReply c.args.system.now c.args.text.now) c.args.system.now c.args.text.now (λ reply refuses. inl refuses) c.in-Err.fault
    c.certificate_refusal.result c.certificate_refusal.ensures.reply c.certificate_refusal.ensures.fault (λ other. c.in-Err.ensures.fault other)

pub migrated_text-requires : goal.migrated_text-requires
migrated_text-requires c = (c.args.text.now, (c.in-Ok.ensures.found c.in-Ok.certificate).1 refl)

pub returns : goal.returns
returns c =
    let s = c.args.system.now in
    inr (record {
      same = record {
        certificate = c.in-Ok.certificate;
        means = (c.in-Ok.ensures.found c.in-Ok.certificate).1 refl;
        means_too = subst (λ (text : List ℕ). IsCertificateOf s text c.in-Ok.certificate) (sym (ap (λ (r : Reply). r.out) c.on_out.ensures))
            c.in_ok-migrated.ensures.meaning;
      };
      reply_is = c.on_out.ensures ∙ ap (λ (text : List ℕ). on_out Done text) c.in_ok-migrated.ensures.text;
    })
