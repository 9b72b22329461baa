-- A certificate and its newest text.
use Rattle.std.proofs.Common.{◌≡◌, ◌≤◌, ◌∙◌, ℕ, List, length, inl, inr, sym, ap, subst}
use Rattle.word_automata.specs.Automaton.{Automaton}
use Rattle.protocol_model.specs.System.{SystemData}
use Rattle.certificate.specs.Meaning.{IsCertificateOf}
use Rattle.certificate.specs.SafeText.{MeansAutomaton}
use Rattle.certificate.specs.RunText.{MeansRun}
use Rattle.certificate.specs.declared.safe.Certificate.{Certificate}
use Rattle.certificate.specs.declared.safe.Certificate.TheVariants.{Automaton as AutomatonProof, BadRun}
use Rattle.protocol_model.specs.declared.system.Run.{Run}
use Rattle.command_replies.specs.declared.reply.Reply.{Reply}
use Rattle.armc_commands.specs.Commands.Migrate.{IsMigrateReply, MigratePromise}

-- what a text means that means one of the two
pub automaton-meant : (s : SystemData) (text : List ℕ) (c : Certificate) (m : Automaton) → c ≡ AutomatonProof m → IsCertificateOf s text c
    → MeansAutomaton s text m
automaton-meant s text c m is h = subst (λ (x : Certificate). IsCertificateOf s text x) is h

pub run-meant : (s : SystemData) (text : List ℕ) (c : Certificate) (run : Run) → c ≡ BadRun run → IsCertificateOf s text c → MeansRun s text run
run-meant s text c run is h = subst (λ (x : Certificate). IsCertificateOf s text x) is h

-- an automaton that a text means has at most as many states as a text may say
pub few-states : (s : SystemData) (text : List ℕ) (m : Automaton) → MeansAutomaton s text m → length m.states ≤ 1000000
few-states s text m h = subst (λ n. n ≤ 1000000) (sym h.automaton.states_are) h.limit

pub migrate_promised : (s : SystemData) (text : List ℕ) (reply : Reply) → IsMigrateReply s text reply → MigratePromise s text reply
migrate_promised s text reply h done = elim h [
  | inl refuses ↦ absurd (let e = sym done ∙ ap (λ (r : Reply). r.status) refuses.reply_is in cc e)
  | inr migrates ↦ migrates.same
]
