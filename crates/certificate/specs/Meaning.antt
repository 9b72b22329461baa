-- What a text is a certificate of.
use Rattle.std.specs.Prelude.{ℕ, List}
use Rattle.protocol_model.specs.System.{SystemData}
use Rattle.certificate.specs.declared.safe.Certificate.{Certificate}
use Rattle.certificate.specs.declared.safe.Certificate.TheVariants.{Automaton as AutomatonProof, BadRun}
use Rattle.certificate.specs.SafeText.{MeansAutomaton}
use Rattle.certificate.specs.RunText.{MeansRun}

-- the text means the certificate
abbrev pub IsCertificateOf : SystemData → List ℕ → Certificate → Type 0
IsCertificateOf s text (AutomatonProof m) = MeansAutomaton s text m
IsCertificateOf s text (BadRun run) = MeansRun s text run
