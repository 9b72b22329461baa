-- Laws: a text means at most one certificate or has at most one first fault, and never both.
use Rattle.std.specs.Prelude.{◌≡◌, ℕ, List}
use Rattle.protocol_model.specs.System.{SystemData, IsValid}
use Rattle.certificate.specs.declared.fault.CertFault.{CertFault}
use Rattle.certificate.specs.declared.safe.Certificate.{Certificate}
use Rattle.certificate.specs.Meaning.{IsCertificateOf}
use Rattle.certificate.specs.Faults.{HasFault}

abbrev pub MeaningIsDetermined : Type 0
MeaningIsDetermined =
    (s : SystemData) → IsValid s → (text : List ℕ) (c d : Certificate) → IsCertificateOf s text c → IsCertificateOf s text d → c ≡ d

abbrev pub FaultIsDetermined : Type 0
FaultIsDetermined =
    (s : SystemData) → IsValid s → (text : List ℕ) (fault other : CertFault) → HasFault s text fault → HasFault s text other → fault ≡ other

abbrev pub FaultExcludesMeaning : Type 0
FaultExcludesMeaning =
    (s : SystemData) → IsValid s → (text : List ℕ) (fault : CertFault) (c : Certificate) → HasFault s text fault → IsCertificateOf s text c → ⊥
