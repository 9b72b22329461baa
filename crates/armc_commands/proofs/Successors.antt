-- Successors fit.
use Rattle.std.proofs.Common.{ℕ, List, get_or, IsTrue}
use Rattle.std.specs.List.{AllByRecursion}
use Rattle.std.proofs.lemmas.List.Elements.{Contains-get_or, recursion_from_All}
use Rattle.protocol_model.specs.declared.system.Configuration.{Configuration}
use Rattle.protocol_model.specs.System.{SystemData}
use Rattle.protocol_model.specs.Patterns.{fits}
use Rattle.protocol_steps.specs.Successors.{AreSuccessors}

pub all_fit : (s : SystemData) (c : Configuration) (pairs : List (ℕ × Configuration)) → AreSuccessors s c pairs
    → AllByRecursion (λ pair. IsTrue (fits s pair.1)) pairs
all_fit s c pairs are =
    recursion_from_All (λ pair. IsTrue (fits s pair.1)) pairs
    (λ k d within. let pair = get_or pairs k d in ((are.each_step pair.0 pair.1).0 (Contains-get_or pairs k d within)).fits_after)
