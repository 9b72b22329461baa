-- The verdicts of the searches for the properties of a protocol.
use Rattle.std.specs.Prelude.{◌≡◌, ℕ, List, [], ◌∷◌, Some, length, slice_get}
use Rattle.refinement.specs.Verdicts.{IsSound}
use Rattle.refinement.specs.declared.verdict.Verdict.{Verdict}
use Rattle.protocol_properties.specs.declared.properties.Property.{Property}
use Rattle.protocol_search.specs.Analyses.{task_for, proof_limit, VerdictShows}
use Rattle.protocol_search.specs.Methods.{predicate_search}
use Rattle.protocol_search.specs.Verdicts.{IsVerdictOf}
use Rattle.protocol_search.specs.declared.search.Analysis.TheVariants.{Forward}

-- the verdict is that of the search for the property's own system, by predicates of the bad words at first and with the whole budget
abbrev pub IsPropertyVerdict : ℕ → Property → Verdict → Type 0
IsPropertyVerdict budget property v = IsVerdictOf property.system (predicate_search Forward budget) v

-- there is a verdict for each property, in their order, and each is that of its property
pub data AreVerdicts (budget : ℕ) : List Property → List Verdict → Type 0 where
  no_verdict : AreVerdicts budget [] []
  one_more : {property : Property} {v : Verdict} {properties : List Property} {verdicts : List Verdict}
      → IsPropertyVerdict budget property v → AreVerdicts budget properties verdicts
      → AreVerdicts budget (property ∷ properties) (v ∷ verdicts)

-- there are as many verdicts as properties, and the verdict with a number is that of the property with this number
abbrev pub VerdictsAreByNumber : Type 0
VerdictsAreByNumber = (budget : ℕ) (properties : List Property) (verdicts : List Verdict) → AreVerdicts budget properties verdicts
    → (length verdicts ≡ length properties)
    × ((k : ℕ) (property : Property) (v : Verdict) → slice_get properties k ≡ Some property → slice_get verdicts k ≡ Some v
    → IsPropertyVerdict budget property v)

-- two lists of verdicts for the same properties and budget are equal
abbrev pub VerdictsAreDetermined : Type 0
VerdictsAreDetermined = (budget : ℕ) (properties : List Property) (verdicts others : List Verdict)
    → AreVerdicts budget properties verdicts → AreVerdicts budget properties others → verdicts ≡ others

-- each verdict is sound for the problem of its property's system
abbrev pub PropertyVerdictsAreSound : Type 0
PropertyVerdictsAreSound = (budget : ℕ) (property : Property) (v : Verdict) → IsPropertyVerdict budget property v
    → IsSound (task_for Forward property.system) (proof_limit Forward budget) v

-- and shows of that system what it says
abbrev pub PropertyVerdictsShow : Type 0
PropertyVerdictsShow = (budget : ℕ) (property : Property) (v : Verdict) → IsPropertyVerdict budget property v → VerdictShows Forward property.system v
