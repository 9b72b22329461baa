-- A row that names no section matches every configuration.
use Rattle.std.proofs.Common.{◌≡◌, ◌↔◌, ℕ, true, List, [], ◌∷◌, refl, sym, subst, arith}
use Rattle.std.proofs.lemmas.Bool.{and_parts, and_from}
use Rattle.protocol_model.specs.declared.system.Section.{Section}
use Rattle.protocol_model.specs.declared.system.Pattern.{Pattern}
use Rattle.protocol_model.specs.System.{SystemData, IsValidRow}
use Rattle.protocol_model.specs.Patterns.{fits}
use Rattle.section_patterns.specs.ConfigurationWords.{IsConfigurationWord}
use Rattle.section_patterns.specs.private.Lists.{IsWordOfRows}

pub free_is_valid : (sections : List Section) (parts : List (ℕ × Pattern)) → parts ≡ [] → IsValidRow sections (record { parts = parts })
free_is_valid sections parts none = subst (λ (xs : List (ℕ × Pattern)). IsValidRow sections (record { parts = xs })) (sym none)
    (record { in_range = tt; patterns = tt; distinct = λ i j d less within. absurd (omega arith) })

pub free_words : (s : SystemData) (parts : List (ℕ × Pattern)) → parts ≡ [] → (w : List ℕ) → (A : Type 0)
    → (A ↔ IsWordOfRows s (record { parts = parts } ∷ []) w) → A ↔ IsConfigurationWord s w
free_words s parts none w A alike =
    let free = subst (λ (xs : List (ℕ × Pattern)). A ↔ IsWordOfRows s (record { parts = xs } ∷ []) w) none alike in (
      λ a. let (c, matches, spelled) = free.0 a in (c, ((and_parts (fits s c) true matches).0, spelled)),
      λ (c, (fit, spelled)). free.1 (c, and_from (fits s c) true fit refl, spelled),
    )
