-- Lists that fit sections, and patterns of valid rows.
use Rattle.std.proofs.Common.{◌≡◌, ℕ, ◌≤◌, false, List, [], ◌∷◌, length, refl, ap, suc}
use Rattle.std.specs.List.{AllByRecursion}
use Rattle.std.proofs.Math.Bool.{and-false}
use Rattle.protocol_syntax.specs.declared.limits.TheConstants.{MAX_ATOMS}
use Rattle.protocol_model.specs.declared.system.Section.{Section}
use Rattle.protocol_model.specs.declared.system.Row.{Row}
use Rattle.protocol_model.specs.Patterns.{lists_fit, list_fits}

pub lists_fit_lengths : (sections : List Section) (lists : List (List ℕ)) → (length sections ≡ length lists → ⊥) → lists_fit sections lists ≡ false
lists_fit_lengths [] [] h = absurd (h refl)
lists_fit_lengths [] (list ∷ lists) h = refl
lists_fit_lengths (section ∷ sections) [] h = refl
lists_fit_lengths (section ∷ sections) (list ∷ lists) h =
    rw (lists_fit_lengths sections lists (λ e. h (ap suc e))) (and-false (list_fits section list))

-- the patterns of a row have no more atoms than the limit
abbrev pub HasShortPatterns : Row → Type 0
HasShortPatterns row = AllByRecursion (λ part. length part.1.atoms ≤ MAX_ATOMS) row.parts
