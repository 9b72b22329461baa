-- Lists and configurations that fit.
use Rattle.std.proofs.Common.{◌≡◌, suc, true, List, [], ◌∷◌, ℕ, IsTrue, length, refl, sym, ap}
use Rattle.std.specs.List.{list_any}
use Rattle.std.proofs.lemmas.Bool.{and_parts, true≢false}
use Rattle.protocol_model.specs.declared.system.Section.{Section}
use Rattle.protocol_model.specs.declared.system.Configuration.{Configuration}
use Rattle.protocol_model.specs.System.{SystemData}
use Rattle.protocol_model.specs.Patterns.{list_fits, lists_fit, fits, row_matches, is_initial, is_bad}

-- lists that fit are one for each section
pub fits_length : (sections : List Section) (lists : List (List ℕ)) → lists_fit sections lists ≡ true → length lists ≡ length sections
fits_length [] [] h = refl
fits_length [] (list ∷ lists) h = absurd (true≢false (sym h))
fits_length (section ∷ sections) [] h = absurd (true≢false (sym h))
fits_length (section ∷ sections) (list ∷ lists) h =
    ap suc (fits_length sections lists (and_parts (list_fits section list) (lists_fit sections lists) h).1)

-- initial and bad configurations fit
pub initial_fits : (s : SystemData) (c : Configuration) → IsTrue (is_initial s c) → IsTrue (fits s c)
initial_fits s c h = (and_parts (fits s c) (list_any (row_matches c) s.init) h).0

pub bad_fits : (s : SystemData) (c : Configuration) → IsTrue (is_bad s c) → IsTrue (fits s c)
bad_fits s c h = (and_parts (fits s c) (list_any (row_matches c) s.bad) h).0
