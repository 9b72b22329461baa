use Rattle.std.proofs.Common.{◌≡◌, ℕ, List, [], ◌∷◌, ◌++◌, None, refl}
use Rattle.protocol_model.specs.Faults.{first_fault_of}
use Rattle.protocol_model.proofs.copies.IdentityMoveRenaming.set.Goals as goal

no_fault : (earlier letters : List ℕ) → first_fault_of (λ _ _. None) earlier letters ≡ None
no_fault earlier [] = refl
no_fault earlier (a ∷ letters) = no_fault (earlier ++ a ∷ []) letters

pub returns : goal.returns
returns c = (no_fault [] c.args.set.now, c.in_ok-copied.ensures)
