-- The first fault of the letters of a move is that of its parts, one after the other.
use Rattle.std.proofs.Common.{◌≡◌, List, [], ◌∷◌, ◌++◌, Option, None, Some, refl, ap, sym, ◌∙◌}
use Rattle.std.specs.List.{flat_map}
use Rattle.std.specs.Option.{option_or, option_map_or}
use Rattle.protocol_syntax.specs.declared.protocol.Guard.{Guard}
use Rattle.protocol_syntax.specs.declared.protocol.Move.TheVariants.{At, Stack}
use Rattle.protocol_model.specs.declared.fault.ModelFault.{ModelFault}
use Rattle.protocol_model.specs.Faults.{first_fault_of}
use Rattle.protocol_model.specs.private.Traversal.{pair_fault, move_fault}
use Rattle.protocol_model.proofs.Walk.{option_or_none, option_or_assoc}

-- the letters before do not count
letters_after : {L : Type 0} (fault : L → Option ModelFault) (earlier letters : List L) →
    first_fault_of (λ _. fault) earlier letters ≡ first_fault_of (λ _. fault) [] letters
letters_after fault earlier [] = refl
letters_after fault earlier (a ∷ letters) =
    ap (λ o. option_or (fault a) o) (letters_after fault (earlier ++ a ∷ []) letters ∙ sym (letters_after fault (a ∷ []) letters))

letters_append : {L : Type 0} (fault : L → Option ModelFault) (first second : List L) →
    first_fault_of (λ _. fault) [] (first ++ second) ≡ option_or (first_fault_of (λ _. fault) [] first) (first_fault_of (λ _. fault) [] second)
letters_append fault [] second = refl
letters_append fault (a ∷ first) second =
    ap (λ o. option_or (fault a) o)
    (letters_after fault (a ∷ []) (first ++ second) ∙ letters_append fault first second
    ∙ ap (λ o. option_or o (first_fault_of (λ _. fault) [] second)) (sym (letters_after fault (a ∷ []) first)))
    ∙ sym (option_or_assoc (fault a) (first_fault_of (λ _. fault) (a ∷ []) first) (first_fault_of (λ _. fault) [] second))

guards_fault : {L : Type 0} (fault : L → Option ModelFault) (earlier guards : List (Guard L)) →
    first_fault_of (λ _ guard. first_fault_of (λ _. fault) [] guard.letters) earlier guards
    ≡ first_fault_of (λ _. fault) [] (flat_map (λ guard. guard.letters) guards)
guards_fault fault earlier [] = refl
guards_fault fault earlier (g ∷ guards) =
    ap (λ o. option_or (first_fault_of (λ _. fault) [] g.letters) o) (guards_fault fault (earlier ++ g ∷ []) guards)
    ∙ sym (letters_append fault g.letters (flat_map (λ guard. guard.letters) guards))

pub at_fault : {L S : Type 0} (fault : L → Option ModelFault) (left_fault : List (L × L) → L → Option ModelFault) (of_set : S → List L)
    (f t : L) (guards : List (Guard L)) (table : List (L × L)) →
    option_or (first_fault_of (λ _. fault) [] (f ∷ t ∷ []))
    (option_or (first_fault_of (λ _ guard. first_fault_of (λ _. fault) [] guard.letters) [] guards)
    (first_fault_of (pair_fault fault left_fault) [] table))
    ≡ move_fault fault left_fault of_set (At f t guards table)
at_fault fault left_fault of_set f t guards table =
    let entries = first_fault_of (pair_fault fault left_fault) [] table in
    let own = first_fault_of (λ _. fault) [] (f ∷ t ∷ []) in
    sym (option_or_assoc own (first_fault_of (λ _ guard. first_fault_of (λ _. fault) [] guard.letters) [] guards) entries)
    ∙ ap (λ o. option_or (option_or own o) entries) (guards_fault fault [] guards)
    ∙ ap (λ o. option_or o entries) (sym (letters_append fault (f ∷ t ∷ []) (flat_map (λ guard. guard.letters) guards)))

pub stack_fault : {L S : Type 0} (fault : L → Option ModelFault) (left_fault : List (L × L) → L → Option ModelFault) (of_set : S → List L)
    (pop : Option L) (push : List L) →
    option_or (option_map_or fault pop None) (first_fault_of (λ _. fault) [] push) ≡ move_fault fault left_fault of_set (Stack pop push)
stack_fault fault left_fault of_set None push = sym (option_or_none (first_fault_of (λ _. fault) [] push))
stack_fault fault left_fault of_set (Some a) push =
    ap (λ o. option_or (fault a) o) (sym (letters_after fault (a ∷ []) push))
    ∙ sym (option_or_none (first_fault_of (λ _. fault) [] (a ∷ push)))
