-- Items whose faults are looked for one after the other, each together with the items before it.
use Rattle.std.proofs.Common.{◌≡◌, ℕ, ◌+◌, ◌<◌, ◌≤◌, List, [], ◌∷◌, ◌++◌, Option, None, Some, map, length, take, get_or, refl, ap, sym, subst, ◌∙◌, drop, append_assoc, ◌⊎◌, inl, inr}
use Rattle.std.specs.Option.{option_or}
use Rattle.std.proofs.lemmas.List.{take_more, take_all, append-nil, map-append, take-append-drop}
use Rattle.protocol_model.specs.declared.fault.ModelFault.{ModelFault}
use Rattle.protocol_model.specs.declared.fault.ModelFault.TheVariants.{Memory}
use Rattle.protocol_model.specs.Faults.{first_fault_of}

pub option_or_none : {T : Type 0} (o : Option T) → option_or o None ≡ o
option_or_none None = refl
option_or_none (Some x) = refl

pub option_or_assoc : {T : Type 0} (o p q : Option T) → option_or (option_or o p) q ≡ option_or o (option_or p q)
option_or_assoc None p q = refl
option_or_assoc (Some x) p q = refl

pub first_fault_of_push : {X : Type 0} (fault : List X → X → Option ModelFault) (earlier xs : List X) (x : X) →
    first_fault_of fault earlier (xs ++ x ∷ []) ≡ option_or (first_fault_of fault earlier xs) (fault (earlier ++ xs) x)
first_fault_of_push fault earlier [] x =
    option_or_none (fault earlier x) ∙ ap (λ ys. fault ys x) (sym (append-nil earlier))
first_fault_of_push fault earlier (y ∷ ys) x =
    ap (λ o. option_or (fault earlier y) o) (first_fault_of_push fault (earlier ++ y ∷ []) ys x)
    ∙ ap (λ zs. option_or (fault earlier y) (option_or (first_fault_of fault (earlier ++ y ∷ []) ys) (fault zs x)))
    (append_assoc earlier (y ∷ []) ys)
    ∙ sym (option_or_assoc (fault earlier y) (first_fault_of fault (earlier ++ y ∷ []) ys) (fault (earlier ++ y ∷ ys) x))

option_or_some : {T : Type 0} (o p q : Option T) (e : T) → (p ≡ Some e → q ≡ Some e) → option_or o p ≡ Some e → option_or o q ≡ Some e
option_or_some None p q e h s = h s
option_or_some (Some x) p q e h s = s

pub first_fault_of_stop : {X : Type 0} (fault : List X → X → Option ModelFault) (earlier xs ys : List X) (e : ModelFault) →
    first_fault_of fault earlier xs ≡ Some e → first_fault_of fault earlier (xs ++ ys) ≡ Some e
first_fault_of_stop fault earlier [] ys e h = cc
first_fault_of_stop fault earlier (x ∷ xs) ys e h =
    option_or_some (fault earlier x) (first_fault_of fault (earlier ++ x ∷ []) xs)
    (first_fault_of fault (earlier ++ x ∷ []) (xs ++ ys)) e
    (first_fault_of_stop fault (earlier ++ x ∷ []) xs ys e) h

-- the first i items have no fault, and these are their values
pub record IsWalked {X Y : Type 0} (fault : List X → X → Option ModelFault) (value : X → Y) (items : List X) (i : ℕ) (out : List Y) : Type 0 where
  pub clean : first_fault_of fault [] (take i items) ≡ None
  pub values : out ≡ map value (take i items)

pub walked_next : {X Y : Type 0} (fault : List X → X → Option ModelFault) (value : X → Y) (items : List X) (i : ℕ) (out : List Y) (d : X) (y : Y) →
    i < length items → IsWalked fault value items i out → fault (take i items) (get_or items i d) ≡ None →
    y ≡ value (get_or items i d) → IsWalked fault value items (i + 1) (out ++ y ∷ [])
walked_next fault value items i out d y h w n e =
    record {
      clean = rw (take_more items i d h, first_fault_of_push fault [] (take i items) (get_or items i d), w.clean) n;
      values = rw (take_more items i d h, map-append value (take i items) (get_or items i d ∷ []), ← w.values, e) refl;
    }

pub walked_stop : {X Y : Type 0} (fault : List X → X → Option ModelFault) (value : X → Y) (items : List X) (i : ℕ) (out : List Y) (d : X) (e : ModelFault) →
    i < length items → IsWalked fault value items i out → fault (take i items) (get_or items i d) ≡ Some e →
    first_fault_of fault [] items ≡ Some e
walked_stop fault value items i out d e h w s =
    let first : first_fault_of fault [] (take (i + 1) items) ≡ Some e =
    rw (take_more items i d h, first_fault_of_push fault [] (take i items) (get_or items i d), w.clean) s in
    subst (λ xs. first_fault_of fault [] xs ≡ Some e) (take-append-drop (i + 1) items)
    (first_fault_of_stop fault [] (take (i + 1) items) (drop (i + 1) items) e first)

pub walked_all : {X Y : Type 0} (fault : List X → X → Option ModelFault) (value : X → Y) (items : List X) (i : ℕ) (out : List Y) →
    length items ≤ i → IsWalked fault value items i out →
    (first_fault_of fault [] items ≡ None) × (out ≡ map value items)
walked_all fault value items i out h w =
    let P : List _ → Type 0 = λ xs. (first_fault_of fault [] xs ≡ None) × (out ≡ map value xs) in
    subst P (take_all i items h) (w.clean, w.values)

-- where the next item has a fault, the items have this fault
pub stops : {X Y : Type 0} (fault : List X → X → Option ModelFault) (value : X → Y) (items : List X) (i : ℕ) (out : List Y) (x : X) (e : ModelFault) →
    i < length items → IsWalked fault value items i out → x ≡ get_or items i x →
    (fault (take i items) x ≡ Some e) ⊎ (e ≡ Memory) → (first_fault_of fault [] items ≡ Some e) ⊎ (e ≡ Memory)
stops fault value items i out x e h w is (inl s) = inl (walked_stop fault value items i out x e h w (rw (← is) s))
stops fault value items i out x e h w is (inr m) = inr m

-- where the next item has no fault, the walk goes on
pub goes_on : {X Y : Type 0} (fault : List X → X → Option ModelFault) (value : X → Y) (items : List X) (i : ℕ) (out : List Y) (x : X) (y : Y) →
    i < length items → IsWalked fault value items i out → x ≡ get_or items i x →
    fault (take i items) x ≡ None → y ≡ value x → IsWalked fault value items (i + 1) (out ++ y ∷ [])
goes_on fault value items i out x y h w is n e =
    walked_next fault value items i out x y h w (rw (← is) n) (rw (← is) e)
