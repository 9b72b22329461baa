-- Names that are in a list, and names that are not.
use Rattle.std.proofs.Common.{◌≡◌, ◌<◌, Bool, true, false, List, Option, None, Some, Result, Ok, Err, IfOk, length, refl, sym, subst, cond, arith, ◌⊎◌, inl, inr}
use Rattle.std.specs.List.{list_any, position_or_len}
use Rattle.std.specs.Option.{option_or}
use Rattle.protocol_model.specs.declared.fault.ModelFault.{ModelFault}
use Rattle.protocol_model.specs.declared.fault.ModelFault.TheVariants.{Memory}
use Rattle.protocol_model.specs.Outcome.{IsOutcome, IsFault}
use Rattle.protocol_model.proofs.Lists.{position_below}

pub some_of_cond : {X : Type 0} (b : Bool) (n m : X) → Some n ≡ cond b (Some m) None → (b ≡ true) × (n ≡ m)
some_of_cond true n m e = (refl, cc)
some_of_cond false n m e = cc

pub none_of_cond : {X : Type 0} (b : Bool) (m : X) → None ≡ cond b (Some m) None → b ≡ false
none_of_cond true m e = cc
none_of_cond false m e = refl

pub number_below : {X : Type 0} (p : X → Bool) (xs : List X) → list_any p xs ≡ true → position_or_len p xs < length xs
number_below p xs h = grind (arith, position_below p xs, h)

-- a fault that stands where the test is positive
pub fault_where_true : (b : Bool) (fault e : ModelFault) → b ≡ true → IsFault fault e → (cond b (Some fault) None ≡ Some e) ⊎ (e ≡ Memory)
fault_where_true b fault e h (inl s) = inl (rw (h, s) refl)
fault_where_true b fault e h (inr m) = inr m

-- a fault that stands where the test is negative
pub fault_where_false : (b : Bool) (fault e : ModelFault) → b ≡ false → IsFault fault e → (cond b None (Some fault) ≡ Some e) ⊎ (e ≡ Memory)
fault_where_false b fault e h (inl s) = inl (rw (h, s) refl)
fault_where_false b fault e h (inr m) = inr m

pub or_left : (o p : Option ModelFault) (e : ModelFault) →
    (o ≡ Some e) ⊎ (e ≡ Memory) → (option_or o p ≡ Some e) ⊎ (e ≡ Memory)
or_left o p e (inl s) = inl (rw s refl)
or_left o p e (inr m) = inr m

pub or_right : (o p : Option ModelFault) (e : ModelFault) →
    o ≡ None → (p ≡ Some e) ⊎ (e ≡ Memory) → (option_or o p ≡ Some e) ⊎ (e ≡ Memory)
or_right o p e n (inl s) = inl (rw (n, s) refl)
or_right o p e n (inr m) = inr m

pub or_none : (o p : Option ModelFault) → o ≡ None → p ≡ None → option_or o p ≡ None
or_none o p n m = rw (n, m) refl

-- where the first fault is none, the answer for the second is that for both
pub outcome_after : {T : Type 0} (o p : Option ModelFault) (value : T) (r : Result T ModelFault) →
    o ≡ None → IsOutcome p value r → IsOutcome (option_or o p) value r
outcome_after o p value r n h = subst (λ q. IsOutcome (option_or q p) value r) (sym n) h

pub ok_always : {T E P : Type 0} (r : Result T E) → P → IfOk r (λ _. P)
ok_always (Ok x) p = p
ok_always (Err e) p = tt
