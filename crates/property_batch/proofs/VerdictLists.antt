-- Lists of verdicts: put one after another, by number, and that there is one.
use Rattle.std.proofs.Common.{◌≡◌, ◌<◌, ◌+◌, ℕ, zero, suc, List, [], ◌∷◌, ◌++◌, Some, get_or, length, take, refl, ap, ap₂, sym, subst, ◌∙◌, arith}
use Rattle.std.proofs.Common.{Result, Ok, Err, IfOk, IsOkAnd, Vec, Global}
use Rattle.std.proofs.lemmas.List.{take_more}
use Rattle.std.proofs.lemmas.Option.{slice_get_within, same_Some}
use Rattle.std.specs.List.{slice_get}
use Rattle.refinement.specs.declared.verdict.Verdict.{Verdict}
use Rattle.protocol_properties.specs.declared.properties.Property.{Property}
use Rattle.protocol_search.proofs.ForCallers.{verdict-once}
use Rattle.protocol_search.specs.Methods.{predicate_search}
use Rattle.protocol_search.specs.declared.search.Analysis.TheVariants.{Forward}
use Rattle.property_batch.specs.PropertyVerdicts.{IsPropertyVerdict, AreVerdicts, VerdictsAreByNumber, VerdictsAreDetermined, no_verdict, one_more}

verdicts-append : (budget : ℕ) (ps qs : List Property) (vs ws : List Verdict) → AreVerdicts budget ps vs → AreVerdicts budget qs ws
    → AreVerdicts budget (ps ++ qs) (vs ++ ws)
verdicts-append budget [] qs [] ws no_verdict rest = rest
verdicts-append budget [] qs (v ∷ vs) ws are rest = elim are [ ]
verdicts-append budget (p ∷ ps) qs [] ws are rest = elim are [ ]
verdicts-append budget (p ∷ ps) qs (v ∷ vs) ws (one_more is more) rest = one_more is (verdicts-append budget ps qs vs ws more rest)

-- the verdicts of two lists, one list after the other
pub verdicts-of-both : (budget : ℕ) (all ps qs : List Property) (new vs ws : List Verdict) → all ≡ ps ++ qs → new ≡ vs ++ ws
    → AreVerdicts budget ps vs → AreVerdicts budget qs ws → AreVerdicts budget all new
verdicts-of-both budget all ps qs new vs ws is_all is_new left right =
    subst (λ xs. AreVerdicts budget xs new) (sym is_all) (subst (AreVerdicts budget (ps ++ qs)) (sym is_new) (verdicts-append budget ps qs vs ws left right))

-- and so where the verdicts of both lists are made, and then those of all
pub verdicts-of-results : {E : Type 0} (budget : ℕ) (all ps qs : List Property) (first second r : Result (Vec Verdict Global) E) → all ≡ ps ++ qs
    → IfOk first (λ vs. AreVerdicts budget ps vs.items) → IfOk second (λ ws. AreVerdicts budget qs ws.items)
    → IfOk r (λ new. IsOkAnd first (λ vs. IsOkAnd second (λ ws. new.items ≡ vs.items ++ ws.items))) → IfOk r (λ new. AreVerdicts budget all new.items)
verdicts-of-results budget all ps qs first second (Err e) is_all left right joined = tt
verdicts-of-results budget all ps qs (Err e) second (Ok new) is_all left right joined = absurd joined
verdicts-of-results budget all ps qs (Ok vs) (Err e) (Ok new) is_all left right joined = absurd joined
verdicts-of-results budget all ps qs (Ok vs) (Ok ws) (Ok new) is_all left right joined =
    verdicts-of-both budget all ps qs new.items vs.items ws.items is_all joined left right

-- one verdict more
pub verdicts-and-one : (budget : ℕ) (all : List Property) (k : ℕ) (p : Property) (new vs : List Verdict) (v : Verdict) → k < length all → p ≡ get_or all k p
    → new ≡ vs ++ v ∷ [] → AreVerdicts budget (take k all) vs → IsPropertyVerdict budget p v → AreVerdicts budget (take (k + 1) all) new
verdicts-and-one budget all k p new vs v within read is_new are is =
    verdicts-of-both budget (take (k + 1) all) (take k all) (p ∷ []) new vs (v ∷ [])
    (take_more all k p within ∙ ap (λ x. take k all ++ x ∷ []) (sym read)) is_new are (one_more is no_verdict)

same-count : (budget : ℕ) (ps : List Property) (vs : List Verdict) → AreVerdicts budget ps vs → length vs ≡ length ps
same-count budget [] [] no_verdict = refl
same-count budget [] (v ∷ vs) are = elim are [ ]
same-count budget (p ∷ ps) [] are = elim are [ ]
same-count budget (p ∷ ps) (v ∷ vs) (one_more is more) = ap suc (same-count budget ps vs more)

at-number : (budget : ℕ) (ps : List Property) (vs : List Verdict) → AreVerdicts budget ps vs → (k : ℕ) (p : Property) (v : Verdict)
    → slice_get ps k ≡ Some p → slice_get vs k ≡ Some v → IsPropertyVerdict budget p v
at-number budget [] vs are k p v here there = absurd (let w = slice_get_within [] k p here in omega (arith, w))
at-number budget (q ∷ ps) [] are k p v here there = elim are [ ]
at-number budget (q ∷ ps) (w ∷ vs) (one_more is more) zero p v here there =
    subst (λ x. IsPropertyVerdict budget x v) (same_Some q p here) (subst (λ x. IsPropertyVerdict budget q x) (same_Some w v there) is)
at-number budget (q ∷ ps) (w ∷ vs) (one_more is more) (suc k) p v here there = at-number budget ps vs more k p v here there

pub by-number : VerdictsAreByNumber
by-number budget ps vs are = (same-count budget ps vs are, at-number budget ps vs are)

pub once : VerdictsAreDetermined
once budget [] [] [] no_verdict others = refl
once budget [] [] (w ∷ ws) are others = elim others [ ]
once budget [] (v ∷ vs) ws are others = elim are [ ]
once budget (p ∷ ps) [] ws are others = elim are [ ]
once budget (p ∷ ps) (v ∷ vs) [] are others = elim others [ ]
once budget (p ∷ ps) (v ∷ vs) (w ∷ ws) (one_more is more) (one_more other rest) =
    ap₂ (λ x xs. x ∷ xs) (verdict-once p.system (predicate_search Forward budget) v w is other) (once budget ps vs ws more rest)
