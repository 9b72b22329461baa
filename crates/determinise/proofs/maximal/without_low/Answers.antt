use Rattle.std.proofs.Common.{◌≡◌, ◌+◌, ◌-◌, ◌<◌, ◌++◌, ◌∷◌, [], ℕ, List, Contains, length, take, drop, get_or, sym, ap, subst, ◌∙◌, arith, add-one, append_assoc, drop-cons}
use Rattle.std.proofs.lemmas.List.{append-nil, drop_all, length-drop, take_all}
use Rattle.reduction.specs.Reduction.{KeepsStarts}
use Rattle.reduction.specs.Simulation.{IsBelow}
use Rattle.reduction.proofs.ForCallers.{starts_keep, states_keep_less, states_keep_twice}
use Rattle.reduction.proofs.ForCallers.{below_accepts}
use Rattle.determinise.proofs.maximal.without_low.Goals as goal
use Rattle.determinise.proofs.maximal.without_low.Goals.{then-not-is_below_one+in_ok-push, else-not-is_below_one}

pub states-init : goal.states-init
states-init c n included =
    subst (λ xs. KeepsStarts n c.args.states.now (xs ++ drop 0 c.args.states.now)) (sym c.in_ok-kept.ensures.items) (starts_keep n c.args.states.now)

pub states-preserved : goal.states-preserved
states-preserved c n included =
    let pairs = c.args.pairs.now in
    let states = c.args.states.now in
    let kept = c.states.kept.items in
    let i = c.states.at in
    let q = get_or states i 0 in
    let after = drop (i + 1) states in
    let lt : i < length states = omega arith in
    let opened : kept ++ drop i states ≡ kept ++ q ∷ after = ap (λ ys. kept ++ ys) (rw add-one (drop-cons states i 0 lt)) in
    let so = subst (KeepsStarts n states) opened (c.states.invariant n included) in
    elim c.if-not-is_below_one.branch [
      | then-not-is_below_one+in_ok-push w ↦
          subst (λ xs. KeepsStarts n states (xs ++ after)) (sym (ap (λ v. v.items) w.kept-is ∙ w.in_ok-push.ensures.items))
          (subst (KeepsStarts n states) (sym (append_assoc kept (q ∷ []) after)) so)
      | else-not-is_below_one w ↦
          let all : take (length states - (i + 1)) after ≡ after = take_all (length states - (i + 1)) after (omega (arith, length-drop (i + 1) states)) in
          let among = subst (λ (ys : List ℕ). (r : ℕ) × Contains (c.deref.result.now ++ ys) r × IsBelow pairs q r) all
          (c.is_below_one.ensures w.if-not-is_below_one.false) in
          let below = subst (λ (xs : List ℕ). (r : ℕ) × Contains (xs ++ after) r × IsBelow pairs q r) c.deref.ensures.value among in
          subst (λ xs. KeepsStarts n states (xs ++ after)) (sym (ap (λ v. v.items) w.kept-is))
          (states_keep_twice n states (kept ++ q ∷ after) (kept ++ after) so
          (states_keep_less n kept q after (λ labels along. (below.0, below.1, below_accepts n pairs included q below.0 below.2 labels along))))
    ]

pub returns : goal.returns
returns c n included =
    let kept = c.states.kept.items in
    let states = c.args.states.now in
    subst (KeepsStarts n states) (ap (λ ys. kept ++ ys) (drop_all c.states.at states c.states-test.false) ∙ append-nil kept) (c.states.invariant n included)
