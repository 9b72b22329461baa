use Rattle.std.proofs.Common.{◌∷◌, [], List, Option, ℕ, None, Contains, length, sym, ap, subst, ◌∙◌, arith, length-append}
use Rattle.determinise.specs.private.Subsets.{ArePlainWhereFalse}
use Rattle.determinise.proofs.Closures.{plain_more}
use Rattle.determinise.proofs.silent.silent_flags.Goals as goal

pub states-preserved : goal.states-preserved
states-preserved c =
    let flags = c.states.flags.items in
    let flag = c.has_silent_edge.result in
    record {
      count = ap length c.in_ok-push.ensures.items ∙ (let a = length-append flags (flag ∷ []) in let b = c.states.invariant.count in omega arith);
      plain = subst (ArePlainWhereFalse c.args.automaton.now) (sym c.in_ok-push.ensures.items)
          (plain_more c.args.automaton.now flags flag c.states.state c.states.invariant.count c.states.invariant.plain
          (λ e q edge. c.has_silent_edge.ensures e q (subst (λ (xs : List (Option ℕ × ℕ)). Contains xs (None, q)) (sym c.edges_from.ensures.edges) edge)));
    }
