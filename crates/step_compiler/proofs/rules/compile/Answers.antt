use Rattle.std.proofs.Common.{◌≡◌, ◌↔◌, ◌∙◌, ℕ, List, All, length, slice_get, sym, ap, subst, arith}
use Rattle.std.proofs.lemmas.List.Elements.{All-push}
use Rattle.protocol_model.specs.Words.{automata_letters}
use Rattle.transducers.specs.Transducer.{Relates}
use Rattle.sequence.proofs.ForCallers.{pushed_places}
use Rattle.step_compiler.specs.Rules.{IsRuleStep}
use Rattle.step_compiler.proofs.rules.compile.Goals as goal

pub compile_rule-requires : goal.compile_rule-requires
compile_rule-requires c = omega (arith, c.rules-test.true, c.len-count.ensures, ap (λ s. length s.rules) c.system.view_is)

pub rules-preserved : goal.rules-preserved
rules-preserved c =
    let s = c.args.system.now in
    let old = c.rules.compiled.items in
    let t = c.in_ok-compile_rule.field-0 in record {
      count = omega (arith, c.in_ok-push.ensures.len, c.rules.invariant.count);
      letters = subst (λ ts. All (λ t. t.letters ≡ automata_letters s) ts) (sym c.in_ok-push.ensures.items)
          (All-push (λ t. t.letters ≡ automata_letters s) old t c.rules.invariant.letters c.in_ok-compile_rule.ensures.letters);
      relates = λ r x e. pushed_places (λ k y. (u w : List ℕ) → Relates y u w ↔ IsRuleStep s k u w) old t c.rules.invariant.relates
          (subst (λ n. (u w : List ℕ) → Relates t u w ↔ IsRuleStep s n u w) (sym c.rules.invariant.count) c.in_ok-compile_rule.ensures.relates) r x
          (ap (λ l. slice_get l r) (sym c.in_ok-push.ensures.items) ∙ e);
    }

pub returns-clause-count : goal.returns-clause-count
returns-clause-count c =
    omega (arith, c.rules.invariant.count, c.rules-test.false, c.len-count.ensures, ap (λ s. length s.rules) c.system.view_is)
