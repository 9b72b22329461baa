use Rattle.std.proofs.Common.{◌≡◌, ◌↔◌, ℕ, List, All, Some, length, slice_get}
use Rattle.protocol_model.specs.Words.{automata_letters}
use Rattle.transducers.specs.Transducer.{Transducer, Relates}
use Rattle.step_compiler.specs.Rules.{IsRuleStep}
use Rattle.step_compiler.proofs.rules.compile.Given as goal

abbrev pub invariant-rules : goal.invariant-rules
invariant-rules l = record {
  count : length l.compiled.items ≡ l.rule;
  letters : All (λ t. t.letters ≡ automata_letters l.system) l.compiled.items;
  relates : (r : ℕ) (t : Transducer) → slice_get l.compiled.items r ≡ Some t → (u w : List ℕ) → Relates t u w ↔ IsRuleStep l.system r u w;
}
