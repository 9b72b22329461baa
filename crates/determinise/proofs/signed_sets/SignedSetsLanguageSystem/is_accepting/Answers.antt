use Rattle.std.proofs.Common.{◌↔◌, List, ℕ, [], IsTrue, refl, subst}
use Rattle.atoms.specs.Covers.{IsSignature, AcceptsWithin}
use Rattle.atoms.proofs.ForCallers.{signature_accepts}
use Rattle.determinise.proofs.Signatures.{signed_subset, within_ends}
use Rattle.determinise.proofs.signed_sets.SignedSetsLanguageSystem.is_accepting.Goals as goal

pub is_accepting-requires : goal.is_accepting-requires
is_accepting-requires c =
    let s = c.self.inside in
    let i = c.self.invariant in
    let is = subst (λ (xs : List ℕ). IsSignature s.atoms.now xs c.state.inside.signature) c.as_slice.ensures (c.if-is_signature.ensures refl) in
    signed_subset s.subsets.now.automaton.now s.atoms.now i.2 i.0 i.1 c.state.inside.states c.state.inside.signature is

pub returns-then-is_signature : goal.returns-then-is_signature
returns-then-is_signature c =
    let s = c.self.inside in
    let n = s.subsets.now.automaton.now in
    let is = subst (λ (xs : List ℕ). IsSignature s.atoms.now xs c.state.inside.signature) c.as_slice.ensures (c.if-is_signature.ensures refl) in
    let there = signature_accepts n s.atoms.now c.self.invariant.2 c.state.inside.states c.state.inside.signature is [] in
    let some = c.is_accepting.ensures in
    subst (λ v. IsTrue c.is_accepting.result ↔ AcceptsWithin v.0 v.1 c.args.state.now []) c.self.view_is
    (subst (λ (signature : List ℕ). IsTrue c.is_accepting.result ↔ AcceptsWithin n s.atoms.now signature []) c.state.view_is
    ((λ t. there.1 (some.0 t)), (λ accepted. some.1 (there.0 accepted))))

pub returns : goal.returns
returns c =
    let s = c.self.inside in
    let n = s.subsets.now.automaton.now in
    let ends = within_ends n s.atoms.now c.self.invariant.2 c.self.invariant.1 c.state.inside.signature in
    let some = c.has_accepting_within.ensures in
    subst (λ v. IsTrue c.has_accepting_within.result ↔ AcceptsWithin v.0 v.1 c.args.state.now []) c.self.view_is
    (subst (λ (signature : List ℕ). IsTrue c.has_accepting_within.result ↔ AcceptsWithin n s.atoms.now signature []) c.state.view_is
    ((λ t. ends.1 (some.0 t)), (λ accepted. some.1 (ends.0 accepted))))
