use Rattle.std.proofs.Common.{List, ℕ, IfOk, refl, sym, subst}
use Rattle.atoms.specs.Covers.{IsSignature}
use Rattle.atoms.proofs.ForCallers.{signature_accepts}
use Rattle.bit_subsets.specs.Subsets.{IsSubset}
use Rattle.determinise.proofs.Signatures.{HasSigned, GoOn, plain_subset, signed_subset, signed_go_on, within_accepts, within_states}
use Rattle.determinise.proofs.signed_sets.SignedSetsLanguageSystem.successors.Goals as goal

pub signed_successors-requires-clause-subset : goal.signed_successors-requires-clause-subset
signed_successors-requires-clause-subset c =
    let s = c.self.inside in
    let i = c.self.invariant in
    let is = subst (λ (xs : List ℕ). IsSignature s.atoms.now xs c.state.inside.signature) c.as_slice.ensures (c.if-is_signature.ensures refl) in
    signed_subset s.subsets.now.automaton.now s.atoms.now i.2 i.0 i.1 c.state.inside.states c.state.inside.signature is

pub returns-then-is_signature : goal.returns-then-is_signature
returns-then-is_signature c =
    let s = c.self.inside in
    let n = s.subsets.now.automaton.now in
    let rows = s.atoms.now in
    let atoms = c.self.invariant.2 in
    let states = c.state.inside.states in
    let signature = c.state.inside.signature in
    let result = c.signed_successors.result in
    let is = subst (λ (xs : List ℕ). IsSignature rows xs signature) c.as_slice.ensures (c.if-is_signature.ensures refl) in
    subst (λ v. GoOn result v c.args.state.now) c.self.view_is (subst (GoOn result (n, rows)) c.state.view_is
    (signed_go_on n rows atoms result states signature (signature_accepts n rows atoms states signature is) c.signed_successors.ensures))

pub signed_successors-requires-2-clause-subset : goal.signed_successors-requires-2-clause-subset
signed_successors-requires-2-clause-subset c =
    let s = c.self.inside in
    let n = s.subsets.now.automaton.now in
    let i = c.self.invariant in
    let within = c.in_ok-within.within.items in
    subst (IsSubset n) (sym c.from_vec-states.ensures)
    (plain_subset n i.0 i.1 within (within_states n s.atoms.now i.2 c.state.inside.signature within c.in_ok-within.ensures))

pub returns : goal.returns
returns c =
    let s = c.self.inside in
    let n = s.subsets.now.automaton.now in
    let rows = s.atoms.now in
    let atoms = c.self.invariant.2 in
    let within = c.in_ok-within.within.items in
    let signature = c.state.inside.signature in
    let result = c.signed_successors-2.result in
    subst (λ v. GoOn result v c.args.state.now) c.self.view_is (subst (GoOn result (n, rows)) c.state.view_is
    (signed_go_on n rows atoms result within signature (within_accepts n rows atoms signature within c.in_ok-within.ensures)
    (subst (λ (xs : List ℕ). IfOk result (λ signed. HasSigned n rows xs signed.items)) c.from_vec-states.ensures c.signed_successors-2.ensures)))
