-- The first fault of a text, as what its reading says; and that there is one.
use Rattle.std.proofs.Common.{◌≡◌, ◌≢◌, ◌⊎◌, ◌∙◌, inl, inr, ℕ, List, Option, None, Some, sym, ap, subst}
use Rattle.forms.specs.FirstFault.{IsMeaning, IsFault}
use Rattle.forms.specs.Grammar.{Grammar}
use Rattle.forms.specs.declared.fault.SyntaxFault.{SyntaxFault}
use Rattle.forms.specs.declared.fault.SyntaxFault.TheVariants as syntax
use Rattle.protocol_model.specs.declared.fault.ModelFault.{ModelFault}
use Rattle.protocol_model.specs.declared.fault.ModelFault.TheVariants as model
use Rattle.command_replies.specs.declared.refusal.Refusal.{Refusal}
use Rattle.command_replies.specs.declared.refusal.Refusal.TheVariants.{Syntax, Model}
use Rattle.command_replies.specs.Refusal.{IsRefusalIn}

module _ {T : Type 0} (grammar : Grammar T) (names_fault : T → Option ModelFault) (text : List ℕ) where
  pub by_grammar : (fault : SyntaxFault) (refusal : Refusal) → refusal ≡ Syntax fault → fault ≢ syntax.Memory
      → (fault ≢ syntax.Memory → IsFault grammar text fault) → IsRefusalIn grammar names_fault text refusal
  by_grammar fault refusal refused other is = subst (IsRefusalIn grammar names_fault text) (sym refused) (is other)

  pub by_names : (said : T) (fault : ModelFault) (refusal : Refusal) → refusal ≡ Model fault → fault ≢ model.Memory → IsMeaning grammar text said
      → (names_fault said ≡ Some fault) ⊎ (fault ≡ model.Memory) → IsRefusalIn grammar names_fault text refusal
  by_names said fault refusal refused other says why =
      subst (IsRefusalIn grammar names_fault text) (sym refused)
      (said, says, elim why [ inl is ↦ is | inr memory ↦ absurd (other memory) ])

  -- where a text has one meaning or one fault, and never both, it has one first fault of both kinds, or none
  module _ (said_once : (p q : T) → IsMeaning grammar text p → IsMeaning grammar text q → p ≡ q)
      (fault_once : (f g : SyntaxFault) → IsFault grammar text f → IsFault grammar text g → f ≡ g)
      (either : (f : SyntaxFault) (p : T) → IsFault grammar text f → IsMeaning grammar text p → ⊥) where
    pub refusal_once : (r q : Refusal) → IsRefusalIn grammar names_fault text r → IsRefusalIn grammar names_fault text q → r ≡ q
    refusal_once (Syntax f) (Syntax g) h k = ap Syntax (fault_once f g h k)
    refusal_once (Syntax f) (Model g) h k = absurd (either f k.0 h k.1)
    refusal_once (Model f) (Syntax g) h k = absurd (either g h.0 k h.1)
    refusal_once (Model f) (Model g) h k =
        let same : h.0 ≡ k.0 = said_once h.0 k.0 h.1 k.1 in
        let faults : Some f ≡ Some g = sym h.2 ∙ ap names_fault same ∙ k.2 in
        ap Model (cc faults)

    pub refused_or_faultless : (r : Refusal) (p : T) → IsRefusalIn grammar names_fault text r → IsMeaning grammar text p → names_fault p ≡ None → ⊥
    refused_or_faultless (Syntax f) p h says none = either f p h says
    refused_or_faultless (Model f) p h says none =
        let same : h.0 ≡ p = said_once h.0 p h.1 says in
        let faults : Some f ≡ None = sym h.2 ∙ ap names_fault same ∙ none in
        cc faults
