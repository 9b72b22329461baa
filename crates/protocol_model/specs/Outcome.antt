-- What the parts of the reader of names answer.
use Rattle.std.specs.Prelude.{◌≡◌, ◌⊎◌, ℕ, true, List, Option, None, Some, Result, Ok, Err}
use Rattle.std.specs.Option.{option_map}
use Rattle.protocol_syntax.specs.declared.protocol.Kind.{Kind}
use Rattle.forms.specs.declared.name.Name.{Name}
use Rattle.protocol_syntax.specs.declared.protocol.SectionText.{SectionText}
use Rattle.protocol_model.specs.declared.fault.ModelFault.{ModelFault}
use Rattle.protocol_model.specs.declared.fault.ModelFault.TheVariants.{Memory}
use Rattle.protocol_model.specs.Numbering.{section_names, section_named, letters_named, number_of}
use Rattle.protocol_model.specs.Faults.{is_among}

-- the answer is the value where there is no fault, and else the fault; it may always be running out of memory
abbrev pub IsOutcome : {T : Type 0} → Option ModelFault → T → Result T ModelFault → Type 0
IsOutcome fault value (Ok x) = (fault ≡ None) × (x ≡ value)
IsOutcome fault value (Err e) = (fault ≡ Some e) ⊎ (e ≡ Memory)

-- a fault, or running out of memory in its place
abbrev pub IsFault : ModelFault → ModelFault → Type 0
IsFault fault e = (e ≡ fault) ⊎ (e ≡ Memory)

-- number, kind and letters of the section of this name
pub record IsSectionNamed (sections : List SectionText) (name : Name) (number : ℕ) (kind : Kind) (letters : List (List ℕ)) : Type 0 where
  pub known : is_among (section_names sections) name ≡ true
  pub numbered : number ≡ number_of (section_names sections) name
  pub of_kind : option_map (λ section. section.kind) (section_named sections name) ≡ Some kind
  pub with_letters : letters ≡ letters_named sections name
