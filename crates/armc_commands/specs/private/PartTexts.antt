-- The texts of the parts of some properties, told one after the other.
use Rattle.std.specs.Prelude.{◌≡◌, ℕ, List, None, Some, map}
use Rattle.refinement.specs.declared.verdict.Verdict.{Verdict}
use Rattle.protocol_properties.specs.declared.properties.Property.{Property}
use Rattle.armc_commands.specs.declared.search_reply.Telling.TheVariants.{Certificate}
use Rattle.armc_commands.specs.SearchReply.{PartAnswer, IsAnswerTo, HoldsOfParts, titled, texts_of}
use Rattle.armc_commands.specs.Commands.CheckAll.{property_part, property_parts}

-- the verdict on the property is told by this text, after the property's title
pub record IsToldPart (budget : ℕ) (property : Property) (v : Verdict) (text : List ℕ) : Type 0 where
  pub answer : PartAnswer
  pub is_answer : IsAnswerTo (Certificate None) (property_part budget property) answer
  pub verdict_is : answer.verdict ≡ v
  pub text_is : text ≡ titled (Some property.name) answer.text

-- the verdicts on the properties are told by this text
pub record AreTold (budget : ℕ) (said : List Property) (verdicts : List Verdict) (text : List ℕ) : Type 0 where
  pub answers : List PartAnswer
  pub are_answers : HoldsOfParts (IsAnswerTo (Certificate None)) (property_parts budget said) answers
  pub verdicts_are : map (λ answer. answer.verdict) answers ≡ verdicts
  pub text_is : text ≡ texts_of (property_parts budget said) answers
