-- The reply of `checkall`, and what it promises.
use Rattle.std.specs.Prelude.{◌≡◌, ◌⊎◌, ℕ, List, None, Some, map, codes}
use Rattle.forms.specs.declared.name.Name.{Name}
use Rattle.protocol_syntax.specs.declared.protocol.RowText.{RowText}
use Rattle.protocol_syntax.specs.Properties.{AreProperties, properties}
use Rattle.protocol_model.specs.System.{SystemData}
use Rattle.protocol_properties.specs.Properties.{first_properties_fault, properties_of}
use Rattle.protocol_properties.specs.declared.properties.Property.{Property}
use Rattle.protocol_search.specs.Methods.{predicate_search}
use Rattle.protocol_search.specs.declared.search.Analysis.TheVariants.{Forward}
use Rattle.command_replies.specs.declared.refusal.Refusal.{Refusal}
use Rattle.command_replies.specs.declared.status.Status.TheVariants as status
use Rattle.command_replies.specs.declared.reply.Reply.{Reply}
use Rattle.armc_commands.specs.declared.search_reply.Telling.TheVariants.{Certificate}
use Rattle.command_replies.specs.Refusal.{IsRefusalIn}
use Rattle.command_replies.specs.Reply.{refusal_reply}
use Rattle.armc_commands.specs.SearchReply.{Part, IsSearchReply}
use Rattle.armc_commands.specs.SearchPromise.{SearchPromise}

-- the text says these properties of the system, and no name in it has a fault
pub record SaysProperties (s : SystemData) (text : List ℕ) (said : List Property) : Type 0 where
  pub blocks : List (Name × RowText)
  pub are_blocks : AreProperties text blocks
  pub no_fault : first_properties_fault s blocks ≡ None
  pub said_is : said ≡ properties_of s blocks

-- the part of a property, with its name as the title: the search of its own system with the whole budget
abbrev pub property_part : ℕ → Property → Part
property_part budget property = record { title = Some property.name; system = property.system; search = predicate_search Forward budget }

-- a part for each property, in their order
abbrev pub property_parts : ℕ → List Property → List Part
property_parts budget said = map (property_part budget) said

-- the first fault of the text of the properties is told
pub record RefusesProperties (s : SystemData) (text : List ℕ) (reply : Reply) : Type 0 where
  pub refusal : Refusal
  pub refused : IsRefusalIn properties (first_properties_fault s) text refusal
  pub reply_is : reply ≡ refusal_reply (codes "properties") status.CertificateRefused refusal

-- the verdict on each property that the text says is told as `check` tells it
pub record ChecksAll (s : SystemData) (budget : ℕ) (text : List ℕ) (reply : Reply) : Type 0 where
  pub said : List Property
  pub says : SaysProperties s text said
  pub replies : IsSearchReply (Certificate None) (property_parts budget said) reply

-- the reply for a system, a budget and the text of the properties
abbrev pub IsCheckAllReply : SystemData → ℕ → List ℕ → Reply → Type 0
IsCheckAllReply s budget text reply = RefusesProperties s text reply ⊎ ChecksAll s budget text reply

-- each part of the reply comes from the one history of the search of its own property, and what it tells is true
pub record KeepsAll (s : SystemData) (budget : ℕ) (text : List ℕ) (reply : Reply) : Type 0 where
  pub said : List Property
  pub says : SaysProperties s text said
  pub searched : SearchPromise (Certificate None) (property_parts budget said) reply

-- the first fault of the text is told, or each part keeps its promise
abbrev pub CheckAllPromise : SystemData → ℕ → List ℕ → Reply → Type 0
CheckAllPromise s budget text reply = RefusesProperties s text reply ⊎ KeepsAll s budget text reply
