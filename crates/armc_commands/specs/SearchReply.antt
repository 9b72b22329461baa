-- The reply of a command that searches: its parts, each with the verdict of its search and the text that tells it.
use Rattle.std.specs.Prelude.{◌≡◌, ℕ, Bool, true, false, List, [], ◌∷◌, ◌++◌, Option, None, Some, map, codes, if◌then◌else◌}
use Rattle.std.specs.List.{list_any, flat_map}
use Rattle.protocol_model.specs.System.{SystemData}
use Rattle.search_history.specs.declared.log.Log.{Log}
use Rattle.search_report.specs.Report.{report_text}
use Rattle.refinement.specs.Verdicts.{log_in}
use Rattle.refinement.specs.declared.verdict.Verdict.{Verdict}
use Rattle.refinement.specs.declared.verdict.Verdict.TheVariants.{Safe, Unsafe, Unknown}
use Rattle.protocol_search.specs.Analyses.{IsVerdictText}
use Rattle.protocol_search.specs.Verdicts.{IsVerdictOf}
use Rattle.protocol_search.specs.declared.search.Search.{Search}
use Rattle.command_replies.specs.declared.status.Status.{Status}
use Rattle.command_replies.specs.declared.status.Status.TheVariants as status
use Rattle.command_replies.specs.declared.reply.Reply.{Reply}
use Rattle.armc_commands.specs.declared.search_reply.Telling.{Telling}
use Rattle.armc_commands.specs.declared.search_reply.Telling.TheVariants as telling
use Rattle.command_replies.specs.Line.{line}
use Rattle.armc_commands.specs.Summary.{summary}

-- one part of a reply: its title, where it has one; a system, and what is searched of it
pub record Part : Type 0 where
  pub title : Option (List ℕ)
  pub system : SystemData
  pub search : Search

-- the one part of a reply without titles
abbrev pub only_part : SystemData → Search → List Part
only_part s search = (record { title = None; system = s; search = search }) ∷ []

-- the answer to a part: the verdict of its search, and the text that tells it
pub record PartAnswer : Type 0 where
  pub verdict : Verdict
  pub text : List ℕ

-- the verdict is told by this text: that of the verdict itself, or the summary of the chain of some number
abbrev pub IsTold : Telling → Part → Verdict → List ℕ → Type 0
IsTold (telling.Certificate report) part v text = IsVerdictText part.search.analysis part.system v text
IsTold (telling.Summary number) part v text = text ≡ summary number v

pub record IsAnswerTo (told : Telling) (part : Part) (answer : PartAnswer) : Type 0 where
  pub is_verdict : IsVerdictOf part.system part.search answer.verdict
  pub is_told : IsTold told part answer.verdict answer.text

-- the property holds of each part and its answer, and there are as many answers as parts
abbrev pub HoldsOfParts : (Part → PartAnswer → Type 0) → List Part → List PartAnswer → Type 0
HoldsOfParts P [] [] = Unit {0}
HoldsOfParts P [] (answer ∷ answers) = ⊥
HoldsOfParts P (part ∷ parts) [] = ⊥
HoldsOfParts P (part ∷ parts) (answer ∷ answers) = P part answer × HoldsOfParts P parts answers

abbrev pub is_unsafe : Verdict → Bool
is_unsafe (Safe proof log) = false
is_unsafe (Unsafe words log) = true
is_unsafe (Unknown log) = false

abbrev pub is_unknown : Verdict → Bool
is_unknown (Safe proof log) = false
is_unknown (Unsafe words log) = false
is_unknown (Unknown log) = true

-- the status of some verdicts: unsafe where one of them is unsafe, else unknown where one of them is unknown, and else done
abbrev pub status_of : List Verdict → Status
status_of verdicts = if list_any is_unsafe verdicts then status.Unsafe else (if list_any is_unknown verdicts then status.Unknown else status.Done)

-- the report of a log, where it is asked for, and else no text
abbrev pub report_of : Telling → Log → List ℕ
report_of (telling.Certificate (Some method)) log = report_text method log
report_of (telling.Certificate None) log = []
report_of (telling.Summary number) log = []

-- the line of a property's name before a text, where the text has a title
abbrev pub titled : Option (List ℕ) → List ℕ → List ℕ
titled None text = text
titled (Some title) text = line (codes "property " ++ title) ++ text

-- the texts of the answers one after the other, each with the title of its part
abbrev pub texts_of : List Part → List PartAnswer → List ℕ
texts_of [] answers = []
texts_of (part ∷ parts) [] = []
texts_of (part ∷ parts) (answer ∷ answers) = titled part.title answer.text ++ texts_of parts answers

-- the status of the verdicts, their texts, and their reports
abbrev pub reply_of_answers : Telling → List Part → List PartAnswer → Reply
reply_of_answers told parts answers = record {
  status = status_of (map (λ answer. answer.verdict) answers);
  out = texts_of parts answers;
  err = flat_map (λ answer. report_of told (log_in answer.verdict)) answers;
}

-- the reply to these parts, whose verdicts are told so
pub record IsSearchReply (told : Telling) (parts : List Part) (reply : Reply) : Type 0 where
  pub answers : List PartAnswer
  pub are_answers : HoldsOfParts (IsAnswerTo told) parts answers
  pub reply_is : reply ≡ reply_of_answers told parts answers
