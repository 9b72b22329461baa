-- The replies of commands that search.
use Rattle.std.proofs.Common.{◌≡◌, ◌≢◌, ◌↔◌, ◌≤◌, ◌∙◌, ℕ, Bool, true, false, List, [], ◌∷◌, map, Option, None, append-nil, refl, sym, ap, subst, if◌then◌else◌}
use Rattle.std.specs.List.{list_any}
use Rattle.word_automata.specs.Automaton.{Automaton}
use Rattle.protocol_model.specs.System.{SystemData}
use Rattle.search_history.specs.Histories.{log_of}
use Rattle.search_history.specs.declared.log.Log.{Log}
use Rattle.search_history.specs.declared.log.LogEnd.{LogEnd}
use Rattle.search_history.specs.declared.log.LogEnd.TheVariants.{Closed, Real, Spent}
use Rattle.refinement.specs.Verdicts.{log_in}
use Rattle.refinement.specs.declared.verdict.Verdict.{Verdict}
use Rattle.refinement.specs.declared.verdict.Verdict.TheVariants.{Safe, Unsafe, Unknown}
use Rattle.certificate_writing.specs.Writing.{unknown_text}
use Rattle.protocol_search.specs.Analyses.{IsVerdictText, VerdictShows, CertificateShows, TextShows}
use Rattle.protocol_search.specs.OneVerdict.{VerdictIsDetermined, TextIsDetermined}
use Rattle.protocol_search.specs.SearchLaws.{VerdictsAreSound, VerdictsShow, TextsShow, with_budget, with_logged_budget, LargerBudgetKeepsVerdict, LargerBudgetKeepsText}
use Rattle.protocol_search.specs.SystemHistories.{HistoryEnds, VerdictsHaveHistories, VerdictsAreOfHistories, SearchRefutesOnce}
use Rattle.protocol_search.specs.SystemHistories.{SearchIsBoundedByKeys, SearchIsBoundedByRuns}
use Rattle.protocol_search.specs.Verdicts.{IsVerdictOf, end_of}
use Rattle.protocol_search.specs.declared.search.Search.{Search}
use Rattle.protocol_search.specs.declared.search.Analysis.{Analysis}
use Rattle.protocol_search.specs.declared.search.Analysis.TheVariants.{Forward, Backward, Stuck}
use Rattle.command_words.specs.declared.Method.{Method}
use Rattle.command_replies.specs.declared.status.Status.{Status}
use Rattle.command_replies.specs.declared.status.Status.TheVariants as status
use Rattle.command_replies.specs.declared.reply.Reply.{Reply}
use Rattle.armc_commands.specs.declared.search_reply.Telling.{Telling}
use Rattle.armc_commands.specs.declared.search_reply.Telling.TheVariants.{Certificate, Summary}
use Rattle.armc_commands.specs.Summary.{summary}
use Rattle.armc_commands.specs.SearchReply.{Part, PartAnswer, only_part, IsTold, IsAnswerTo, HoldsOfParts, titled, status_of, reply_of_answers, IsSearchReply}
use Rattle.armc_commands.specs.SearchReply.{is_unsafe, is_unknown}
use Rattle.armc_commands.specs.SearchPromise.{PartPromise, IsStatusOfHistory, spent_text, ToldShows, SearchPromise, ShowsSafe, ShowsUnsafe, CertificatePromise}
use Rattle.armc_commands.specs.Commands.Generate.{IsGenerateReply, GeneratePromise, default_search}
use Rattle.armc_commands.specs.ReplyLaws.{SamePart, SameAnswer}

-- ---- one reply

module _ (verdict-once : VerdictIsDetermined) (text-once : TextIsDetermined) where
  told-once : (told : Telling) (part : Part) (v : Verdict) (one other : List ℕ) → IsTold told part v one → IsTold told part v other → one ≡ other
  told-once (Certificate report) part v one other h k = text-once part.system part.search.analysis v one other h k
  told-once (Summary number) part v one other h k = h ∙ sym k

  answer-once : (told : Telling) (part : Part) (one other : PartAnswer) → IsAnswerTo told part one → IsAnswerTo told part other → one ≡ other
  answer-once told part one other h k =
      let same = verdict-once part.system part.search one.verdict other.verdict h.is_verdict k.is_verdict in
      let text = told-once told part other.verdict one.text other.text (subst (λ v. IsTold told part v one.text) same h.is_told) k.is_told in
      λ i. record { verdict = same i; text = text i }

  answers-once : (told : Telling) (parts : List Part) (one other : List PartAnswer) → HoldsOfParts (IsAnswerTo told) parts one
      → HoldsOfParts (IsAnswerTo told) parts other → one ≡ other
  answers-once told [] [] [] h k = refl
  answers-once told [] [] (b ∷ ys) h k = absurd k
  answers-once told [] (a ∷ xs) other h k = absurd h
  answers-once told (part ∷ parts) [] other h k = absurd h
  answers-once told (part ∷ parts) (a ∷ xs) [] h k = absurd k
  answers-once told (part ∷ parts) (a ∷ xs) (b ∷ ys) h k =
      let first = answer-once told part a b h.0 k.0 in
      let others = answers-once told parts xs ys h.1 k.1 in
      λ i. first i ∷ others i

  pub search-once : (told : Telling) (parts : List Part) (r q : Reply) → IsSearchReply told parts r → IsSearchReply told parts q → r ≡ q
  search-once told parts r q h k =
      h.reply_is ∙ ap (reply_of_answers told parts) (answers-once told parts h.answers k.answers h.are_answers k.are_answers) ∙ sym k.reply_is

-- ---- the end of its history

-- the status of a verdict says how its history ends
done-closed : (v : Verdict) → (status_of (v ∷ []) ≡ status.Done) ↔ (end_of v ≡ Closed)
done-closed (Safe proof log) = (λ e. refl, λ e. refl)
done-closed _ = (λ e. absurd (cc e), λ e. absurd (cc e))

unsafe_real : (v : Verdict) → (status_of (v ∷ []) ≡ status.Unsafe) ↔ (end_of v ≡ Real)
unsafe_real (Unsafe words log) = (λ e. refl, λ e. refl)
unsafe_real _ = (λ e. absurd (cc e), λ e. absurd (cc e))

unknown-spent : (v : Verdict) → (status_of (v ∷ []) ≡ status.Unknown) ↔ (end_of v ≡ Spent)
unknown-spent (Unknown log) = (λ e. refl, λ e. refl)
unknown-spent _ = (λ e. absurd (cc e), λ e. absurd (cc e))

-- the text of an unknown verdict
spent-by : (report : Option Method) (analysis : Analysis) (s : SystemData) (log : Log) (text : List ℕ) → IsVerdictText analysis s (Unknown log) text
    → text ≡ spent_text (Certificate report) analysis log
spent-by report Forward s log text h = h
spent-by report Backward s log text h = h
spent-by report Stuck s log text h = h

spent-told : (told : Telling) (part : Part) (v : Verdict) (text : List ℕ) (log : Log) → end_of v ≡ Spent → log_in v ≡ log → IsTold told part v text
    → text ≡ spent_text told part.search.analysis log
spent-told told part (Safe proof own) text log e same h = absurd (cc e)
spent-told told part (Unsafe words own) text log e same h = absurd (cc e)
spent-told (Certificate report) part (Unknown own) text log e same h =
    spent-by report part.search.analysis part.system own text h ∙ ap (spent_text (Certificate report) part.search.analysis) same
spent-told (Summary number) part (Unknown own) text log e same h = h ∙ ap (spent_text (Summary number) part.search.analysis) same

module _ (histories : VerdictsHaveHistories) (no-others : VerdictsAreOfHistories) (s : SystemData) (search : Search) (v : Verdict) (h : IsVerdictOf s search v) where
  exactly-where : (end : LogEnd) (told : Status) → (status_of (v ∷ []) ≡ told) ↔ (end_of v ≡ end)
      → (status_of (v ∷ []) ≡ told) ↔ ((sum : ℕ) × HistoryEnds s search end sum)
  exactly-where end told says =
      let from = histories s search v h in (
        λ e. (from.sum, subst (λ x. HistoryEnds s search x from.sum) (says.0 e) from.ended),
        λ ended. says.1 ((no-others s search v h end ended.0 ended.1).0),
      )

  status-by-history : IsStatusOfHistory s search (status_of (v ∷ []))
  status-by-history = record {
    done = exactly-where Closed status.Done (done-closed v);
    unsafe = exactly-where Real status.Unsafe (unsafe_real v);
    unknown = exactly-where Spent status.Unknown (unknown-spent v);
  }

-- ---- what it promises

abbrev pub SearchesKeep : Type 0
SearchesKeep = (told : Telling) (parts : List Part) (reply : Reply) → IsSearchReply told parts reply → SearchPromise told parts reply

module _ (histories : VerdictsHaveHistories) (no-others : VerdictsAreOfHistories) (sound : VerdictsAreSound) (shows : VerdictsShow) (texts : TextsShow)
    (once : SearchRefutesOnce) (by-keys : SearchIsBoundedByKeys) (by-runs : SearchIsBoundedByRuns) where
  told-shows : (told : Telling) (part : Part) (answer : PartAnswer) → IsAnswerTo told part answer → ToldShows told part answer
  told-shows (Certificate report) part answer h = texts part.system part.search answer.verdict answer.text h.is_verdict h.is_told
  told-shows (Summary number) part answer h = tt

  part-promised : (told : Telling) (part : Part) (answer : PartAnswer) → IsAnswerTo told part answer → PartPromise told part answer
  part-promised told part answer h =
      let s = part.system in
      let search = part.search in
      let from = histories s search answer.verdict h.is_verdict in
      let ended = from.ended in
      record {
        is_answer = h;
        searched = record {
          comes = from;
          refuted_once = λ by. once s search ended.rounds from.sum by ended.history;
          bounded_by_keys = by-keys s search ended.rounds from.sum ended.history;
          bounded_by_runs = λ run counter. by-runs s search run counter ended.rounds from.sum ended.history;
        };
        by_history = status-by-history histories no-others s search answer.verdict h.is_verdict;
        unknown = λ sum spent.
            let only = no-others s search answer.verdict h.is_verdict Spent sum spent in
            spent-told told part answer.verdict answer.text (log_of search.budget spent.rounds sum) only.0 only.1 h.is_told;
        sound = sound s search answer.verdict h.is_verdict;
        shows = shows s search answer.verdict h.is_verdict;
        text_shows = told-shows told part answer h;
      }

  parts-promised : (told : Telling) (parts : List Part) (answers : List PartAnswer) → HoldsOfParts (IsAnswerTo told) parts answers
      → HoldsOfParts (PartPromise told) parts answers
  parts-promised told [] [] h = tt
  parts-promised told [] (a ∷ xs) h = absurd h
  parts-promised told (part ∷ parts) [] h = absurd h
  parts-promised told (part ∷ parts) (a ∷ xs) h = (part-promised told part a h.0, parts-promised told parts xs h.1)

  pub search-promised : SearchesKeep
  search-promised told parts reply h = record {
    answers = h.answers;
    promised = parts-promised told parts h.answers h.are_answers;
    reply_is = h.reply_is;
  }

-- ---- a reply of one part

pub record IsOneAnswer (P : Part → PartAnswer → Type 0) (told : Telling) (part : Part) (reply : Reply) : Type 0 where
  pub answer : PartAnswer
  pub holds : P part answer
  pub status_is : reply.status ≡ status_of (answer.verdict ∷ [])
  pub out_is : reply.out ≡ titled part.title answer.text

pub one-answer : (P : Part → PartAnswer → Type 0) (told : Telling) (part : Part) (reply : Reply) (answers : List PartAnswer)
    → HoldsOfParts P (part ∷ []) answers → reply ≡ reply_of_answers told (part ∷ []) answers → IsOneAnswer P told part reply
one-answer P told part reply [] h is = absurd h
one-answer P told part reply (a ∷ []) h is = record {
  answer = a;
  holds = h.0;
  status_is = ap (λ (r : Reply). r.status) is;
  out_is = ap (λ (r : Reply). r.out) is ∙ append-nil (titled part.title a.text);
}
one-answer P told part reply (a ∷ b ∷ xs) h is = absurd h.1

-- the part of one search
abbrev pub part-of : SystemData → Search → Part
part-of s search = record { title = None; system = s; search = search }

-- what a verdict shows whose status is 0, and one whose status is 1
pub where-safe : (P : Verdict → Type 0) (Q : Type 0) → ((proof : Automaton) (log : Log) → P (Safe proof log) → Q) → (v : Verdict) → P v
    → status_of (v ∷ []) ≡ status.Done → Q
where-safe P Q each (Safe proof log) h e = each proof log h
where-safe P Q each (Unsafe words log) h e = absurd (cc e)
where-safe P Q each (Unknown log) h e = absurd (cc e)

pub where-unsafe : (P : Verdict → Type 0) (Q : Type 0) → ((words : List (List ℕ)) (log : Log) → P (Unsafe words log) → Q) → (v : Verdict) → P v
    → status_of (v ∷ []) ≡ status.Unsafe → Q
where-unsafe P Q each (Safe proof log) h e = absurd (cc e)
where-unsafe P Q each (Unsafe words log) h e = each words log h
where-unsafe P Q each (Unknown log) h e = absurd (cc e)

pub certificate-promised : SearchesKeep → (s : SystemData) (search : Search) (report : Option Method)
    → ((v : Verdict) (text : List ℕ) → TextShows search.analysis s v text → CertificateShows s v text)
    → ((log : Log) → spent_text (Certificate report) search.analysis log ≡ unknown_text log.counted log.budget)
    → (reply : Reply) → IsSearchReply (Certificate report) (only_part s search) reply → CertificatePromise s (Certificate report) search reply
certificate-promised keep s search report certifies spells reply h =
    let told : Telling = Certificate report in
    let part = part-of s search in
    let promise = keep told (part ∷ []) reply h in
    let one = one-answer (PartPromise told) told part reply promise.answers promise.promised promise.reply_is in
    let v = one.answer.verdict in
    let text = one.answer.text in
    let shows = certifies v text one.holds.text_shows in
    let P : Verdict → Type 0 = λ v. CertificateShows s v text in
    record {
      searched = promise;
      by_history = subst (IsStatusOfHistory s search) (sym one.status_is) one.holds.by_history;
      safe = λ e. subst (ShowsSafe s) (sym one.out_is) (where-safe P (ShowsSafe s text) (λ proof log h. (proof, h.0, h.1, h.2)) v shows (sym one.status_is ∙ e));
      unsafe = λ e. subst (ShowsUnsafe s) (sym one.out_is) (where-unsafe P (ShowsUnsafe s text) (λ words log h. h) v shows (sym one.status_is ∙ e));
      unknown = λ sum spent. one.out_is ∙ one.holds.unknown sum spent ∙ spells (log_of search.budget spent.rounds sum);
    }

pub generate-promised : SearchesKeep → (s : SystemData) (number : ℕ) (reply : Reply) → IsGenerateReply s number reply → GeneratePromise s number reply
generate-promised keep s number reply h =
    let told : Telling = Summary number in
    let promise = keep told (only_part s default_search) reply h in
    let one = one-answer (PartPromise told) told _ reply promise.answers promise.promised promise.reply_is in
    record {
      searched = promise;
      by_history = subst (IsStatusOfHistory s default_search) (sym one.status_is) one.holds.by_history;
      safe = λ e. where-safe (VerdictShows Forward s) _ (λ proof log h. h.1) one.answer.verdict one.holds.shows (sym one.status_is ∙ e);
      unsafe = λ e. where-unsafe (VerdictShows Forward s) _ (λ words log h. h) one.answer.verdict one.holds.shows (sym one.status_is ∙ e);
      unknown = λ sum spent. one.out_is ∙ one.holds.unknown sum spent;
    }

-- ---- a larger budget

same-status : (budget : ℕ) (v : Verdict) → status_of (with_logged_budget budget v ∷ []) ≡ status_of (v ∷ [])
same-status budget (Safe proof log) = refl
same-status budget (Unsafe words log) = refl
same-status budget (Unknown log) = refl

same-summary : (number budget : ℕ) (v : Verdict) → summary number (with_logged_budget budget v) ≡ summary number v
same-summary number budget (Safe proof log) = refl
same-summary number budget (Unsafe words log) = refl
same-summary number budget (Unknown log) = refl

-- the part within another budget
abbrev pub part_within : ℕ → Part → Part
part_within budget part = record { title = part.title; system = part.system; search = with_budget budget part.search }

module _ (keeps : LargerBudgetKeepsVerdict) (keeps-text : LargerBudgetKeepsText) where
  told-stays : (told : Telling) (part : Part) (larger : ℕ) (one other : PartAnswer) → part.search.budget ≤ larger → IsAnswerTo told part one
      → end_of one.verdict ≢ Spent → IsAnswerTo told (part_within larger part) other → other.text ≡ one.text
  told-stays (Certificate report) part larger one other more h decided k =
      keeps-text part.system part.search larger one.verdict other.verdict one.text other.text more h.is_verdict decided k.is_verdict h.is_told k.is_told
  told-stays (Summary number) part larger one other more h decided k =
      let same = keeps part.system part.search larger one.verdict other.verdict more h.is_verdict decided k.is_verdict in
      k.is_told ∙ ap (summary number) same ∙ same-summary number larger one.verdict ∙ sym h.is_told

  pub part-stays : (told : Telling) (part : Part) (larger : ℕ) (one other : PartAnswer) → part.search.budget ≤ larger
      → IsAnswerTo told part one → IsAnswerTo told (part_within larger part) other → status_of (one.verdict ∷ []) ≢ status.Unknown → SamePart one other
  part-stays told part larger one other more h k decided =
      let open_end : end_of one.verdict ≢ Spent = λ e. decided ((unknown-spent one.verdict).1 e) in
      let same = keeps part.system part.search larger one.verdict other.verdict more h.is_verdict open_end k.is_verdict in
      record {
        status = ap (λ v. status_of (v ∷ [])) same ∙ same-status larger one.verdict;
        text = told-stays told part larger one other more h open_end k;
      }

  pub reply-stays : (told : Telling) (part : Part) (larger : ℕ) (one other : Reply) → part.search.budget ≤ larger → IsSearchReply told (part ∷ []) one
      → one.status ≢ status.Unknown → IsSearchReply told (part_within larger part ∷ []) other → SameAnswer one other
  reply-stays told part larger one other more h decided k =
      let a = one-answer (IsAnswerTo told) told part one h.answers h.are_answers h.reply_is in
      let b = one-answer (IsAnswerTo told) told (part_within larger part) other k.answers k.are_answers k.reply_is in
      let same = part-stays told part larger a.answer b.answer more a.holds b.holds (λ e. decided (a.status_is ∙ e)) in
      record {
        status = b.status_is ∙ same.status ∙ sym a.status_is;
        out = b.out_is ∙ ap (titled part.title) same.text ∙ sym a.out_is;
      }

-- ---- the status of a reply to a search is one of three

pub not-of-search : (other : Status) → (status.Unsafe ≡ other → ⊥) → (status.Unknown ≡ other → ⊥) → (status.Done ≡ other → ⊥)
    → (told : Telling) (parts : List Part) (reply : Reply) → IsSearchReply told parts reply → reply.status ≡ other → ⊥
not-of-search other unsafe unknown done told parts reply h e =
    let verdicts = map (λ (a : PartAnswer). a.verdict) h.answers in
    go (list_any is_unsafe verdicts) (list_any is_unknown verdicts) (sym (ap (λ (r : Reply). r.status) h.reply_is) ∙ e)
  where
    go : (a b : Bool) → (if a then status.Unsafe else (if b then status.Unknown else status.Done)) ≡ other → ⊥
    go true b f = unsafe f
    go false true f = unknown f
    go false false f = done f
