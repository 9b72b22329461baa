-- Classes that are split, by the rows of a set of pairs and by one predicate automaton after another.
use Rattle.std.proofs.Common.{◌≡◌, ◌<◌, ◌≤◌, ◌+◌, ◌↔◌, ℕ, Some, List, [], ◌∷◌, ◌++◌, Contains, length, get_or, take, drop, sym, ap, subst, ◌∙◌, inl, inr, arith, length-append}
use Rattle.std.proofs.lemmas.Bool.{cases_lt}
use Rattle.std.proofs.lemmas.Option.{slice_get-get_or, same_Some}
use Rattle.std.proofs.lemmas.List.{get_or_push, take_more, take-append-drop}
use Rattle.std.proofs.lemmas.List.Elements.{Contains-append_left, Contains-push, Contains-push_cases}
use Rattle.word_automata.specs.Automaton.{Automaton}
use Rattle.abstraction.specs.Merging.{Key, AreClasses}
use Rattle.abstraction.specs.KnownClasses.{AreClassesBefore}
use Rattle.predicate_abstraction.specs.Predicates.{SharesWord, MeetSame, RefinedKey, predicates, key_of, is_related, next_key}
use Rattle.predicate_abstraction.specs.private.Pairs.{Pairs}
use Rattle.predicate_abstraction.specs.private.SharedWords.{AreShared}
use Rattle.abstraction.specs.Partitions.{AreNumbers}
use Rattle.abstraction.specs.FirstStates.{AreFirsts}
use Rattle.abstraction.proofs.ForCallers.{first_same, first_within, take_cases}
use Rattle.predicate_abstraction.specs.private.Splitting.{AreClassesBy, AreClassesOfAllButLast, HaveSame, HaveSameRows, IsSplit, IsSplitByRows}

-- no row
pub rows_none : (set : Pairs) (classes split : List ℕ) → split ≡ classes → AreNumbers set.columns classes → IsSplitByRows set 0 0 classes split
rows_none set classes split same numbers = record {
  numbers = subst (AreNumbers set.columns) (sym same) numbers;
  apart = λ p q lp lq. (
    λ e. (sym (ap (λ xs. get_or xs p 0) same) ∙ e ∙ ap (λ xs. get_or xs q 0) same, λ row from below. absurd (omega arith)),
    λ both. ap (λ xs. get_or xs p 0) same ∙ both.0 ∙ sym (ap (λ xs. get_or xs q 0) same),
  );
}

-- rows in which each column is as the first one of its class
pub rows_whole : (set : Pairs) (first end : ℕ) (classes : List ℕ) → AreNumbers set.columns classes
    → ((p : ℕ) → p < set.columns → HaveSameRows set first end (get_or classes p 0) p) → IsSplitByRows set first end classes classes
rows_whole set first end classes numbers same = record {
  numbers = numbers;
  apart = λ p q lp lq. (
    λ e. (
      e,
      λ row from below within.
          let as_p = (same p lp).same row from below within in
          let as_q = subst (λ k. HaveSame set row k q) (sym e) ((same q lq).same row from below within) in
          (λ h. as_q.0 (as_p.1 h), λ h. as_p.0 (as_q.1 h)),
    ),
    λ both. both.0,
  );
}

-- more rows
pub rows_more : (set : Pairs) (middle end : ℕ) (classes split finer : List ℕ) → middle ≤ end → IsSplitByRows set 0 middle classes split → IsSplitByRows set middle end split finer
    → IsSplitByRows set 0 end classes finer
rows_more set middle end classes split finer order before later = record {
  numbers = later.numbers;
  apart = λ p q lp lq.
      let now = later.apart p q lp lq in
      let earlier = before.apart p q lp lq in (
        λ e.
            let x = now.0 e in
            let y = earlier.0 x.0 in (
              y.0,
              λ row from below within. elim (cases_lt row middle) [
                | inl lower ↦ y.1 row from lower within
                | inr upper ↦ x.1 row upper below within
              ],
            ),
        λ both. now.1 (
          earlier.1 (both.0, λ row from below within. both.1 row from (omega arith) within),
          λ row from below within. both.1 row (omega arith) below within,
        ),
      );
}

-- all rows: as many as there are, or as are needed for each column to be alone
module _ (set : Pairs) (end : ℕ) (classes split : List ℕ) (before : IsSplitByRows set 0 end classes split) where
  rows_enough : ((p q row : ℕ) → p < set.columns → q < set.columns → get_or split p 0 ≡ get_or split q 0 → row < set.rows → HaveSame set row p q)
      → IsSplitByRows set 0 set.rows classes split
  rows_enough same = record {
    numbers = before.numbers;
    apart = λ p q lp lq.
        let now = before.apart p q lp lq in (
          λ e. ((now.0 e).0, λ row from below within. same p q row lp lq e within),
          λ both. now.1 (both.0, λ row from below within. both.1 row from within within),
        );
  }

  pub rows_all : set.rows ≤ end → IsSplitByRows set 0 set.rows classes split
  rows_all all = rows_enough (λ p q row lp lq e within. ((before.apart p q lp lq).0 e).1 row (omega arith) (omega arith) within)

  pub rows_alone : ((p : ℕ) → p < length split → get_or split p 0 ≡ p) → IsSplitByRows set 0 set.rows classes split
  rows_alone alone = rows_enough (λ p q row lp lq e within.
      let count = before.numbers.count in
      let here : p ≡ q = sym (alone p (omega arith)) ∙ e ∙ alone q (omega arith) in
      subst (HaveSame set row p) here (λ h. h, λ h. h))

-- rows of pairs that share a word
pub split_by_shared : (a b : Automaton) (set : Pairs) (classes finer : List ℕ) → AreShared b a set → IsSplitByRows set 0 set.rows classes finer → IsSplit a b classes finer
split_by_shared a b set classes finer shared split = record {
  numbers = subst (λ n. AreNumbers n finer) shared.columns split.numbers;
  apart = λ p q lp lq.
      let columns = shared.columns in
      let rows = shared.rows in
      let now = split.apart p q (omega arith) (omega arith) in (
        λ e.
            let x = now.0 e in (
              x.0,
              λ s below.
                  let same = x.1 s (omega arith) (omega arith) (omega arith) in (
                    λ h. (shares q s).0 (same.0 ((shares p s).1 h)),
                    λ h. (shares p s).0 (same.1 ((shares q s).1 h)),
                  ),
            ),
        λ both. now.1 (
          both.0,
          λ s from below within.
              let same = both.1 s (omega arith) in (
                λ h. (shares q s).1 (same.0 ((shares p s).0 h)),
                λ h. (shares p s).1 (same.1 ((shares q s).0 h)),
              ),
        ),
      );
}
  where
    shares : (p s : ℕ) → Contains set.pairs (s, p) ↔ SharesWord a p b s
    shares p s = (λ h. let word = (shared.shared s p).0 h in (word.0, word.2, word.1), λ word. (shared.shared s p).1 (word.0, word.2, word.1))

-- one more predicate automaton
pub classes_by_more : (a : Automaton) (predicates : List Automaton) (i : ℕ) (b : Automaton) (classes finer : List ℕ) → i < length predicates → b ≡ get_or predicates i b
    → IsSplit a b classes finer → AreClassesBy (take i predicates) a classes → AreClassesBy (take (i + 1) predicates) a finer
classes_by_more a predicates i b classes finer within read split before = record {
  numbers = split.numbers;
  apart = λ p q lp lq.
      let now = split.apart p q lp lq in
      let earlier = before.apart p q lp lq in (
        λ e c there s below. elim (take_cases predicates i b c within there) [
          | inl old ↦ earlier.0 (now.0 e).0 c old s below
          | inr here ↦ let same : b ≡ c = read ∙ here in subst (λ (m : Automaton). (t : ℕ) → t < length m.states → SharesWord a p m t ↔ SharesWord a q m t) same (now.0 e).1 s below
        ],
        λ meet. now.1 (
          earlier.1 (λ c there s below. meet c (subst (λ ps. Contains ps c) (sym more) (Contains-append_left (take i predicates) (get_or predicates i b ∷ []) c there)) s below),
          meet b (subst (λ ps. Contains ps b) (sym more) (subst (Contains (take i predicates ++ get_or predicates i b ∷ [])) (sym read) (Contains-push (take i predicates) (get_or predicates i b)))),
        ),
      );
}
  where
    more : take (i + 1) predicates ≡ take i predicates ++ get_or predicates i b ∷ []
    more = take_more predicates i b within

-- first states of classes
pub classes_by_firsts : (a : Automaton) (predicates : List Automaton) (classes firsts : List ℕ) → AreClasses (MeetSame predicates a) (length a.states) classes
    → AreFirsts classes firsts → AreClassesBy predicates a firsts
classes_by_firsts a predicates classes firsts by are = record {
  numbers = record {
    count = are.count ∙ by.count;
    below = λ p there. let count = by.count in subst (λ n. get_or firsts p 0 < n) count (first_within classes firsts are p (omega arith));
  };
  apart = λ p q lp lq.
      let count = by.count in
      let same = first_same classes firsts are p q (omega arith) (omega arith) in
      let meet = by.related p q lp lq in
      (λ e. meet.0 (same.0 e), λ m. same.1 (meet.1 m));
}

-- one predicate automaton behind all others
pub classes_by_last : (a : Automaton) (others : List Automaton) (b last : Automaton) (predicates : List Automaton) (classes finer : List ℕ)
    → others ++ last ∷ [] ≡ predicates → b ≡ last → IsSplit a b classes finer → AreClassesBy others a classes → AreClassesBy predicates a finer
classes_by_last a others b last predicates classes finer are same split before = record {
  numbers = split.numbers;
  apart = λ p q lp lq.
      let now = split.apart p q lp lq in
      let earlier = before.apart p q lp lq in (
        λ e c there s below. elim (Contains-push_cases others last c (subst (λ ps. Contains ps c) (sym are) there)) [
          | inl old ↦ earlier.0 (now.0 e).0 c old s below
          | inr here ↦
              subst (λ (m : Automaton). (t : ℕ) → t < length m.states → SharesWord a p m t ↔ SharesWord a q m t) (same ∙ here) (now.0 e).1 s below
        ],
        λ meet. now.1 (
          earlier.1 (λ c there s below. meet c (subst (λ ps. Contains ps c) are (Contains-append_left others (last ∷ []) c there)) s below),
          meet b (subst (λ ps. Contains ps b) are (subst (Contains (others ++ last ∷ [])) (sym same) (Contains-push others last))),
        ),
      );
}

-- the last of some automata
pub last_is : (others : List Automaton) (last b : Automaton) (predicates : List Automaton) (i : ℕ) → others ++ last ∷ [] ≡ predicates → length predicates ≡ i + 1
    → b ≡ get_or predicates i b → b ≡ last
last_is others last b predicates i are count at =
    let more = length-append others (last ∷ []) in
    let long = ap length are in
    at ∙ sym (ap (λ ps. get_or ps i b) are) ∙ get_or_push others last b i (omega (arith, more, long, count))

-- where each state is alone, no further predicate automaton splits
pub classes_by_alone : (a : Automaton) (predicates : List Automaton) (i : ℕ) (classes : List ℕ) → ((p : ℕ) → p < length classes → get_or classes p 0 ≡ p)
    → AreClassesBy (take i predicates) a classes → AreClassesBy predicates a classes
classes_by_alone a predicates i classes alone before = record {
  numbers = before.numbers;
  apart = λ p q lp lq. (
    λ e.
        let count = before.numbers.count in
        let here : p ≡ q = sym (alone p (omega arith)) ∙ e ∙ alone q (omega arith) in
        subst (MeetSame predicates a p) here (λ b there s below. (λ h. h, λ h. h)),
    λ meet. (before.apart p q lp lq).1 (λ b there.
        meet b (subst (λ ps. Contains ps b) (take-append-drop i predicates) (Contains-append_left (take i predicates) (drop i predicates) b there))),
  );
}

pub classes_by_all : (predicates : List Automaton) (a : Automaton) (classes : List ℕ) → AreClassesBy predicates a classes → AreClasses (MeetSame predicates a) (length a.states) classes
classes_by_all predicates a classes has = record {
  count = has.numbers.count;
  related = λ p q lp lq.
      let same = has.apart p q lp lq in
      let at_p = slice_get-get_or classes p 0 (let c = has.numbers.count in omega arith) in
      let at_q = slice_get-get_or classes q 0 (let c = has.numbers.count in omega arith) in (
        λ e. same.0 (same_Some (get_or classes p 0) (get_or classes q 0) (sym at_p ∙ e ∙ at_q)),
        λ r. at_p ∙ ap (λ (c : ℕ). Some c) (same.1 r) ∙ sym at_q,
      );
}

-- the automata of the key are those that are kept
pub key_automata : (automata : List Automaton) (started : ℕ) (k : RefinedKey)
    → (let kept : RefinedKey = record { first = predicates (take started automata); refuted = drop started automata } in kept) ≡ k → automata ≡ (key_of k).automata
key_automata automata started k is = sym (take-append-drop started automata) ∙ ap (λ (x : RefinedKey). (key_of x).automata) is

-- classes under the key before are those by all predicate automata but the last one
pub all_but_last : (key : Key) (a : Automaton) (classes : List ℕ) → AreClassesBefore is_related next_key key a classes → AreClassesOfAllButLast key.automata a classes
all_but_last key a classes before = record {
  others = before.before.automata;
  last = before.refuted;
  are = ap (λ (k : Key). k.automata) before.leads;
  classes_are = before.are;
}
