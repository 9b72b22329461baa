-- A text whose head names no language says, begins and passes the same by the grammar of both languages and by that of the first.
use Rattle.std.proofs.Common.{◌≡◌, ◌<◌, ◌-◌, ◌+◌, ◌++◌, ℕ, Bool, List, [], ◌∷◌, length, Some, nat_le, refl, ap, sym, subst, inl, inr, ◌⊎◌, arith, true≢false}
use Rattle.std.specs.Prelude.{◌↔◌}
use Rattle.protocol_lexer.specs.declared.Place.{Place}
use Rattle.protocol_lexer.specs.declared.Token.{Token}
use Rattle.protocol_lexer.specs.Tokens.{AreTokens}
use Rattle.forms.specs.declared.fault.What.{What}
use Rattle.forms.specs.declared.fault.What.TheVariants as Limits
use Rattle.forms.specs.declared.fault.What.TheVariants.{NameBytes}
use Rattle.forms.specs.declared.fault.SyntaxFault.{SyntaxFault}
use Rattle.forms.specs.declared.fault.SyntaxFault.TheVariants as Faults
use Rattle.forms.specs.declared.name.Name.{Name}
use Rattle.forms.specs.declared.symbol.Keyword.TheVariants as Words
use Rattle.forms.specs.declared.symbol.Symbol.{Symbol}
use Rattle.forms.specs.declared.symbol.Symbol.TheVariants.{Reserved}
use Rattle.forms.specs.FirstFault.{IsFault, IsUnexpected, IsTooMany, IsSoundBefore}
use Rattle.forms.specs.Symbol.{Source, source_of, token_at}
use Rattle.forms.specs.Grammar.{Grammar, name, gives, ◌>>=◌, optional, many, many_by, item, up_to, Says, SaysMany, Begins, Passes}
use Rattle.protocol_syntax.specs.declared.protocol.Protocol.{Protocol}
use Rattle.protocol_syntax.specs.declared.protocol.SectionText.{SectionText}
use Rattle.protocol_syntax.specs.declared.protocol.RuleText.{RuleText}
use Rattle.protocol_syntax.specs.declared.protocol.RowText.{RowText}
use Rattle.protocol_syntax.specs.declared.protocol.Kind.{Kind}
use Rattle.protocol_syntax.specs.declared.limits.TheConstants.{MAX_SECTIONS, MAX_ROWS, MAX_RULES}
use Rattle.protocol_syntax.specs.MoveLetters.{MoveBody}
use Rattle.protocol_syntax.specs.Grammar.{section, kind, common_kind, common_move, any_move, at_move, letters_of, more_sections, row, rule, step, second_language, protocol}
use Rattle.protocol_syntax.specs.FirstLanguage.{first_section, first_more_sections, first_step, first_rule, first_protocol, FirstLanguageStays, FirstProtocolsStay, FirstFaultsStay}

-- from an index of a source both grammars say, begin and pass the same
record AlikeAt {A : Type 0} (source : Source) (i : ℕ) (x y : Grammar A) : Type 0 where
  says : (j : ℕ) (a : A) → Says x source i j a ↔ Says y source i j a
  begins : (j : ℕ) → Begins x source i j ↔ Begins y source i j
  passes : (w : What) (j : ℕ) → Passes x source w i j ↔ Passes y source w i j

turned : {A : Type 0} (source : Source) (i : ℕ) (x y : Grammar A) → AlikeAt source i x y → AlikeAt source i y x
turned source i x y alike = record {
  says = λ j a. ((alike.says j a).1, (alike.says j a).0);
  begins = λ j. ((alike.begins j).1, (alike.begins j).0);
  passes = λ w j. ((alike.passes w j).1, (alike.passes w j).0);
}

-- what stands behind the same may depend on it
behind : {A B : Type 0} (source : Source) (i : ℕ) (x : Grammar A) (y z : A → Grammar B)
    → ((k : ℕ) (a : A) → Says x source i k a → AlikeAt source k (y a) (z a)) → AlikeAt source i (x >>= y) (x >>= z)
behind {A} {B} source i x y z alike = record {
  says = λ j b. (
    λ (k, a, first, next). (k, a, first, ((alike k a first).says j b).0 next),
    λ (k, a, first, next). (k, a, first, ((alike k a first).says j b).1 next),
  );
  begins = λ j. (begun j y z (λ k a first. ((alike k a first).begins j).0), begun j z y (λ k a first. ((alike k a first).begins j).1));
  passes = λ w j. (passed j w y z (λ k a first. ((alike k a first).passes w j).0), passed j w z y (λ k a first. ((alike k a first).passes w j).1));
}
  where
    begun : (j : ℕ) (y z : A → Grammar B) → ((k : ℕ) (a : A) → Says x source i k a → Begins (y a) source k j → Begins (z a) source k j)
        → Begins (x >>= y) source i j → Begins (x >>= z) source i j
    begun j y z on (inl first) = inl first
    begun j y z on (inr (k, a, first, next)) = inr (k, a, first, on k a first next)

    passed : (j : ℕ) (w : What) (y z : A → Grammar B) → ((k : ℕ) (a : A) → Says x source i k a → Passes (y a) source w k j → Passes (z a) source w k j)
        → Passes (x >>= y) source w i j → Passes (x >>= z) source w i j
    passed j w y z on (inl first) = inl first
    passed j w y z on (inr (k, a, first, next)) = inr (k, a, first, on k a first next)

-- what stands in front may be alike
before : {A B : Type 0} (source : Source) (i : ℕ) (x y : Grammar A) (z : A → Grammar B) → AlikeAt source i x y → AlikeAt source i (x >>= z) (y >>= z)
before {A} {B} source i x y z alike = record {
  says = λ j b. (
    λ (k, a, first, next). (k, a, (alike.says k a).0 first, next),
    λ (k, a, first, next). (k, a, (alike.says k a).1 first, next),
  );
  begins = λ j. (begun j x y alike, begun j y x (turned source i x y alike));
  passes = λ w j. (passed j w x y alike, passed j w y x (turned source i x y alike));
}
  where
    begun : (j : ℕ) (x y : Grammar A) → AlikeAt source i x y → Begins (x >>= z) source i j → Begins (y >>= z) source i j
    begun j x y alike (inl first) = inl ((alike.begins j).0 first)
    begun j x y alike (inr (k, a, first, next)) = inr (k, a, (alike.says k a).0 first, next)

    passed : (j : ℕ) (w : What) (x y : Grammar A) → AlikeAt source i x y → Passes (x >>= z) source w i j → Passes (y >>= z) source w i j
    passed j w x y alike (inl first) = inl ((alike.passes w j).0 first)
    passed j w x y alike (inr (k, a, first, next)) = inr (k, a, (alike.says k a).0 first, next)

-- an item of one kind or of one that is alike
of_item : {A : Type 0} (source : Source) (i : ℕ) (full : Bool) (what : What) (x y : Grammar A) → AlikeAt source i x y
    → AlikeAt source i (item full what x) (item full what y)
of_item {A} source i full what x y alike = record {
  says = alike.says;
  begins = alike.begins;
  passes = λ w j. (passed j w x y alike, passed j w y x (turned source i x y alike));
}
  where
    passed : (j : ℕ) (w : What) (x y : Grammar A) → AlikeAt source i x y → Passes (item full what x) source w i j → Passes (item full what y) source w i j
    passed j w x y alike (inl own) = inl ((alike.passes w j).0 own)
    passed j w x y alike (inr (no_room, same, next, begun, short)) =
        inr (no_room, same, next, (alike.begins j).0 begun, λ long. short ((alike.passes NameBytes j).1 long))

-- none or more of one kind or of one that is alike
each_said : {A : Type 0} (source : Source) (x y : List A → Grammar A) → ((b : List A) (i : ℕ) → AlikeAt source i (x b) (y b))
    → (values b : List A) (i j : ℕ) → SaysMany (λ c. Says (x c) source) b i j values → SaysMany (λ c. Says (y c) source) b i j values
each_said source x y alike [] b i j same = same
each_said source x y alike (a ∷ values) b i j (k, first, rest) =
    (k, ((alike b i).says k a).0 first, each_said source x y alike values (b ++ a ∷ []) k j rest)

of_many : {A : Type 0} (source : Source) (i : ℕ) (x y : List A → Grammar A) → ((b : List A) (k : ℕ) → AlikeAt source k (x b) (y b))
    → AlikeAt source i (many_by x) (many_by y)
of_many {A} source i x y alike = record {
  says = λ j values. (each_said source x y alike values [] i j, each_said source y x other values [] i j);
  begins = λ j. (begun j x y alike, begun j y x other);
  passes = λ w j. (passed j w x y alike, passed j w y x other);
}
  where
    other : (b : List A) (k : ℕ) → AlikeAt source k (y b) (x b)
    other b k = turned source k (x b) (y b) (alike b k)

    begun : (j : ℕ) (x y : List A → Grammar A) → ((b : List A) (k : ℕ) → AlikeAt source k (x b) (y b))
        → Begins (many_by x) source i j → Begins (many_by y) source i j
    begun j x y alike (inl same) = inl same
    begun j x y alike (inr (k, values, some, next)) =
        inr (k, values, each_said source x y alike values [] i k some, ((alike values k).begins j).0 next)

    passed : (j : ℕ) (w : What) (x y : List A → Grammar A) → ((b : List A) (k : ℕ) → AlikeAt source k (x b) (y b))
        → Passes (many_by x) source w i j → Passes (many_by y) source w i j
    passed j w x y alike (k, values, some, next) =
        (k, values, each_said source x y alike values [] i k some, ((alike values k).passes w j).0 next)

both : {A : Type 0} (source : Source) (i : ℕ) (x y z : Grammar A) → AlikeAt source i x y → AlikeAt source i y z → AlikeAt source i x z
both source i x y z one two = record {
  says = λ j a. (λ s. (two.says j a).0 ((one.says j a).0 s), λ s. (one.says j a).1 ((two.says j a).1 s));
  begins = λ j. (λ s. (two.begins j).0 ((one.begins j).0 s), λ s. (one.begins j).1 ((two.begins j).1 s));
  passes = λ w j. (λ s. (two.passes w j).0 ((one.passes w j).0 s), λ s. (one.passes w j).1 ((two.passes w j).1 s));
}

-- kinds and moves: what came with language 2 is not there in language 1
kind_said : (source : Source) (i j : ℕ) (a : Kind) → Says (kind 1) source i j a → Says common_kind source i j a
unfolding kind
kind_said source i j a (inl common) = common
kind_said source i j a (inr (never, says)) = absurd (true≢false (sym never))

kind_begun : (source : Source) (i j : ℕ) → Begins (kind 1) source i j → Begins common_kind source i j
unfolding kind common_kind
kind_begun source i j (inl common) = common
kind_begun source i j (inr (inl same)) = inl (inl (inl same))
kind_begun source i j (inr (inr (never, begins))) = absurd (true≢false (sym never))

kind_passed : (source : Source) (w : What) (i j : ℕ) → Passes (kind 1) source w i j → Passes common_kind source w i j
unfolding kind
kind_passed source w i j (inl common) = common
kind_passed source w i j (inr (never, passes)) = absurd (true≢false (sym never))

kinds_alike : (source : Source) (i : ℕ) → AlikeAt source i (kind 1) common_kind
unfolding kind
kinds_alike source i = record {
  says = λ j a. (kind_said source i j a, λ common. inl common);
  begins = λ j. (kind_begun source i j, λ common. inl common);
  passes = λ w j. (kind_passed source w i j, λ common. inl common);
}

move_said : (source : Source) (i j : ℕ) (a : MoveBody) → Says (any_move 1) source i j a → Says common_move source i j a
unfolding any_move
move_said source i j a (inl (never, says)) = absurd (true≢false (sym never))
move_said source i j a (inr common) = common

move_begun : (source : Source) (i j : ℕ) → Begins (any_move 1) source i j → Begins common_move source i j
unfolding any_move common_move at_move
move_begun source i j (inl (inl same)) = inl (inl (inl same))
move_begun source i j (inl (inr (never, begins))) = absurd (true≢false (sym never))
move_begun source i j (inr common) = common

move_passed : (source : Source) (w : What) (i j : ℕ) → Passes (any_move 1) source w i j → Passes common_move source w i j
unfolding any_move
move_passed source w i j (inl (never, passes)) = absurd (true≢false (sym never))
move_passed source w i j (inr common) = common

moves_alike : (source : Source) (i : ℕ) → AlikeAt source i (any_move 1) common_move
unfolding any_move
moves_alike source i = record {
  says = λ j a. (move_said source i j a, λ common. inr common);
  begins = λ j. (move_begun source i j, λ common. inr common);
  passes = λ w j. (move_passed source w i j, λ common. inr common);
}

-- sections, steps and rules of them
sections_alike : (source : Source) (used i : ℕ) → AlikeAt source i (section 1 used) (first_section used)
unfolding section first_section
sections_alike source used i = before source i (kind 1) common_kind _ (kinds_alike source i)

more_sections_alike : (source : Source) (first : SectionText) (i : ℕ) → AlikeAt source i (more_sections 1 first) (first_more_sections first)
unfolding more_sections first_more_sections
more_sections_alike source first i =
    of_many source i
    (λ (b : List SectionText). item (nat_le (MAX_SECTIONS - 1) (length b)) Limits.Sections (section 1 (letters_of (first ∷ b))))
    (λ (b : List SectionText). item (nat_le (MAX_SECTIONS - 1) (length b)) Limits.Sections (first_section (letters_of (first ∷ b)))) (λ b k.
    of_item source k (nat_le (MAX_SECTIONS - 1) (length b)) Limits.Sections (section 1 (letters_of (first ∷ b))) (first_section (letters_of (first ∷ b)))
    (sections_alike source (letters_of (first ∷ b)) k))

steps_alike : (source : Source) (i : ℕ) → AlikeAt source i (step 1) first_step
unfolding step first_step
steps_alike source i =
    behind source i name _ _ (λ k a s. behind source k _ _ _ (λ l b t. before source l (any_move 1) common_move _ (moves_alike source l)))

rules_alike : (source : Source) (i : ℕ) → AlikeAt source i (rule 1) first_rule
unfolding rule first_rule
rules_alike source i =
    behind source i _ _ _ (λ k a s. behind source k name _ _ (λ l b t. behind source l _ _ _ (λ m c u.
    before source m (many (step 1)) (many first_step) _ (of_many source m (λ _. step 1) (λ _. first_step) (λ before n. steps_alike source n)))))

more_rules_alike : (source : Source) (i : ℕ) → AlikeAt source i (up_to MAX_RULES Limits.Rules (rule 1)) (up_to MAX_RULES Limits.Rules first_rule)
unfolding up_to
more_rules_alike source i =
    of_many source i (λ (b : List RuleText). item (nat_le MAX_RULES (length b)) Limits.Rules (rule 1))
    (λ (b : List RuleText). item (nat_le MAX_RULES (length b)) Limits.Rules first_rule) (λ b k.
    of_item source k (nat_le MAX_RULES (length b)) Limits.Rules (rule 1) first_rule (rules_alike source k))

-- what stands behind the head, in both grammars
abbrev rest_of : Name → ℕ → Grammar Protocol
rest_of title language = do
  first ← section language 0
  sections ← more_sections language first
  init ← up_to MAX_ROWS Limits.InitRows (row Words.Init)
  rules ← up_to MAX_RULES Limits.Rules (rule language)
  bad ← up_to MAX_ROWS Limits.BadRows (row Words.Bad)
  gives (record { name = title; language = language; sections = first ∷ sections; init = init; rules = rules; bad = bad })

abbrev first_rest : Name → Grammar Protocol
first_rest title = do
  first ← first_section 0
  sections ← first_more_sections first
  init ← up_to MAX_ROWS Limits.InitRows (row Words.Init)
  rules ← up_to MAX_RULES Limits.Rules first_rule
  bad ← up_to MAX_ROWS Limits.BadRows (row Words.Bad)
  gives (record { name = title; language = 1; sections = first ∷ sections; init = init; rules = rules; bad = bad })

abbrev rows_behind : Name → SectionText → List SectionText → Grammar (List RuleText) → List RowText → Grammar Protocol
rows_behind title first sections every_rule init = do
  rules ← every_rule
  bad ← up_to MAX_ROWS Limits.BadRows (row Words.Bad)
  gives (record { name = title; language = 1; sections = first ∷ sections; init = init; rules = rules; bad = bad })

rests_alike : (source : Source) (title : Name) (i : ℕ) → AlikeAt source i (rest_of title 1) (first_rest title)
rests_alike source title i =
    both source i (rest_of title 1) (first_section 0 >>= later) (first_rest title)
    (before source i (section 1 0) (first_section 0) later (sections_alike source 0 i))
    (behind source i (first_section 0) later _ (λ k first s.
    both source k (later first) (first_more_sections first >>= last first) _
    (before source k (more_sections 1 first) (first_more_sections first) (last first) (more_sections_alike source first k))
    (behind source k (first_more_sections first) (last first) _ (λ l sections t. behind source l _ _ _ (λ m init u.
    before source m (up_to MAX_RULES Limits.Rules (rule 1)) (up_to MAX_RULES Limits.Rules first_rule) _ (more_rules_alike source m))))))
  where
    last : SectionText → List SectionText → Grammar Protocol
    last first sections = up_to MAX_ROWS Limits.InitRows (row Words.Init) >>= rows_behind title first sections (up_to MAX_RULES Limits.Rules (rule 1))

    later : SectionText → Grammar Protocol
    later first = more_sections 1 first >>= last first

-- where the token is not `language`, the head of language 2 says nothing
module _ (source : Source) (title : Name) (i : ℕ) (none : (t : Token) → token_at source i ≡ Some (Reserved Words.Language, t) → ⊥) where
  abbrev heads : Grammar Protocol
  heads = optional 1 second_language >>= rest_of title

  never_says : (j n : ℕ) → Says second_language source i j n → ⊥
  unfolding second_language
  never_says j n (k, a, (step, (t, at, e)), rest) = none t at

  never_passes : (w : What) (j : ℕ) → Passes second_language source w i j → ⊥
  unfolding second_language
  never_passes w j (inl h) = h
  never_passes w j (inr (k, a, (step, (t, at, e)), rest)) = none t at

  begins_nothing : (j : ℕ) → Begins second_language source i j → j ≡ i
  unfolding second_language
  begins_nothing j (inl (inl same)) = same
  begins_nothing j (inl (inr (step, (t, at)))) = absurd (none t at)
  begins_nothing j (inr (k, a, (step, (t, at, e)), rest)) = absurd (none t at)

  rest_begins : (j : ℕ) → j ≡ i → Begins (rest_of title 1) source i j
  unfolding section kind common_kind
  rest_begins j same = inl (inl (inl (inl (inl (inl same)))))

  heads_alike : AlikeAt source i heads (rest_of title 1)
  heads_alike = record {
    says = λ j p. (said j p, λ rest. (i, 1, inl (refl, refl), rest));
    begins = λ j. (begun j, λ rest. inr (i, 1, inl (refl, refl), rest));
    passes = λ w j. (passed w j, λ rest. inr (i, 1, inl (refl, refl), rest));
  }
    where
      at_head : (P : ℕ → ℕ → Type 0) (k n : ℕ) → Says (optional 1 second_language) source i k n → P k n → P i 1
      at_head P k n (inl (same, one)) holds = subst (λ m. P i m) one (subst (λ l. P l n) same holds)
      at_head P k n (inr says) holds = absurd (never_says k n says)

      said : (j : ℕ) (p : Protocol) → Says heads source i j p → Says (rest_of title 1) source i j p
      said j p (k, n, head, rest) = at_head (λ l m. Says (rest_of title m) source l j p) k n head rest

      begun : (j : ℕ) → Begins heads source i j → Begins (rest_of title 1) source i j
      begun j (inl (inl same)) = rest_begins j same
      begun j (inl (inr second)) = rest_begins j (begins_nothing j second)
      begun j (inr (k, n, head, rest)) = at_head (λ l m. Begins (rest_of title m) source l j) k n head rest

      passed : (w : What) (j : ℕ) → Passes heads source w i j → Passes (rest_of title 1) source w i j
      passed w j (inl second) = absurd (never_passes w j second)
      passed w j (inr (k, n, head, rest)) = at_head (λ l m. Passes (rest_of title m) source w l j) k n head rest

-- the whole, where the third token is not `language`
protocols_alike : (source : Source) → ((t : Token) → token_at source 2 ≡ Some (Reserved Words.Language, t) → ⊥) → AlikeAt source 0 protocol first_protocol
unfolding protocol first_protocol
protocols_alike source none =
    behind source 0 _ _ _ (λ k a s. behind source k name _ _ (λ l title t.
    both source l (optional 1 second_language >>= rest_of title) (rest_of title 1) (first_rest title)
    (heads_alike source title l (λ u at. none u (subst (λ n. token_at source n ≡ Some (Reserved Words.Language, u)) (third k l s.0 t.0) at)))
    (rests_alike source title l)))
  where
    third : (k l : ℕ) → k ≡ 0 + 1 → l ≡ k + 1 → l ≡ 2
    third k l one two = omega (arith, one, two)

-- a text that says a protocol of the first language has no `language` there
symbol_at : (source : Source) (i : ℕ) (x y : Symbol) (t u : Token) → token_at source i ≡ Some (x, t) → token_at source i ≡ Some (y, u) → x ≡ y
symbol_at source i x y t u e d =
    let pair : (x, t) ≡ (y, u) = cc in ap (λ (p : Symbol × Token). p.0) pair

no_kind : (source : Source) (i j : ℕ) (a : Kind) (t : Token) → Says common_kind source i j a → token_at source i ≡ Some (Reserved Words.Language, t) → ⊥
unfolding common_kind
no_kind source i j a t (inl (l, u, (step, (v, here, e)), g)) at =
    let same : Reserved Words.Cell ≡ Reserved Words.Language = symbol_at source i (Reserved Words.Cell) (Reserved Words.Language) v t here at in absurd cc
no_kind source i j a t (inr (inl (l, u, (step, (v, here, e)), g))) at =
    let same : Reserved Words.Array ≡ Reserved Words.Language = symbol_at source i (Reserved Words.Array) (Reserved Words.Language) v t here at in absurd cc
no_kind source i j a t (inr (inr (inl (l, u, (step, (v, here, e)), g)))) at =
    let same : Reserved Words.Channel ≡ Reserved Words.Language = symbol_at source i (Reserved Words.Channel) (Reserved Words.Language) v t here at in absurd cc
no_kind source i j a t (inr (inr (inr (l, u, (step, (v, here, e)), g)))) at =
    let same : Reserved Words.Stack ≡ Reserved Words.Language = symbol_at source i (Reserved Words.Stack) (Reserved Words.Language) v t here at in absurd cc

no_section : (source : Source) (used i j : ℕ) (s : SectionText) (t : Token) → Says (first_section used) source i j s
    → token_at source i ≡ Some (Reserved Words.Language, t) → ⊥
unfolding first_section
no_section source used i j s t (k, a, says, more) at = no_kind source i k a t says at

rest_names_none : (source : Source) (title : Name) (l j : ℕ) (p : Protocol) (t : Token) → Says (first_rest title) source l j p
    → token_at source l ≡ Some (Reserved Words.Language, t) → ⊥
rest_names_none source title l j p t (m, first, sf, more) at = no_section source 0 l m first t sf at

first_names_none : (source : Source) (j : ℕ) (p : Protocol) → Says first_protocol source 0 j p → (t : Token)
    → token_at source 2 ≡ Some (Reserved Words.Language, t) → ⊥
unfolding first_protocol
first_names_none source j p (k, u, su, (l, title, st, rest)) t at =
    let two : 2 ≡ l = omega (arith, su.0, st.0) in
    rest_names_none source title l j p t rest (subst (λ n. token_at source n ≡ Some (Reserved Words.Language, t)) two at)

language_is : (source : Source) (i j : ℕ) (title : Name) (language : ℕ) (p : Protocol) → Says (rest_of title language) source i j p
    → p.language ≡ language
language_is source i j title language p (a, first, sf, (b, sections, ss, (c, init, si, (d, rules, sr, (e, bad, sb, (end, is)))))) =
    ap (λ (q : Protocol). q.language) is

one_names_none : (source : Source) (j : ℕ) (p : Protocol) → Says protocol source 0 j p → p.language ≡ 1 → (t : Token)
    → token_at source 2 ≡ Some (Reserved Words.Language, t) → ⊥
unfolding protocol second_language
one_names_none source j p (k, u, su, (l, title, st, (m, language, inl (same, one), rest))) h t at =
    let there = subst (λ n. Says (rest_of title n) source l j p) one (subst (λ n. Says (rest_of title language) source n j p) same rest) in
    let two : 2 ≡ l = omega (arith, su.0, st.0) in
    rest_names_none source title l j p t (((rests_alike source title l).says j p).0 there) (subst (λ n. token_at source n ≡ Some (Reserved Words.Language, t)) two at)
one_names_none source j p (k, u, su, (l, title, st, (m, language, inr (a, v, sv, (b, n, sn, (end, two))), rest))) h t at =
    absurd (omega (arith, two, h, language_is source m j title language p rest))

one_is : (source : Source) (j : ℕ) (p : Protocol) → Says first_protocol source 0 j p → p.language ≡ 1
unfolding first_protocol
one_is source j p (k, u, su, (l, title, st, rest)) = language_is source l j title 1 p (((rests_alike source title l).says j p).1 rest)

-- what is within the limits by one grammar is so by one that is alike
pub stays : FirstProtocolsStay
stays text none p = (
  λ m. let alike = protocols_alike (source_of text m.0) (λ t. none m.0 t m.1) in (
    m.0,
    m.1,
    record { says = (alike.says _ p).1 m.2.says; within = λ w k few h. m.2.within w k few ((alike.passes w k).0 h) },
  ),
  λ m. let alike = protocols_alike (source_of text m.0) (λ t. none m.0 t m.1) in (
    m.0,
    m.1,
    record { says = (alike.says _ p).0 m.2.says; within = λ w k few h. m.2.within w k few ((alike.passes w k).1 h) },
  ),
)

pub first_language : FirstLanguageStays
first_language text p = (
  λ m. let alike = protocols_alike (source_of text m.0) (first_names_none (source_of text m.0) _ p m.2.says) in (
    (m.0, m.1, record { says = (alike.says _ p).1 m.2.says; within = λ w k few h. m.2.within w k few ((alike.passes w k).0 h) }),
    one_is (source_of text m.0) _ p m.2.says,
  ),
  λ h. let m = h.0 in
      let alike = protocols_alike (source_of text m.0) (one_names_none (source_of text m.0) _ p m.2.says h.1) in
      (m.0, m.1, record { says = (alike.says _ p).0 m.2.says; within = λ w k few passes. m.2.within w k few ((alike.passes w k).1 passes) }),
)

-- the first token that is wrong by one grammar is so by one that is alike
module _ {A : Type 0} (source : Source) (x y : Grammar A) (alike : AlikeAt source 0 x y) where
  sound : (j : ℕ) → IsSoundBefore x source j → IsSoundBefore y source j
  sound j is k few = ((alike.begins k).0 (is k few).0, λ w passes. (is k few).1 w ((alike.passes w k).1 passes))

  unexpected : (j : ℕ) (place : Place) → IsUnexpected x source j place → IsUnexpected y source j place
  unexpected j place is = record { before = sound j is.before; here = here is.here; at = is.at }
    where
      here : ((j < length source.tokens) × (Begins x source 0 (j + 1) → ⊥)) ⊎ ((j ≡ length source.tokens) × ((a : A) → Says x source 0 j a → ⊥))
          → ((j < length source.tokens) × (Begins y source 0 (j + 1) → ⊥)) ⊎ ((j ≡ length source.tokens) × ((a : A) → Says y source 0 j a → ⊥))
      here (inl (token, stops)) = inl (token, λ begins. stops ((alike.begins (j + 1)).1 begins))
      here (inr (end, none)) = inr (end, λ a says. none a ((alike.says j a).1 says))

  too_many : (j : ℕ) (what : What) (place : Place) → IsTooMany x source j what place → IsTooMany y source j what place
  too_many j what place is = record {
    before = sound j is.before;
    token = is.token;
    begins = (alike.begins (j + 1)).0 is.begins;
    passes = (alike.passes what (j + 1)).0 is.passes;
    at = is.at;
  }

fault_by : (text : List ℕ) (x y : Grammar Protocol) → ((tokens : List Token) → AreTokens text tokens → AlikeAt (source_of text tokens) 0 x y)
    → (fault : SyntaxFault) → IsFault x text fault → IsFault y text fault
fault_by text x y alike (Faults.BadByte place) is = is
fault_by text x y alike (Faults.Unexpected place) (tokens, taken, (j, is)) =
    (tokens, taken, (j, unexpected (source_of text tokens) x y (alike tokens taken) j place is))
fault_by text x y alike (Faults.TooMany what place) (tokens, taken, (j, is)) =
    (tokens, taken, (j, too_many (source_of text tokens) x y (alike tokens taken) j what place is))
fault_by text x y alike Faults.Memory is = is

pub faults_stay : FirstFaultsStay
faults_stay text none fault = (
  fault_by text first_protocol protocol (λ tokens taken.
      turned (source_of text tokens) 0 protocol first_protocol (protocols_alike (source_of text tokens) (λ t. none tokens t taken))) fault,
  fault_by text protocol first_protocol (λ tokens taken. protocols_alike (source_of text tokens) (λ t. none tokens t taken)) fault,
)
