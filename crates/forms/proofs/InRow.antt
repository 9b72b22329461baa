-- Forms one behind another: a production of several parts is read as the nested pairs of its parts are.
use Rattle.std.proofs.Common.{◌≡◌, ℕ, Ok, Err, Result, refl, sym, ap, subst, ◌∙◌}
use Rattle.forms.specs.declared.fault.SyntaxFault.{SyntaxFault}
use Rattle.forms.specs.declared.fault.SyntaxFault.TheVariants as Faults
use Rattle.forms.specs.Symbol.{Source}
use Rattle.forms.specs.Grammar.{Grammar, sign, name, one_of, gives, ◌>>=◌, ◌or◌, optional, many_by, item, only}
use Rattle.forms.specs.Reading.{Answer, Reader, Fails, Gives, follow, read, read_then}

-- what is answered where this is read behind the form; it does not tell how the parts of the form are nested
abbrev pub read_before : {A B : Type 0} → Source → Grammar A → (A → Reader B) → Reader B
read_before s (sign x) after i = follow (read s (sign x) i) after
read_before s name after i = follow (read s name i) after
read_before s (one_of names) after i = follow (read s (one_of names) i) after
read_before s (gives a) after i = after a i
read_before s (x >>= y) after i = read_before s x (λ a. read_before s (y a) after) i
read_before s (x or y) after i = follow (read s (x or y) i) after
read_before s (optional absent x) after i = follow (read s (optional absent x) i) after
read_before s (many_by x) after i = follow (read s (many_by x) i) after
read_before s (item full what x) after i = follow (read s (item full what x) i) after
read_before s (only allowed x) after i = follow (read s (only allowed x) i) after

follow_both : {A B C : Type 0} (s : Source) (y : A → Grammar B) (after : B → Reader C)
    → ((a : A) (j : ℕ) → read_before s (y a) after j ≡ follow (read s (y a) j) after)
    → (r : Answer A) → follow r (λ a. read_before s (y a) after) ≡ follow (follow r (λ a. read s (y a))) after
follow_both s y after each (Ok a) = each a.0 a.1
follow_both s y after each (Err e) = refl

before_is_follow : {A B : Type 0} (s : Source) (x : Grammar A) (after : A → Reader B) (i : ℕ) → read_before s x after i ≡ follow (read s x i) after
unfolding read_then
before_is_follow s (sign x) after i = refl
before_is_follow s name after i = refl
before_is_follow s (one_of names) after i = refl
before_is_follow s (gives a) after i = refl
before_is_follow s (x >>= y) after i =
    before_is_follow s x (λ a. read_before s (y a) after) i ∙ follow_both s y after (λ a. before_is_follow s (y a) after) (read s x i)
before_is_follow s (x or y) after i = refl
before_is_follow s (optional absent x) after i = refl
before_is_follow s (many_by x) after i = refl
before_is_follow s (item full what x) after i = refl
before_is_follow s (only allowed x) after i = refl

follow_nothing : {A : Type 0} (r : Answer A) → follow r (λ a j. Ok (a, j)) ≡ r
follow_nothing (Ok a) = refl
follow_nothing (Err e) = refl

-- what fails first fails, whatever follows
fails_first : {A B : Type 0} (fault : SyntaxFault) (r : Answer A) (y : A → Reader B) → Fails fault r → Fails fault (follow r y)
fails_first Faults.Memory r y fails = tt
fails_first (Faults.BadByte place) r y fails = ap (λ q. follow q y) fails
fails_first (Faults.Unexpected place) r y fails = ap (λ q. follow q y) fails
fails_first (Faults.TooMany what place) r y fails = ap (λ q. follow q y) fails

-- The production is read as the form of its parts, and means what is made of their meanings.
pub record IsReadAs {A C : Type 0} (production : Grammar C) (parts : Grammar A) (made : A → C) : Type 0 where
  pub same : (s : Source) (i : ℕ) → read s production i ≡ follow (read s parts i) (λ a j. Ok (made a, j))

-- so it is where both say the same, however their parts are nested
pub read_as : {A C : Type 0} (production : Grammar C) (parts : Grammar A) (made : A → C)
    → ((s : Source) (i : ℕ) → read_before s production (λ c j. Ok (c, j)) i ≡ read_before s parts (λ a j. Ok (made a, j)) i)
    → IsReadAs production parts made
read_as production parts made alike = record {
  same = λ s i.
      sym (follow_nothing (read s production i)) ∙ sym (before_is_follow s production (λ c j. Ok (c, j)) i) ∙ alike s i
      ∙ before_is_follow s parts (λ a j. Ok (made a, j)) i;
}

module _ {A C : Type 0} {production : Grammar C} {parts : Grammar A} {made : A → C} (alike : IsReadAs production parts made) (s : Source) where
  pub says_made : (i j : ℕ) (a : A) → read s parts i ≡ Ok (a, j) → read s production i ≡ Ok (made a, j)
  says_made i j a is = alike.same s i ∙ ap (λ r. follow r (λ b k. Ok (made b, k))) is

  pub fails_too : (i : ℕ) (fault : SyntaxFault) → Fails fault (read s parts i) → Fails fault (read s production i)
  fails_too i fault fails = subst (Fails fault) (sym (alike.same s i)) (fails_first fault (read s parts i) (λ a j. Ok (made a, j)) fails)

-- A production that means what its parts mean gives what they give.
pub given_alike : {A : Type 0} {production parts : Grammar A} (alike : IsReadAs production parts (λ a. a)) (s : Source) (i j : ℕ)
    (r : Result A SyntaxFault) → Gives (read s parts i) j r → Gives (read s production i) j r
given_alike {A} {production} {parts} alike s i j r given =
    subst (λ (answer : Answer A). Gives answer j r) (sym (alike.same s i ∙ follow_nothing (read s parts i))) given

-- what is read behind a form
pub goes_on : {A B : Type 0} (x : Grammar A) (y : A → Grammar B) (s : Source) (i j : ℕ) (a : A) → read s x i ≡ Ok (a, j)
    → read s (x >>= y) i ≡ read s (y a) j
unfolding read_then
goes_on x y s i j a is = ap (λ r. follow r (λ b. read s (y b))) is

-- and nothing, where that fails
pub fails_with : {A B : Type 0} (x : Grammar A) (y : A → Grammar B) (s : Source) (i : ℕ) (fault : SyntaxFault) → Fails fault (read s x i)
    → Fails fault (read s (x >>= y) i)
unfolding read_then
fails_with x y s i fault fails = fails_first fault (read s x i) (λ a. read s (y a)) fails
